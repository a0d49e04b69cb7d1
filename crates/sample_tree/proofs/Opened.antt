-- The definitions of `sample_tree`, opened together: a proof that computes with them unfolds this one name. Assumes nothing.
use Rattle.sample_tree.specs.SampleTree.{◌>>=◌, value, reads, sample_count}

unfoldable pub opened : Unit {0}
unfolding ◌>>=◌ value reads sample_count
opened = tt
