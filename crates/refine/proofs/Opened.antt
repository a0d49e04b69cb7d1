-- The definitions of `refine`, opened together: a proof that computes with them unfolds this one name. Assumes nothing.
use Rattle.refine.specs.Refine.{refinement, result, reads_of}

unfoldable pub opened : Unit {0}
unfolding refinement result reads_of
opened = tt
