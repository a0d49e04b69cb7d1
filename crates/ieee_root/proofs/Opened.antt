-- The definitions of `ieee_root`, opened together: a proof that computes with them unfolds this one name. Assumes nothing.
use Rattle.ieee_root.specs.Root.{root_by, root_units, root}

unfoldable pub opened : Unit {0}
unfolding root_by root_units root
opened = tt
