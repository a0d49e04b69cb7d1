-- The definitions of `footprint`, opened together: a proof that computes with them unfolds this one name. Assumes nothing.
use Rattle.footprint.specs.Footprints.{footprint}

unfoldable pub opened : Unit {0}
unfolding footprint
opened = tt
