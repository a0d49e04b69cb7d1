-- The definitions of `grid`, opened together: a proof that computes with them unfolds this one name. Assumes nothing.
use Rattle.grid.specs.Grids.{dark, edge_dark, bits}

unfoldable pub opened : Unit {0}
unfolding dark edge_dark bits
opened = tt
