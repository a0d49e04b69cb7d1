-- The definitions of `edge`, opened together: a proof that computes with them unfolds this one name. Assumes nothing.
use Rattle.edge.specs.Edge.{points}

unfoldable pub opened : Unit {0}
unfolding points
opened = tt
