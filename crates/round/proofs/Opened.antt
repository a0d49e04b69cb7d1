-- The definitions of `round`, opened together: a proof that computes with them unfolds this one name. Assumes nothing.
use Rattle.round.specs.Round.{edges_from, round}

unfoldable pub opened : Unit {0}
unfolding edges_from round
opened = tt
