-- The definitions of `rounds`, opened together: a proof that computes with them unfolds this one name. Assumes nothing.
use Rattle.rounds.specs.Rounds.{remaining_rounds, rounds}

unfoldable pub opened : Unit {0}
unfolding remaining_rounds rounds
opened = tt
