-- The definitions of `probes`, opened together: a proof that computes with them unfolds this one name. Assumes nothing.
use Rattle.probes.specs.Probes.{candidates_from, every_from}

unfoldable pub opened : Unit {0}
unfolding candidates_from every_from
opened = tt
