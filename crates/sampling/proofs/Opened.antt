-- The definitions of `sampling`, opened together: a proof that computes with them unfolds this one name. Assumes nothing.
use Rattle.sampling.specs.Sampling.{pixels_read, interpolate}

unfoldable pub opened : Unit {0}
unfolding pixels_read interpolate
opened = tt
