-- The definitions of `profile`, opened together: a proof that computes with them unfolds this one name. Assumes nothing.
use Rattle.profile.specs.Profile.{sample_profile, passes}

unfoldable pub opened : Unit {0}
unfolding sample_profile passes
opened = tt
