-- The numbers of consts.rs, lent as a list, are the defaults: a call under this list is the call without settings. Assumes nothing.
use mathlib.Core.Path.{◌≡◌, refl}
use Rattle.std.specs.Prelude.{List, [], ◌∷◌, Float}
use Rattle.ieee.specs.Floats.{float, f0_15, f0_35, f0_70, f1_5, f2}
use Rattle.ieee.proofs.Opened as Ieee
use Rattle.consts.specs.Consts.{defaults}
use Rattle.c_settings.specs.Lent.{settings_of}

abbrev pub default_list : List Float
default_list = f0_35 ∷ f0_70 ∷ f1_5 ∷ float 64 ∷ float 6 ∷ float 12 ∷ f0_15 ∷ f2 ∷ float 2 ∷ []

pub defaults-lent : settings_of default_list ≡ defaults
unfolding Ieee.opened
defaults-lent = refl
