-- The definitions at some values, by computation. Assumes nothing.
use Rattle.std.proofs.Common.{◌≡◌, true, pos, negsuc, refl}
use lib.Ieee.{fin, round}
use Rattle.std.specs.Float.{round_with}
use Rattle.ieee_whole.specs.Whole.{floor_of, ceil_of}

-- floor (-1 / 2) is -1, and ceil (-1 / 2) is -0
floor_half : floor_of (fin true 1 (negsuc 0)) ≡ fin true 1 (pos 0)
unfolding round_with round
floor_half = refl

ceil_half : ceil_of (fin true 1 (negsuc 0)) ≡ fin true 0 (pos 0)
unfolding round_with round
ceil_half = refl
