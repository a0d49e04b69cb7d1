-- The definition at some values, by computation. Assumes nothing.
use mathlib.Core.Path.{◌≡◌, refl}
use mathlib.Core.Bool.{true, false}
use lib.IntN.{pos}
use lib.Ieee.{binary64, nan, inf, fin, is_nan, of_bits}
use Rattle.ieee.specs.Floats.{f0, f1}
use Rattle.ieee.proofs.Opened.{opened}
use Rattle.arctan_table.specs.Table.{entry}
use Rattle.arctan.specs.Arctan.{arctangent}

of_nan : arctangent nan ≡ nan
unfolding opened is_nan arctangent
of_nan = refl

-- of either zero it is 0
of_zero : arctangent f0 ≡ f0
unfolding opened is_nan entry arctangent
of_zero = refl

of_minus_zero : arctangent (fin true 0 (pos 0)) ≡ f0
unfolding opened is_nan entry arctangent
of_minus_zero = refl

-- of 1 it is an eighth of a turn, and of the infinity a quarter
of_one : arctangent f1 ≡ of_bits binary64 0x3fe9_21fb_5444_2d18
unfolding opened is_nan entry arctangent
of_one = refl

of_infinity : arctangent (inf false) ≡ of_bits binary64 0x3ff9_21fb_5444_2d18
unfolding opened is_nan entry arctangent
of_infinity = refl

-- at half a unit of the place, 1 / 512, the second term counts
of_small : arctangent (of_bits binary64 0x3f60_0000_0000_0000) ≡ of_bits binary64 0x3f5f_fffd_5555_bbbb
unfolding opened is_nan entry arctangent
of_small = refl
