-- The root at some values, by computation. Patterns are binary64's. Assumes nothing.
use mathlib.Core.Path.{◌≡◌, refl}
use mathlib.Core.Bool.{true, false}
use Prim.Native.Nat.{ℕ}
use lib.Ieee.{nan, inf, binary64, to_bits, of_bits}
use Rattle.ieee_root.specs.Root.{root}

-- the pattern of the root of the value of a pattern
abbrev root_bits : ℕ → ℕ
root_bits b = to_bits binary64 (root binary64 (of_bits binary64 b))

-- 2.0
two : root_bits 0x4000_0000_0000_0000 ≡ 0x3ff6_a09e_667f_3bcd
unfolding root of_bits to_bits
two = refl

-- 9.0
nine : root_bits 0x4022_0000_0000_0000 ≡ 0x4008_0000_0000_0000
unfolding root of_bits to_bits
nine = refl

-- the smallest and the largest value
smallest : root_bits 1 ≡ 0x1e60_0000_0000_0000
unfolding root of_bits to_bits
smallest = refl

largest : root_bits 0x7fef_ffff_ffff_ffff ≡ 0x5fef_ffff_ffff_ffff
unfolding root of_bits to_bits
largest = refl

-- -0.0, -1.0 and the infinities
minus_zero : root_bits 0x8000_0000_0000_0000 ≡ 0x8000_0000_0000_0000
unfolding root of_bits to_bits
minus_zero = refl

minus_one : root binary64 (of_bits binary64 0xbff0_0000_0000_0000) ≡ nan
unfolding root of_bits
minus_one = refl

minus_infinity : root binary64 (inf true) ≡ nan
unfolding root
minus_infinity = refl

pub infinity : root binary64 (inf false) ≡ inf false
unfolding root
infinity = refl
