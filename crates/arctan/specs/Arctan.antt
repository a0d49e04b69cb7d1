-- The arctangent that stands in for the Rust's `f64::atan`, by a table and three terms of a series.
-- It is made for a ratio r of 0 or more, and total: of a negative r, which nobody asks for, it is
-- the three terms alone, since the whole part of a negative value is 0; of -0 it is 0. Definitions
-- only, to be believed. That no place past 256 is looked up is `place-within` of proofs/Places. It
-- is neither monotone nor exact to rounding.
use Rattle.std.specs.Prelude.{ℕ, Float}
use Rattle.std.specs.Float.{binary64, nan}
use Rattle.std.specs.Float.Ieee.{is_nan, of_bits}
use Rattle.prelude.specs.Prelude.{when◌then◌else◌}
use Rattle.ieee.specs.Floats.{◌⊕◌, ◌⊖◌, ◌⊗◌, ◌⊘◌, ◌≺◌, f1, f2, f3, float, whole_part}
use Rattle.arctan_table.specs.Table.{entry}

abbrev pub f5 : Float
f5 = of_bits binary64 0x4014_0000_0000_0000

abbrev pub f256 : Float
f256 = of_bits binary64 0x4070_0000_0000_0000

abbrev pub f2^52 : Float
f2^52 = of_bits binary64 0x4330_0000_0000_0000

-- the table's arctangent of i / 256
abbrev pub angle : ℕ → Float
angle i = float (entry i) ⊘ f2^52

-- the place in the table of a q from 0 to 1: the floor of 256 q
abbrev pub place : Float → ℕ
place q = whole_part (q ⊗ f256)

-- Of a q from 0 to 1, by the arctangent of c = i / 256, which is at or below q. The angle between
-- the two has the tangent t, and is t - t³ / 3 + t⁵ / 5.
abbrev pub arctangent_to_1 : Float → Float
arctangent_to_1 q =
    let i = place q in
    let c = float i ⊘ f256 in
    let t = (q ⊖ c) ⊘ (f1 ⊕ q ⊗ c) in
    angle i ⊕ t ⊖ t ⊗ t ⊗ t ⊘ f3 ⊕ t ⊗ t ⊗ t ⊗ t ⊗ t ⊘ f5

-- Above 1 what the inverse lacks to a right angle, which is twice the arctangent of 1.
unfoldable pub arctangent : Float → Float
arctangent r =
    when is_nan r then nan else
    when f1 ≺ r then f2 ⊗ angle 256 ⊖ arctangent_to_1 (f1 ⊘ r) else
    arctangent_to_1 r
