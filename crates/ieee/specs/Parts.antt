-- What the functions of `ieee` compute: Rust's `abs`, `is_finite` and `max` of `f64`. The first two are the
-- library's, named as they are read. Definitions only, to be believed.
use Rattle.std.specs.Prelude.{Bool, false, Float}
use Rattle.std.specs.Float.{float_with_sign, float_is_finite}
use Rattle.std.specs.Float.Ieee.{is_nan}
use Rattle.prelude.specs.Prelude.{when◌then◌else◌}
use Rattle.ieee.specs.Floats.{◌≺◌}

-- x without its sign
abbrev pub magnitude : Float → Float
magnitude x = float_with_sign false x

-- neither a NaN nor an infinity
abbrev pub is_finite : Float → Bool
is_finite x = float_is_finite x

-- The larger of a and b, and of two zeros the first. Where one of them is a NaN it is the other: Rust's `f64::max`.
abbrev pub maximum : Float → Float → Float
maximum a b =
    when is_nan a then b else
    when is_nan b then a else
    when a ≺ b then b else
    a
