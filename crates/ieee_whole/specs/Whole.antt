-- What the functions of `ieee_whole` compute: Rust's `floor`, `ceil` and `as u32` of `f64`. The first two are the
-- library's. Definitions only, to be believed.
use Rattle.std.specs.Prelude.{cond, ◌&&◌, Float, Option, Some, None}
use Rattle.std.specs.Float.{floor, ceil, binary64}
use Rattle.ieee.specs.Floats.{◌⊖◌, ◌≺◌, f0, f1, float, whole_part}
use Rattle.ieee_whole.specs.declared.Split.{Split}

-- the largest whole number that is at most x, with x's sign
abbrev pub floor_of : Float → Float
floor_of x = floor binary64 x

-- the smallest whole number that is at least x, with x's sign
abbrev pub ceil_of : Float → Float
ceil_of x = ceil binary64 x

-- x's whole part, and what is left of x
abbrev pub split_whole : Float → Split
split_whole x = record { whole = whole_part x; left = x ⊖ float (whole_part x) }

-- a split, if what is left lies between 0 and 1
abbrev pub if_between : Split → Option Split
if_between s = cond (f0 ≺ s.left && s.left ≺ f1) (Some s) None

-- x split, where it lies between two neighbouring whole numbers and is none itself
abbrev pub split_between : Float → Option Split
split_between x = if_between (split_whole x)
