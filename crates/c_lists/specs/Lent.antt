-- What the calls for C and Rust read of the lists that they are lent. Past the end of a list there is
-- no number: it reads as a NaN. Definitions only, to be believed.
use Rattle.std.specs.Prelude.{ℕ, ◌+◌, List, [], ◌∷◌, get_or, Float}
use Rattle.std.specs.Float.{nan}
use Rattle.pixel.specs.Pixels.{source, direction}
use Rattle.pixel.specs.declared.SourcePixel.{SourcePixel}
use Rattle.pixel.specs.declared.WorkingPixel.{WorkingPixel}
use Rattle.homography.specs.declared.PerspectiveTransform.{PerspectiveTransform}
use Rattle.line.specs.declared.Line2.{Line2}
use Rattle.line.specs.Line.{line}

abbrev pub float_at : List Float → ℕ → Float
float_at s i = get_or s i nan

-- x0, y0 to x3, y3
abbrev pub quad_of : List Float → List SourcePixel
quad_of s = source (float_at s 0) (float_at s 1) ∷ source (float_at s 2) (float_at s 3) ∷ source (float_at s 4) (float_at s 5) ∷ source (float_at s 6) (float_at s 7) ∷ []

abbrev pub working_at : List Float → ℕ → WorkingPixel
working_at s i = record { 0 = float_at s i; 1 = float_at s (i + 1) }

-- x0, y0 to x3, y3 in working pixels
abbrev pub working_of : List Float → List WorkingPixel
working_of s = working_at s 0 ∷ working_at s 2 ∷ working_at s 4 ∷ working_at s 6 ∷ []

-- a11, a21, a31, a12, a22, a32, a13, a23, a33
abbrev pub map_of : List Float → PerspectiveTransform
map_of s = record {
  a11 = float_at s 0;
  a21 = float_at s 1;
  a31 = float_at s 2;
  a12 = float_at s 3;
  a22 = float_at s 4;
  a32 = float_at s 5;
  a13 = float_at s 6;
  a23 = float_at s 7;
  a33 = float_at s 8;
}

-- the centroid, then the direction
abbrev pub line_of : List Float → Line2
line_of s = line (source (float_at s 0) (float_at s 1)) (direction (float_at s 2) (float_at s 3))
