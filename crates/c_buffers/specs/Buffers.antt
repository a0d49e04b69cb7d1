-- How the calls for C and Rust write values into the buffers that they are lent. A value past the end
-- of a buffer is left out. Definitions only, to be believed.
use Rattle.std.specs.Prelude.{ℕ, ◌+◌, List, set, Float}
use Rattle.ieee.specs.Floats.{f0}
use Rattle.pixel.specs.Pixels.{source, direction, edge_point}
use Rattle.pixel.specs.declared.SourcePixel.{SourcePixel}
use Rattle.pixel.specs.declared.EdgePoint.{EdgePoint}
use Rattle.homography.specs.declared.PerspectiveTransform.{PerspectiveTransform}
use Rattle.line.specs.declared.Line2.{Line2}
use Rattle.line.specs.Line.{line}

-- ---- what is written of a refusal: zeros

abbrev pub zero_place : SourcePixel
zero_place = source f0 f0

abbrev pub zero_point : EdgePoint
zero_point = edge_point zero_place f0

abbrev pub zero_line : Line2
zero_line = line zero_place (direction f0 f0)

abbrev pub zero_map : PerspectiveTransform
zero_map = record { a11 = f0; a21 = f0; a31 = f0; a12 = f0; a22 = f0; a32 = f0; a13 = f0; a23 = f0; a33 = f0 }

-- ---- the buffers

-- a place from an index on
abbrev pub with_place_at : ℕ → SourcePixel → List Float → List Float
with_place_at at p out = set (set out at p.0) (at + 1) p.1

abbrev pub with_place : SourcePixel → List Float → List Float
with_place p out = with_place_at 0 p out

abbrev pub with_point : EdgePoint → List Float → List Float
with_point p out = set (with_place p.pos out) 2 p.weight

abbrev pub with_line : Line2 → List Float → List Float
with_line l out = set (set (with_place l.centroid out) 2 l.dir.x) 3 l.dir.y

-- three values from a place on
abbrev pub with_row : ℕ → (x y z : Float) → List Float → List Float
with_row at x y z out = set (set (set out at x) (at + 1) y) (at + 2) z

abbrev pub with_map : PerspectiveTransform → List Float → List Float
with_map m out = with_row 6 m.a13 m.a23 m.a33 (with_row 3 m.a12 m.a22 m.a32 (with_row 0 m.a11 m.a21 m.a31 out))
