-- homography.rs: the map of the unit square to four corners (28 to 71), and of one quad to another (210 to
-- 214), in the Rust's order of operations. Definitions only, to be believed.
use Rattle.std.specs.Prelude.{◌&&◌, List, Float, Option, Some, None, ok_or, Result}
use Rattle.prelude.specs.Prelude.{when◌then◌else◌}
use Rattle.number.specs.declared.Refusal.{Refusal}
use Rattle.number.specs.declared.Refusal.TheVariants as refusal
use Rattle.ieee.specs.Floats.{◌⊕◌, ◌⊖◌, ◌⊗◌, ◌⊘◌, ◌≐◌, f0, f1}
use Rattle.pixel.specs.Pixels.{corner}
use Rattle.pixel.specs.declared.SourcePixel.{SourcePixel}
use Rattle.homography.specs.declared.PerspectiveTransform.{PerspectiveTransform}
use Rattle.homography.specs.Homography.{inverse, composed}

-- ---- `square_to_quad`: the unit square (0, 0), (1, 0), (1, 1), (0, 1) to four corners

-- the corners are a parallelogram; it has no map where its area is 0
abbrev pub affine : (x0 y0 x1 y1 x2 y2 x3 y3 : Float) → Option PerspectiveTransform
affine x0 y0 x1 y1 x2 y2 x3 y3 =
    let cross = (x1 ⊖ x0) ⊗ (y3 ⊖ y0) ⊖ (y1 ⊖ y0) ⊗ (x3 ⊖ x0) in
    when cross ≐ f0 then None else
    Some (record {
      a11 = x1 ⊖ x0;
      a21 = x2 ⊖ x1;
      a31 = x0;
      a12 = y1 ⊖ y0;
      a22 = y2 ⊖ y1;
      a32 = y0;
      a13 = f0;
      a23 = f0;
      a33 = f1;
    })

-- any other corners (Heckbert)
abbrev pub projective : (x0 y0 x1 y1 x2 y2 x3 y3 dx3 dy3 : Float) → Option PerspectiveTransform
projective x0 y0 x1 y1 x2 y2 x3 y3 dx3 dy3 =
    let dx1 = x1 ⊖ x2 in
    let dx2 = x3 ⊖ x2 in
    let dy1 = y1 ⊖ y2 in
    let dy2 = y3 ⊖ y2 in
    let den = dx1 ⊗ dy2 ⊖ dx2 ⊗ dy1 in
    let a13 = (dx3 ⊗ dy2 ⊖ dx2 ⊗ dy3) ⊘ den in
    let a23 = (dx1 ⊗ dy3 ⊖ dx3 ⊗ dy1) ⊘ den in
    when den ≐ f0 then None else
    Some (record {
      a11 = x1 ⊖ x0 ⊕ a13 ⊗ x1;
      a21 = x3 ⊖ x0 ⊕ a23 ⊗ x3;
      a31 = x0;
      a12 = y1 ⊖ y0 ⊕ a13 ⊗ y1;
      a22 = y3 ⊖ y0 ⊕ a23 ⊗ y3;
      a32 = y0;
      a13 = a13;
      a23 = a23;
      a33 = f1;
    })

abbrev pub quad_map : (x0 y0 x1 y1 x2 y2 x3 y3 : Float) → Option PerspectiveTransform
quad_map x0 y0 x1 y1 x2 y2 x3 y3 =
    let dx3 = x0 ⊖ x1 ⊕ x2 ⊖ x3 in
    let dy3 = y0 ⊖ y1 ⊕ y2 ⊖ y3 in
    when (dx3 ≐ f0) && (dy3 ≐ f0)
    then affine x0 y0 x1 y1 x2 y2 x3 y3
    else projective x0 y0 x1 y1 x2 y2 x3 y3 dx3 dy3

abbrev pub square_to_quad : List SourcePixel → Option PerspectiveTransform
square_to_quad q =
    quad_map (corner q 0).0 (corner q 0).1 (corner q 1).0 (corner q 1).1 (corner q 2).0 (corner q 2).1 (corner q 3).0 (corner q 3).1

-- ---- `quad_to_quad`

abbrev pub joined : Option PerspectiveTransform → Option PerspectiveTransform → Option PerspectiveTransform
joined None d = None
joined (Some s) None = None
joined (Some s) (Some d) = Some (composed (inverse s) d)

-- back from one quad to the unit square, and on to the other
abbrev pub quad_to_quad : List SourcePixel → List SourcePixel → Option PerspectiveTransform
quad_to_quad from to = joined (square_to_quad from) (square_to_quad to)

-- ---- what a call returns

abbrev pub map_answer : Option PerspectiveTransform → Result PerspectiveTransform Refusal
map_answer map = ok_or map refusal.Quad
