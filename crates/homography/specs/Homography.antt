-- homography.rs: where a map sends a point (91 to 97), and the maps that are made of maps (112 to 189), in
-- the Rust's order of operations. Definitions only, to be believed.
use Rattle.std.specs.Prelude.{Float}
use Rattle.ieee.specs.Floats.{◌⊕◌, ◌⊖◌, ◌⊗◌, ◌⊘◌, f0, f1}
use Rattle.pixel.specs.Pixels.{source}
use Rattle.pixel.specs.declared.SourcePixel.{SourcePixel}
use Rattle.homography.specs.declared.PerspectiveTransform.{PerspectiveTransform}

-- ---- `map`, `scaled`, `inverse`, `then`

abbrev pub map_point : PerspectiveTransform → Float → Float → SourcePixel
map_point m u v =
    let w = m.a13 ⊗ u ⊕ m.a23 ⊗ v ⊕ m.a33 in
    source ((m.a11 ⊗ u ⊕ m.a21 ⊗ v ⊕ m.a31) ⊘ w) ((m.a12 ⊗ u ⊕ m.a22 ⊗ v ⊕ m.a32) ⊘ w)

-- (u, v) to (sx u, sy v)
abbrev pub scaled : Float → Float → PerspectiveTransform
scaled sx sy = record { a11 = sx; a21 = f0; a31 = f0; a12 = f0; a22 = sy; a32 = f0; a13 = f0; a23 = f0; a33 = f1 }

-- the adjugate: the inverse up to a scale, which a map does not see
abbrev pub inverse : PerspectiveTransform → PerspectiveTransform
inverse m = record {
  a11 = m.a22 ⊗ m.a33 ⊖ m.a23 ⊗ m.a32;
  a21 = m.a23 ⊗ m.a31 ⊖ m.a21 ⊗ m.a33;
  a31 = m.a21 ⊗ m.a32 ⊖ m.a22 ⊗ m.a31;
  a12 = m.a13 ⊗ m.a32 ⊖ m.a12 ⊗ m.a33;
  a22 = m.a11 ⊗ m.a33 ⊖ m.a13 ⊗ m.a31;
  a32 = m.a12 ⊗ m.a31 ⊖ m.a11 ⊗ m.a32;
  a13 = m.a12 ⊗ m.a23 ⊖ m.a13 ⊗ m.a22;
  a23 = m.a13 ⊗ m.a21 ⊖ m.a11 ⊗ m.a23;
  a33 = m.a11 ⊗ m.a22 ⊖ m.a12 ⊗ m.a21;
}

-- a row of the outer map by a column of the inner
abbrev pub dot : (a b c x y z : Float) → Float
dot a b c x y z = a ⊗ x ⊕ b ⊗ y ⊕ c ⊗ z

-- `inner.then(outer)`: the matrix product of outer and inner
abbrev pub composed : PerspectiveTransform → PerspectiveTransform → PerspectiveTransform
composed inner outer = record {
  a11 = dot outer.a11 outer.a21 outer.a31 inner.a11 inner.a12 inner.a13;
  a21 = dot outer.a11 outer.a21 outer.a31 inner.a21 inner.a22 inner.a23;
  a31 = dot outer.a11 outer.a21 outer.a31 inner.a31 inner.a32 inner.a33;
  a12 = dot outer.a12 outer.a22 outer.a32 inner.a11 inner.a12 inner.a13;
  a22 = dot outer.a12 outer.a22 outer.a32 inner.a21 inner.a22 inner.a23;
  a32 = dot outer.a12 outer.a22 outer.a32 inner.a31 inner.a32 inner.a33;
  a13 = dot outer.a13 outer.a23 outer.a33 inner.a11 inner.a12 inner.a13;
  a23 = dot outer.a13 outer.a23 outer.a33 inner.a21 inner.a22 inner.a23;
  a33 = dot outer.a13 outer.a23 outer.a33 inner.a31 inner.a32 inner.a33;
}
