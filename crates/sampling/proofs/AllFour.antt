-- A sample shows what document 01's blend of all four pixels shows, bit for bit, over every photograph of bytes, and reads no pixel that this does not. Why: where the x fraction is 0
-- a row shows its left byte, whatever the right one is, and where the y fraction is 0 the sample shows its upper row, whatever the lower one is. Assumes nothing.
use mathlib.Core.Path.{◌≡◌, refl, sym, ap, ◌∙◌}
use Prim.Native.Nat.{ℕ, ◌+◌, ◌-◌, ◌^◌, ◌<◌, min}
use native.Mathlib.Omega.{arith}
use mathlib.Core.Bool.{Bool, true, false}
use lib.IntN.{pos}
use lib.Ieee.{Float, binary64}
use lib.Ieee.Fits.{add-fits, mul-fits, of_int-fits}
use Rattle.prelude.specs.Prelude.{when◌then◌else◌}
use Rattle.prelude.proofs.Lists.{Each}
use Rattle.ieee.specs.Floats.{◌⊕◌, ◌⊖◌, ◌⊗◌, ◌≐◌, f0, float, whole_part}
use Rattle.ieee.proofs.Magnitudes.{Within, within_more, add_within, sub_within, mul_within, float_within}
use Rattle.ieee.proofs.Zeros.{NoMinusZero, float-no_minus_zero, sum-no_minus_zero, stays}
use Rattle.photograph.specs.Photographs.{Photo, Pixel}
use Rattle.photograph.proofs.Bytes.{Bytes}
use Rattle.pixel.specs.declared.SourcePixel.{SourcePixel}
use Rattle.footprint.specs.declared.BorderMode.{BorderMode}
use Rattle.footprint.specs.declared.Footprint.{Footprint}
use Rattle.footprint.specs.declared.Footprint.TheVariants.{Rejected, Border, Cell}
use Rattle.footprint.specs.declared.Scene.{Scene}
use Rattle.footprint.specs.AllFour.{all_four}
use Rattle.footprint.specs.Footprints.{neighbour, interior_cell, footprint, scene_footprint}
use Rattle.footprint.proofs.Weights.{Weighed, footprint_weighed, viewed_weighed}
use Rattle.std.specs.Prelude.{Some}
use Rattle.sampling.specs.Sampling.{cell_pixels, pixels_read, bilinear, interpolate}

-- ---- a row of two bytes

byte : (n : ℕ) → n < 256 → Within 256 (float n)
byte n h = within_more n 256 (float n) (omega arith) (float_within n (omega arith))

abbrev row : ℕ → ℕ → Float → Float
row a b f = float a ⊕ (float b ⊖ float a) ⊗ f

module _ (a b : ℕ) (ha : a < 256) (hb : b < 256) (f : Float) where
  -- with no weight for the right byte it shows the left one
  row-left : (f ≐ f0) ≡ true → row a b f ≡ float a
  row-left z = stays 256 256 (float a) (float b) f (omega arith) (of_int-fits binary64 (pos a)) (byte a ha) (byte b hb) (float-no_minus_zero a) z

  part : Within (2 ^ 33) f → Within (2 ^ 42) ((float b ⊖ float a) ⊗ f)
  part small = mul_within 512 (2 ^ 33) (float b ⊖ float a) f (omega arith) (sub_within 256 256 (float b) (float a) (omega arith) (byte b hb) (byte a ha)) small

  row_within : Within (2 ^ 33) f → Within (2 ^ 43) (row a b f)
  row_within small =
      within_more (256 + 2 ^ 42) (2 ^ 43) (row a b f) (omega arith) (add_within 256 (2 ^ 42) (float a) ((float b ⊖ float a) ⊗ f) (omega arith) (byte a ha) (part small))

  row-no_minus_zero : Within (2 ^ 33) f → NoMinusZero (row a b f)
  row-no_minus_zero small =
      sum-no_minus_zero 256 (2 ^ 42) (float a) ((float b ⊖ float a) ⊗ f) (of_int-fits binary64 (pos a)) (mul-fits binary64 (float b ⊖ float a) f) (byte a ha) (part small) (float-no_minus_zero a)

-- ---- four bytes

module _ (a b c d : ℕ) (ha : a < 256) (hb : b < 256) (hc : c < 256) (hd : d < 256) (fx fy : Float) where
  -- with no weight for the right column they show the left one
  left-column : (fx ≐ f0) ≡ true → bilinear a b c d fx fy ≡ float a ⊕ (float c ⊖ float a) ⊗ fy
  left-column z = rw (row-left a b ha hb fx z, row-left c d hc hd fx z)

  -- with none for the lower row the upper one
  upper_row : Within (2 ^ 33) fx → (fy ≐ f0) ≡ true → bilinear a b c d fx fy ≡ row a b fx
  upper_row small z =
      stays (2 ^ 43) (2 ^ 43) (row a b fx) (row c d fx) fy (omega arith) (add-fits binary64 (float a) ((float b ⊖ float a) ⊗ fx))
      (row_within a b ha hb fx small) (row_within c d hc hd fx small) (row-no_minus_zero a b ha hb fx small) z

-- ---- a footprint

module _ (p : Photo) (bytes : Bytes p) (x0 y0 : ℕ) (fx fy : Float) where
  abbrev blend : ℕ → ℕ → Float
  blend x1 y1 = bilinear (p x0 y0) (p x1 y0) (p x0 y1) (p x1 y1) fx fy

  -- the right column is the left one only where it bears no weight
  same_columns : (x1 x2 y1 : ℕ) → x1 ≡ (when fx ≐ f0 then x0 else x2) → blend x1 y1 ≡ blend x2 y1
  same_columns x1 x2 y1 e = by (fx ≐ f0) refl e
    where
      left : (x : ℕ) → (fx ≐ f0) ≡ true → blend x y1 ≡ float (p x0 y0) ⊕ (float (p x0 y1) ⊖ float (p x0 y0)) ⊗ fy
      left x = left-column (p x0 y0) (p x y0) (p x0 y1) (p x y1) (bytes x0 y0) (bytes x y0) (bytes x0 y1) (bytes x y1) fx fy

      by : (b : Bool) → (fx ≐ f0) ≡ b → x1 ≡ (when b then x0 else x2) → blend x1 y1 ≡ blend x2 y1
      by true z e = left x1 z ∙ sym (left x2 z)
      by false z e = ap (λ (x : ℕ). blend x y1) e

  same_rows : (x1 y1 y2 : ℕ) → Within (2 ^ 33) fx → y1 ≡ (when fy ≐ f0 then y0 else y2) → blend x1 y1 ≡ blend x1 y2
  same_rows x1 y1 y2 small e = by (fy ≐ f0) refl e
    where
      upper : (y : ℕ) → (fy ≐ f0) ≡ true → blend x1 y ≡ row (p x0 y0) (p x1 y0) fx
      upper y = upper_row (p x0 y0) (p x1 y0) (p x0 y) (p x1 y) (bytes x0 y0) (bytes x1 y0) (bytes x0 y) (bytes x1 y) fx fy small

      by : (b : Bool) → (fy ≐ f0) ≡ b → y1 ≡ (when b then y0 else y2) → blend x1 y1 ≡ blend x1 y2
      by true z e = upper y1 z ∙ sym (upper y2 z)
      by false z e = ap (λ (y : ℕ). blend x1 y) e

weighed_same : (w h : ℕ) (p : Photo) → Bytes p → (at : Footprint) → Weighed w h at → interpolate p at ≡ interpolate p (all_four w h at)
unfolding Weighed all_four interpolate
weighed_same w h p bytes Rejected e = refl
weighed_same w h p bytes (Border v) e = refl
weighed_same w h p bytes (Cell x0 y0 x1 y1 fx fy) e =
    let x2 = min (x0 + 1) (w - 1) in
    let y2 = min (y0 + 1) (h - 1) in
    ap Some (same_columns p bytes x0 y0 fx fy x1 x2 y1 e.0 ∙ same_rows p bytes x0 y0 fx fy x2 y1 y2 e.2 e.1)

-- ---- the pixels that it reads are among the four

weighed_part : (w h : ℕ) (at : Footprint) → Weighed w h at → (P : Pixel → Type 0) → Each P (pixels_read (all_four w h at)) → Each P (pixels_read at)
unfolding Weighed all_four pixels_read
weighed_part w h Rejected e P r = tt
weighed_part w h (Border v) e P r = tt
weighed_part w h (Cell x0 y0 x1 y1 fx fy) e P r = by (fx ≐ f0) (fy ≐ f0) e.0 e.1
  where
    by : (a b : Bool) → x1 ≡ (when a then x0 else min (x0 + 1) (w - 1)) → y1 ≡ (when b then y0 else min (y0 + 1) (h - 1)) → Each P (cell_pixels x0 y0 x1 y1)
    by true true ex ey = rw (ex, ey) (r.0, (r.0, (r.0, (r.0, tt))))
    by true false ex ey = rw (ex, ey) (r.0, (r.0, (r.1.1.0, (r.1.1.0, tt))))
    by false true ex ey = rw (ex, ey) (r.0, (r.1.0, (r.0, (r.1.0, tt))))
    by false false ex ey = rw (ex, ey) r

-- where the x fraction is 0 they are of one column, and where the y fraction is of one row
pub one-column : (w h : ℕ) (x y : Float) → ((x ⊖ float (whole_part x)) ≐ f0) ≡ true → Each (λ c. c.column ≡ whole_part x) (pixels_read (interior_cell w h x y))
unfolding pixels_read
one-column w h x y z = (refl, (rw (z, neighbour), (refl, (rw (z, neighbour), tt))))

pub one-row : (w h : ℕ) (x y : Float) → ((y ⊖ float (whole_part y)) ≐ f0) ≡ true → Each (λ c. c.row ≡ whole_part y) (pixels_read (interior_cell w h x y))
unfolding pixels_read
one-row w h x y z = (refl, (refl, (rw (z, neighbour), (rw (z, neighbour), tt))))

-- ---- a sample, under every border mode, and behind every camera

pub sample_part : (w h : ℕ) → w < 2 ^ 32 → h < 2 ^ 32 → (b : BorderMode) (x y : Float) (P : Pixel → Type 0)
    → Each P (pixels_read (all_four w h (footprint w h b x y))) → Each P (pixels_read (footprint w h b x y))
sample_part w h wide high b x y P r = weighed_part w h (footprint w h b x y) (footprint_weighed w h wide high b x y) P r

pub scene_part : (e : Scene) → e.width < 2 ^ 32 → e.height < 2 ^ 32 → (q : SourcePixel) (P : Pixel → Type 0)
    → Each P (pixels_read (all_four e.width e.height (scene_footprint e q))) → Each P (pixels_read (scene_footprint e q))
scene_part e wide high q P r = weighed_part e.width e.height (scene_footprint e q) (viewed_weighed e.width e.height wide high e.view q) P r

pub sample_same : (w h : ℕ) → w < 2 ^ 32 → h < 2 ^ 32 → (p : Photo) → Bytes p → (b : BorderMode) (x y : Float)
    → interpolate p (footprint w h b x y) ≡ interpolate p (all_four w h (footprint w h b x y))
sample_same w h wide high p bytes b x y = weighed_same w h p bytes (footprint w h b x y) (footprint_weighed w h wide high b x y)

pub scene_same : (e : Scene) → e.width < 2 ^ 32 → e.height < 2 ^ 32 → (p : Photo) → Bytes p → (q : SourcePixel)
    → interpolate p (scene_footprint e q) ≡ interpolate p (all_four e.width e.height (scene_footprint e q))
scene_same e wide high p bytes q =
    weighed_same e.width e.height p bytes (scene_footprint e q) (viewed_weighed e.width e.height wide high e.view q)
