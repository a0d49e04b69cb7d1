-- What a sample shows, marks and copies, in each case of a footprint. And two photographs that agree on
-- what a sample reads: it shows nothing but those bytes. Assumes nothing.
use mathlib.Core.Path.{◌≡◌, refl, ap, ◌∙◌}
use Prim.Native.Nat.{ℕ}
use lib.Ieee.{Float}
use Rattle.prelude.proofs.Lists.{Each}
use Rattle.ieee.specs.Floats.{float}
use Rattle.photograph.specs.Photographs.{Photo, Pixel}
use Rattle.sampling.specs.declared.CellBytes.{CellBytes}
use Rattle.std.specs.Prelude.{None, Some}
use Rattle.footprint.specs.declared.Footprint.{Footprint}
use Rattle.footprint.specs.declared.Footprint.TheVariants.{Rejected, Border, Cell}
use Rattle.sampling.specs.Sampling.{cell_of, pixels_read, bilinear, interpolate}
use Rattle.sampling.specs.Marks.{Buffers, cell_marked, marked, ReadsSample}

-- ---- a sample by its footprint

pub interpolate_cell : (p : Photo) {at : Footprint} (x0 y0 x1 y1 : ℕ) (fx fy : Float) → at ≡ Cell x0 y0 x1 y1 fx fy → {v : CellBytes} → v ≡ cell_of p x0 y0 x1 y1 → {b : Float}
    → b ≡ bilinear v.v00 v.v10 v.v01 v.v11 fx fy → Some b ≡ interpolate p at
unfolding interpolate
interpolate_cell p x0 y0 x1 y1 fx fy e hv hb = rw (e, hb, hv)

module _ (p : Photo) (w : ℕ) (b : Buffers) {at : Footprint} where
  pub reads_rejected : at ≡ Rejected → ReadsSample p w at None b b
  unfolding interpolate marked
  reads_rejected e = rw e (record { answer = refl; marks = refl })

  pub reads_border : {v : ℕ} → at ≡ Border v → ReadsSample p w at (Some (float v)) b b
  unfolding interpolate marked
  reads_border e = rw e (record { answer = refl; marks = refl })

  pub reads_cell : (x0 y0 x1 y1 : ℕ) (fx fy : Float) → at ≡ Cell x0 y0 x1 y1 fx fy → {v : CellBytes} → v ≡ cell_of p x0 y0 x1 y1 → {b' : Buffers} → b' ≡ cell_marked w x0 y0 x1 y1 v b
      → {l : Float} → l ≡ bilinear v.v00 v.v10 v.v01 v.v11 fx fy → ReadsSample p w at (Some l) b b'
  unfolding marked
  reads_cell x0 y0 x1 y1 fx fy e {v} hv hb hl = record { answer = interpolate_cell p x0 y0 x1 y1 fx fy e hv hl; marks = rw e (hb ∙ ap (λ (z : CellBytes). cell_marked w x0 y0 x1 y1 z b) hv) }

-- ---- two photographs

abbrev pub Same : Photo → Photo → Pixel → Type 0
Same p q c = q c.column c.row ≡ p c.column c.row

-- that agree on what a sample reads show the same there
pub interpolate_same : (p q : Photo) (at : Footprint) → Each (Same p q) (pixels_read at) → interpolate q at ≡ interpolate p at
unfolding interpolate pixels_read
interpolate_same p q Rejected h = refl
interpolate_same p q (Border v) h = refl
interpolate_same p q (Cell x0 y0 x1 y1 fx fy) h = rw (h.0, h.1.0, h.1.1.0, h.1.1.1.0)
