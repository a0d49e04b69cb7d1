-- sampling.rs, `sample_bilinear` (17 to 47): what a sample shows, from the four pixels where it
-- falls. Definitions only, to be believed; `Ordered` is internal, what the functions that mark ask of
-- a footprint.
use Rattle.std.specs.Prelude.{ℕ, ◌≤◌, List, [], ◌∷◌, length, Float, Option, Some, None, ok_or, Result}
use Rattle.std.specs.Result.{result_and}
use Rattle.number.specs.declared.Refusal.{Refusal}
use Rattle.number.specs.declared.Refusal.TheVariants as refusal
use Rattle.ieee.specs.Floats.{◌⊕◌, ◌⊖◌, ◌⊗◌, float}
use Rattle.photograph.specs.Photographs.{Photo, photo, Pixel, pixel, photograph_check}
use Rattle.footprint.specs.Footprints.{footprint}
use Rattle.footprint.specs.declared.BorderMode.{BorderMode}
use Rattle.footprint.specs.declared.Footprint.{Footprint}
use Rattle.footprint.specs.declared.Footprint.TheVariants.{Rejected, Border, Cell}
use Rattle.sampling.specs.declared.CellBytes.{CellBytes}

-- ---- what it reads there, and what it shows

-- the four pixels that a sample falls among; a footprint has only those that bear weight, some twice
abbrev pub cell_pixels : ℕ → ℕ → ℕ → ℕ → List Pixel
cell_pixels x0 y0 x1 y1 = pixel x0 y0 ∷ pixel x1 y0 ∷ pixel x0 y1 ∷ pixel x1 y1 ∷ []

-- the pixels that a sample reads: those that bear weight, so that where the x fraction is 0 it reads
-- none of the right column, and where the y fraction is 0 none of the lower row
unfoldable pub pixels_read : Footprint → List Pixel
pixels_read Rejected = []
pixels_read (Border v) = []
pixels_read (Cell x0 y0 x1 y1 fx fy) = cell_pixels x0 y0 x1 y1

-- and their bytes
abbrev pub cell_of : Photo → ℕ → ℕ → ℕ → ℕ → CellBytes
cell_of p x0 y0 x1 y1 = record { v00 = p x0 y0; v10 = p x1 y0; v01 = p x0 y1; v11 = p x1 y1 }

-- the fourth of the pixels is the last
abbrev pub Ordered : Footprint → Type 0
Ordered Rejected = Unit {0}
Ordered (Border v) = Unit {0}
Ordered (Cell x0 y0 x1 y1 fx fy) = (x0 ≤ x1) × (y0 ≤ y1)

-- their blend; one that is not read has the byte beside it or above it in its place
abbrev pub bilinear : ℕ → ℕ → ℕ → ℕ → Float → Float → Float
bilinear v00 v10 v01 v11 fx fy =
    let top = float v00 ⊕ (float v10 ⊖ float v00) ⊗ fx in
    let bottom = float v01 ⊕ (float v11 ⊖ float v01) ⊗ fx in
    top ⊕ (bottom ⊖ top) ⊗ fy

unfoldable pub interpolate : Photo → Footprint → Option Float
interpolate p Rejected = None
interpolate p (Border v) = Some (float v)
interpolate p (Cell x0 y0 x1 y1 fx fy) = Some (bilinear (p x0 y0) (p x1 y0) (p x0 y1) (p x1 y1) fx fy)

-- ---- `sample_bilinear`: the photograph's refusal, and then that there is no sample

abbrev pub sample_bilinear : List ℕ → ℕ → ℕ → ℕ → Float → Float → BorderMode → Result Float Refusal
sample_bilinear bytes w h stride x y b =
    result_and (photograph_check w h stride (length bytes)) (ok_or (interpolate (photo bytes stride) (footprint w h b x y)) refusal.Outside)
