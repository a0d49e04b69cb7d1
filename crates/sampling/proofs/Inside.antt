-- Every pixel that a sample of the refinement reads lies in the picture, since its cell is cut there. Assumes nothing.
use Prim.Native.Nat.{ℕ, ◌^◌, ◌<◌}
use native.Mathlib.Omega.{arith}
use lib.Ieee.{Float}
use Rattle.std.specs.Prelude.{Option, None, Some}
use Rattle.prelude.proofs.Lists.{Each}
use Rattle.pixel.specs.declared.SourcePixel.{SourcePixel}
use Rattle.footprint.specs.declared.BorderMode.{BorderMode}
use Rattle.footprint.specs.declared.BorderMode.TheVariants.{Reject}
use Rattle.footprint.specs.declared.Footprint.TheVariants.{Rejected, Border, Cell}
use Rattle.footprint.specs.declared.Footprint.{Footprint}
use Rattle.footprint.specs.declared.Scene.{Scene}
use Rattle.footprint.specs.Footprints.{footprint, point_footprint, scene_footprint}
use Rattle.sampling.specs.Sampling.{pixels_read, Ordered}
use Rattle.photograph.proofs.Pixels.{Inside}
use Rattle.photograph.proofs.Photographs.{Sized}
use Rattle.footprint.proofs.Cuts.{Cut, footprint_cut, viewed_cut}

pub cut_ordered : (w h : ℕ) (at : Footprint) → Cut w h at → Ordered at
unfolding Cut
cut_ordered w h Rejected c = tt
cut_ordered w h (Border v) c = tt
cut_ordered w h (Cell x0 y0 x1 y1 fx fy) c = (c.0, c.1)

pub cut_inside : (w h : ℕ) → Sized w h → (at : Footprint) → Cut w h at → Each (Inside w h) (pixels_read at)
unfolding Cut pixels_read
cut_inside w h size Rejected c = tt
cut_inside w h size (Border v) c = tt
cut_inside w h size (Cell x0 y0 x1 y1 fx fy) c = (
  record { across = omega arith; down = omega arith },
  (
    record { across = omega arith; down = omega arith },
    (
      record { across = omega arith; down = omega arith },
      (record { across = omega arith; down = omega arith }, tt),
    ),
  ),
)

-- of a sample under any border mode, and of one of the refinement
pub footprint_ordered : (w h : ℕ) → w < 2 ^ 32 → h < 2 ^ 32 → (b : BorderMode) (x y : Float) → Ordered (footprint w h b x y)
footprint_ordered w h wide high b x y = cut_ordered w h (footprint w h b x y) (footprint_cut w h wide high b x y)

pub point_ordered : (w h : ℕ) → w < 2 ^ 32 → h < 2 ^ 32 → (at : Option SourcePixel) → Ordered (point_footprint w h at)
point_ordered w h wide high None = tt
point_ordered w h wide high (Some q) = footprint_ordered w h wide high Reject q.0 q.1

module _ (e : Scene) where
  pub scene_inside : Sized e.width e.height → (q : SourcePixel) → Each (Inside e.width e.height) (pixels_read (scene_footprint e q))
  scene_inside size q = cut_inside e.width e.height size (scene_footprint e q) (viewed_cut e.width e.height (omega arith) (omega arith) e.view q)
