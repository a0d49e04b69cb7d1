-- A sample falls at the same footprint whether the place that the camera's steps carry it to has been tested or not: where a coordinate is not finite it is
-- rejected. Assumes nothing.
use mathlib.Core.Path.{◌≡◌, refl, ap, ◌∙◌}
use mathlib.Core.Bool.{Bool, true, false, ◌&&◌}
use Prim.Native.Nat.{ℕ}
use Rattle.std.specs.Prelude.{Option, None, Some, option_and_then}
use Rattle.prelude.specs.Prelude.{when◌then◌else◌}
use Rattle.ieee.specs.Parts.{is_finite}
use Rattle.pixel.specs.declared.SourcePixel.{SourcePixel}
use Rattle.camera.specs.Camera.{if_finite, carried}
use Rattle.camera.proofs.Carried.{carried_finite}
use Rattle.footprint.specs.Footprints.{View, footprint, point_footprint, seen, carried_through}

module _ (w h : ℕ) where
  tested : (q : SourcePixel) → point_footprint w h (Some q) ≡ point_footprint w h (if_finite q)
  unfolding footprint
  tested q = go (is_finite q.0) refl (is_finite q.1) refl
    where
      go : (f : Bool) → is_finite q.0 ≡ f → (g : Bool) → is_finite q.1 ≡ g → point_footprint w h (Some q) ≡ point_footprint w h (when f && g then Some q else None)
      go true hf true hg = refl
      go true hf false hg = rw (hf, hg) refl
      go false hf g hg = rw hf refl

  if_tested : (q : Option SourcePixel) → point_footprint w h q ≡ point_footprint w h (option_and_then if_finite q)
  if_tested (Some q) = tested q
  if_tested None = refl

  pub carried_seen : (v : View) (q : SourcePixel) → point_footprint w h (carried_through v q) ≡ point_footprint w h (seen v q)
  carried_seen None q = refl
  carried_seen (Some c) q = if_tested (carried c q) ∙ ap (point_footprint w h) (carried_finite c q)
