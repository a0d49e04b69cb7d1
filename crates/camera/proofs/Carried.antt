-- Of a place that is not finite the steps of a camera make none that is: so the place that they carry it to, tested once, is `rectified_to_source`, which tests both. Assumes nothing.
use mathlib.Core.Path.{◌≡◌, refl, ap}
use mathlib.Core.Bool.{Bool, true, false, not, ◌||◌, and-false}
use lib.Ieee.{Float, binary64}
use Rattle.std.specs.Prelude.{Option, None, Some, option_map, option_and_then}
use Rattle.prelude.specs.Prelude.{when◌then◌else◌}
use Rattle.ieee.specs.Parts.{is_finite}
use Rattle.ieee.specs.Floats.{◌⊕◌, ◌⊖◌, ◌⊗◌}
use Rattle.ieee.proofs.Finiteness.{Lost, lost_add, lost_sub, lost_mul, lost_div, add_lost, mul_lost}
use Rattle.ieee_root.specs.Root.{root}
use Rattle.ieee_root.proofs.RootLaws.{lost_root}
use Rattle.pixel.specs.declared.SourcePixel.{SourcePixel}
use Rattle.camera.specs.declared.CameraCalibration.{CameraCalibration}
use Rattle.camera.specs.declared.CameraIntrinsics.{CameraIntrinsics}
use Rattle.camera.specs.declared.LensDistortion.{LensDistortion}
use Rattle.camera.specs.declared.LensDistortion.TheVariants as lens
use Rattle.camera.specs.declared.Normalized.{Normalized}
use Rattle.camera.specs.Camera.{is_identity, normalized, fisheye, distorted, in_pixels, on_plane, projected, carried, if_finite, rectified_to_source}

-- one of two coordinates is not finite
pub data Astray (x y : Float) : Type 0 where
  across : Lost x → Astray x y
  down : Lost y → Astray x y

untested : (q : SourcePixel) → Astray q.0 q.1 → if_finite q ≡ None
untested q (across h) = rw h refl
untested q (down h) = rw (h, and-false (is_finite q.0)) refl

-- ---- through the lens

bent_astray : (k1 k2 k3 k4 x y : Float) → Astray x y → fisheye k1 k2 k3 k4 x y ≡ None
unfolding fisheye
bent_astray k1 k2 k3 k4 x y a = rw (far a) refl
  where
    far : Astray x y → Lost (root binary64 (x ⊗ x ⊕ y ⊗ y))
    far (across h) = lost_root (x ⊗ x ⊕ y ⊗ y) (lost_add (x ⊗ x) (y ⊗ y) (lost_mul x x h))
    far (down h) = lost_root (x ⊗ x ⊕ y ⊗ y) (add_lost (x ⊗ x) (y ⊗ y) (lost_mul y y h))

module _ (i : CameraIntrinsics) where
  pixels_astray : (n : Normalized) → Astray n.0 n.1 → if_finite (in_pixels i n) ≡ None
  pixels_astray n (across h) = untested (in_pixels i n) (across (lost_add (i.fx ⊗ n.0) i.cx (mul_lost i.fx n.0 h)))
  pixels_astray n (down h) = untested (in_pixels i n) (down (lost_add (i.fy ⊗ n.1) i.cy (mul_lost i.fy n.1 h)))

  lens_astray : (l : LensDistortion) (x y : Float) → Astray x y → option_and_then if_finite (option_map (in_pixels i) (distorted l x y)) ≡ None
  lens_astray lens.None x y a = pixels_astray (normalized x y) a
  lens_astray (lens.BrownConrady k1 k2 p1 p2 k3) x y (across h) = pixels_astray _ (across (lost_add _ _ (lost_add _ _ (lost_mul x _ h))))
  lens_astray (lens.BrownConrady k1 k2 p1 p2 k3) x y (down h) = pixels_astray _ (down (lost_add _ _ (lost_add _ _ (lost_mul y _ h))))
  lens_astray (lens.Fisheye k1 k2 k3 k4) x y a = ap (λ (z : Option Normalized). option_and_then if_finite (option_map (in_pixels i) z)) (bent_astray k1 k2 k3 k4 x y a)

-- ---- through the camera

module _ (c : CameraCalibration) where
  plane_astray : (p : SourcePixel) → Astray p.0 p.1 → Astray (on_plane c.rectified p).0 (on_plane c.rectified p).1
  plane_astray p (across h) = across (lost_div (p.0 ⊖ c.rectified.cx) c.rectified.fx (lost_sub p.0 c.rectified.cx h))
  plane_astray p (down h) = down (lost_div (p.1 ⊖ c.rectified.cy) c.rectified.fy (lost_sub p.1 c.rectified.cy h))

  carried_astray : (p : SourcePixel) → Astray p.0 p.1 → option_and_then if_finite (carried c p) ≡ None
  carried_astray p a = go (is_identity c)
    where
      go : (b : Bool) → option_and_then if_finite (when b then Some p else projected c p) ≡ None
      go true = untested p a
      go false = lens_astray c.intrinsics c.distortion _ _ (plane_astray p a)

  pub carried_finite : (p : SourcePixel) → option_and_then if_finite (carried c p) ≡ rectified_to_source c p
  carried_finite p = go (is_finite p.0) refl (is_finite p.1) refl (is_identity c) refl
    where
      go : (f : Bool) → is_finite p.0 ≡ f → (g : Bool) → is_finite p.1 ≡ g → (b : Bool) → is_identity c ≡ b
          → option_and_then if_finite (when b then Some p else projected c p) ≡ (when not f || not g then None else when b then Some p else option_and_then if_finite (projected c p))
      go false hf g hg true hb = untested p (across hf)
      go false hf g hg false hb = lens_astray c.intrinsics c.distortion _ _ (plane_astray p (across hf))
      go true hf false hg true hb = untested p (down hg)
      go true hf false hg false hb = lens_astray c.intrinsics c.distortion _ _ (plane_astray p (down hg))
      go true hf true hg true hb = rw (hf, hg) refl
      go true hf true hg false hb = refl
