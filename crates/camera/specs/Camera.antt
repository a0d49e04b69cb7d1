-- camera.rs: `CameraIntrinsics::valid` (22 to 28), which with the lens says what cameras are
-- refused, and `rectified_to_source` (138 to 182), for no lens, Brown-Conrady and fisheye. For
-- Rust's `hypot` stands the root of the sum of the squares, and for its `atan` the arctangent of
-- `arctan`. Definitions only, to be believed.
use Rattle.std.specs.Prelude.{Bool, true, false, not, ◌&&◌, ◌||◌, Float, Option, Some, None, option_map, option_and_then, Result, Err, ok_or}
use Rattle.std.specs.Float.{binary64}
use Rattle.prelude.specs.Prelude.{when◌then◌else◌}
use Rattle.number.specs.declared.Refusal.{Refusal}
use Rattle.number.specs.declared.Refusal.TheVariants as refusal
use Rattle.ieee.specs.Parts.{is_finite}
use Rattle.ieee.specs.Floats.{◌⊕◌, ◌⊖◌, ◌⊗◌, ◌⊘◌, ◌≐◌, ◌≺◌, ◌≼◌, f0, f1, f2}
use Rattle.ieee_root.specs.Root.{root}
use Rattle.arctan.specs.Arctan.{arctangent}
use Rattle.pixel.specs.Pixels.{source}
use Rattle.pixel.specs.declared.SourcePixel.{SourcePixel}
use Rattle.camera.specs.declared.CameraIntrinsics.{CameraIntrinsics}
use Rattle.camera.specs.declared.LensDistortion.{LensDistortion}
use Rattle.camera.specs.declared.LensDistortion.TheVariants as lens
use Rattle.camera.specs.declared.CameraCalibration.{CameraCalibration}
use Rattle.camera.specs.declared.Normalized.{Normalized}

-- ---- what is refused by `Lens`: a number that is not finite, a focal length that is not above 0

abbrev pub valid_intrinsics : CameraIntrinsics → Bool
valid_intrinsics i = is_finite i.fx && is_finite i.fy && is_finite i.cx && is_finite i.cy && (f0 ≺ i.fx) && (f0 ≺ i.fy)

abbrev pub valid_lens : LensDistortion → Bool
valid_lens lens.None = true
valid_lens (lens.BrownConrady k1 k2 p1 p2 k3) = is_finite k1 && is_finite k2 && is_finite p1 && is_finite p2 && is_finite k3
valid_lens (lens.Fisheye k1 k2 k3 k4) = is_finite k1 && is_finite k2 && is_finite k3 && is_finite k4

abbrev pub valid_camera : CameraCalibration → Bool
valid_camera c = valid_intrinsics c.intrinsics && valid_intrinsics c.rectified && valid_lens c.distortion

-- ---- the camera that changes nothing: no lens, and both pictures have the same intrinsics

-- Rust's `==` on two records, where -0 equals 0
abbrev pub same_intrinsics : CameraIntrinsics → CameraIntrinsics → Bool
same_intrinsics a b = (a.fx ≐ b.fx) && (a.fy ≐ b.fy) && (a.cx ≐ b.cx) && (a.cy ≐ b.cy)

abbrev pub is_none : LensDistortion → Bool
is_none lens.None = true
is_none (lens.BrownConrady k1 k2 p1 p2 k3) = false
is_none (lens.Fisheye k1 k2 k3 k4) = false

abbrev pub is_identity : CameraCalibration → Bool
is_identity c = is_none c.distortion && same_intrinsics c.intrinsics c.rectified

-- ---- `rectified_to_source`

abbrev pub normalized : Float → Float → Normalized
normalized x y = record { 0 = x; 1 = y }

-- the fisheye: the angle θ with the axis decides, and a place on the axis stays there
unfoldable pub fisheye : Float → Float → Float → Float → Float → Float → Option Normalized
fisheye k1 k2 k3 k4 x y =
    let r = root binary64 (x ⊗ x ⊕ y ⊗ y) in
    when not (is_finite r) then None else
    when r ≐ f0 then Some (normalized f0 f0) else
    let θ = arctangent r in
    let t2 = θ ⊗ θ in
    let td = θ ⊗ (f1 ⊕ t2 ⊗ (k1 ⊕ t2 ⊗ (k2 ⊕ t2 ⊗ (k3 ⊕ t2 ⊗ k4)))) in
    when td ≼ f0 then None else
    let scale = td ⊘ r in
    Some (normalized (x ⊗ scale) (y ⊗ scale))

-- the lens, on coordinates of the picture plane
abbrev pub distorted : LensDistortion → Float → Float → Option Normalized
distorted lens.None x y = Some (normalized x y)
distorted (lens.BrownConrady k1 k2 p1 p2 k3) x y =
    let r2 = x ⊗ x ⊕ y ⊗ y in
    let radial = f1 ⊕ r2 ⊗ (k1 ⊕ r2 ⊗ (k2 ⊕ r2 ⊗ k3)) in
    Some
    (normalized
    (x ⊗ radial ⊕ f2 ⊗ p1 ⊗ x ⊗ y ⊕ p2 ⊗ (r2 ⊕ f2 ⊗ x ⊗ x))
    (y ⊗ radial ⊕ p1 ⊗ (r2 ⊕ f2 ⊗ y ⊗ y) ⊕ f2 ⊗ p2 ⊗ x ⊗ y))
distorted (lens.Fisheye k1 k2 k3 k4) x y = fisheye k1 k2 k3 k4 x y

-- a place of the picture plane in pixels
abbrev pub in_pixels : CameraIntrinsics → Normalized → SourcePixel
in_pixels i d = source (i.fx ⊗ d.0 ⊕ i.cx) (i.fy ⊗ d.1 ⊕ i.cy)

-- a rectified place on the picture plane
abbrev pub on_plane : CameraIntrinsics → SourcePixel → Normalized
on_plane r p = normalized ((p.0 ⊖ r.cx) ⊘ r.fx) ((p.1 ⊖ r.cy) ⊘ r.fy)

-- through the rectified picture's intrinsics, the lens, and the source picture's intrinsics
abbrev pub projected : CameraCalibration → SourcePixel → Option SourcePixel
projected c p =
    let n = on_plane c.rectified p in
    option_map (in_pixels c.intrinsics) (distorted c.distortion n.0 n.1)

-- The same, but that a camera which changes nothing leaves the place alone. Of a place that is not
-- finite nothing finite comes, and so `rectified_to_source` is this tested once (`carried_finite` of
-- proofs/Carried).
abbrev pub carried : CameraCalibration → SourcePixel → Option SourcePixel
carried c p = when is_identity c then Some p else projected c p

abbrev pub if_finite : SourcePixel → Option SourcePixel
if_finite p = when is_finite p.0 && is_finite p.1 then Some p else None

abbrev pub rectified_to_source : CameraCalibration → SourcePixel → Option SourcePixel
rectified_to_source c p =
    when not (is_finite p.0) || not (is_finite p.1) then None else
    when is_identity c then Some p else
    option_and_then if_finite (projected c p)

-- the place, or why there is none
abbrev pub camera_answer : CameraCalibration → SourcePixel → Result SourcePixel Refusal
camera_answer c p =
    when not (valid_camera c) then Err refusal.Lens else
    ok_or (rectified_to_source c p) refusal.Place
