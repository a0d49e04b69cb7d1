-- The camera, the view and the border that the calls for C and Rust are lent: a camera as a list of
-- numbers (`c_lists/specs/Lent`) and the kind of its lens, a border as a code. Definitions only, to
-- be believed.
use Rattle.std.specs.Prelude.{ℕ, ◌+◌, List, eqb, length, Float, Some}
use Rattle.std.specs.Prelude.{None as no_view}
use Rattle.std.specs.Float.{nan}
use Rattle.prelude.specs.Prelude.{when◌then◌else◌}
use Rattle.camera.specs.declared.CameraIntrinsics.{CameraIntrinsics}
use Rattle.camera.specs.declared.LensDistortion.{LensDistortion}
use Rattle.camera.specs.declared.LensDistortion.TheVariants.{None, BrownConrady, Fisheye}
use Rattle.camera.specs.declared.CameraCalibration.{CameraCalibration}
use Rattle.footprint.specs.Footprints.{View}
use Rattle.footprint.specs.declared.BorderMode.{BorderMode}
use Rattle.footprint.specs.declared.BorderMode.TheVariants.{Reject, Clamp, Constant}
use Rattle.c_lists.specs.Lent.{float_at}

-- fx, fy, cx, cy
abbrev pub intrinsics_at : List Float → ℕ → CameraIntrinsics
intrinsics_at s i = record { fx = float_at s i; fy = float_at s (i + 1); cx = float_at s (i + 2); cy = float_at s (i + 3) }

-- no coefficient is a number, so that a camera with this lens is refused by 6
abbrev pub unknown_lens : LensDistortion
unknown_lens = Fisheye nan nan nan nan

-- 0 none; 1 Brown-Conrady, with k1, k2, p1, p2, k3 behind the intrinsics; 2 fisheye, with k1, k2, k3,
-- k4 in the same place; any other kind is refused
abbrev pub lens_of : List Float → ℕ → LensDistortion
lens_of s lens =
    when eqb lens 0 then None else
    when eqb lens 1 then BrownConrady (float_at s 8) (float_at s 9) (float_at s 10) (float_at s 11) (float_at s 12) else
    when eqb lens 2 then Fisheye (float_at s 8) (float_at s 9) (float_at s 10) (float_at s 11) else
    unknown_lens

-- source then rectified intrinsics, then the lens
abbrev pub camera_of : List Float → ℕ → CameraCalibration
camera_of s lens = record { intrinsics = intrinsics_at s 0; rectified = intrinsics_at s 4; distortion = lens_of s lens }

-- the photograph, seen through that camera
abbrev pub view_of : List Float → ℕ → View
view_of s lens = Some (camera_of s lens)

-- no camera where the list is empty
abbrev pub any_view_of : List Float → ℕ → View
any_view_of s lens = when eqb (length s) 0 then no_view else view_of s lens

-- 0 rejects, 1 clamps, anything else answers with the constant
abbrev pub border_of : ℕ → ℕ → BorderMode
border_of mode constant = when eqb mode 0 then Reject else when eqb mode 1 then Clamp else Constant constant
