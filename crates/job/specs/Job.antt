-- The job that a well formed card asks for: a request, modules, and a photograph, read from the
-- contents of its fields. Definitions only, to be believed. They are total, and mean nothing of a
-- card that is not well formed, which is refused before they are asked for.
use Rattle.std.specs.Prelude.{ℕ, ◌+◌, List, [], ◌∷◌, eqb, drop, Some, None}
use Rattle.prelude.specs.Prelude.{when◌then◌else◌}
use Rattle.consts.specs.Consts.{defaults}
use Rattle.pixel.specs.declared.WorkingPixel.{WorkingPixel}
use Rattle.camera.specs.declared.CameraIntrinsics.{CameraIntrinsics}
use Rattle.camera.specs.declared.LensDistortion.{LensDistortion}
use Rattle.camera.specs.declared.LensDistortion.TheVariants as lens
use Rattle.footprint.specs.Footprints.{View}
use Rattle.request.specs.declared.Request.{Request}
use Rattle.request.specs.Requests.{Photograph}
use Rattle.fields.specs.Fields.{byte_at, number_at, float_at}
use Rattle.job_card.specs.JobCard.{has_exactly, field_part}

abbrev pub working_at : List ℕ → ℕ → WorkingPixel
working_at s i = record { 0 = float_at s i; 1 = float_at s (i + 8) }

abbrev pub intrinsics_at : List ℕ → ℕ → CameraIntrinsics
intrinsics_at s i = record { fx = float_at s i; fy = float_at s (i + 8); cx = float_at s (i + 16); cy = float_at s (i + 24) }

-- behind the lens byte k1, k2, p1, p2, k3, or k1, k2, k3, k4
abbrev pub lens_of : List ℕ → LensDistortion
lens_of s =
    when eqb (byte_at s 0) 1 then lens.BrownConrady (float_at s 1) (float_at s 9) (float_at s 17) (float_at s 25) (float_at s 33) else
    when eqb (byte_at s 0) 2 then lens.Fisheye (float_at s 1) (float_at s 9) (float_at s 17) (float_at s 25) else
    lens.None

abbrev pub view_of : List ℕ → View
view_of card =
    when has_exactly card 8
    then Some (record {
      intrinsics = intrinsics_at (field_part card 7) 0;
      rectified = intrinsics_at (field_part card 7) 32;
      distortion = lens_of (field_part card 8);
    })
    else None

-- the four corners, 16 bytes each
abbrev pub corners_of : List ℕ → List WorkingPixel
corners_of s = working_at s 0 ∷ working_at s 16 ∷ working_at s 32 ∷ working_at s 48 ∷ []

-- from the contents of the fields 1, 3, 4, 5 and 6
abbrev pub request_from : (size grid scale corners polarity : List ℕ) → View → Request
request_from size grid scale corners polarity view = record {
  width = number_at 2 size 0;
  height = number_at 2 size 2;
  dim = byte_at grid 0;
  sx = float_at scale 0;
  sy = float_at scale 8;
  corners = corners_of corners;
  inverted = eqb (byte_at polarity 0) 1;
  view = view;
  settings = defaults;
}

abbrev pub request_of : List ℕ → Request
request_of card =
    request_from (field_part card 1) (field_part card 3) (field_part card 4) (field_part card 5) (field_part card 6) (view_of card)

abbrev pub modules_of : List ℕ → List ℕ
modules_of card = drop 1 (field_part card 3)

abbrev pub stride_of : List ℕ → ℕ
stride_of card = number_at 2 (field_part card 1) 4

abbrev pub photograph_of : List ℕ → Photograph
photograph_of card = record { bytes = field_part card 2; stride = stride_of card }
