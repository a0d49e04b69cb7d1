-- What the functions promise that take the places of a profile through a fisheye together. Internal.
use Rattle.std.specs.Prelude.{Float, Option, option_map}
use Rattle.std.specs.Float.{binary64}
use Rattle.ieee.specs.Floats.{◌⊕◌, ◌⊗◌}
use Rattle.ieee_root.specs.Root.{root}
use Rattle.pixel.specs.declared.SourcePixel.{SourcePixel}
use Rattle.camera.specs.declared.CameraCalibration.{CameraCalibration}
use Rattle.camera.specs.declared.Normalized.{Normalized}
use Rattle.camera.specs.Camera.{fisheye, on_plane, in_pixels}

-- the square of a place's distance from the axis, and the distance
abbrev pub square : Normalized → Float
square p = p.0 ⊗ p.0 ⊕ p.1 ⊗ p.1

abbrev pub distance : Normalized → Float
distance p = root binary64 (square p)

-- where a fisheye in the place of the camera's lens carries a rectified place
abbrev pub through_fisheye : CameraCalibration → Float → Float → Float → Float → SourcePixel → Option SourcePixel
through_fisheye c k1 k2 k3 k4 p =
    let n = on_plane c.rectified p in
    option_map (in_pixels c.intrinsics) (fisheye k1 k2 k3 k4 n.0 n.1)
