-- sampling.rs, `sample_bilinear` (17 to 47): where a sample falls, worked out without the photograph;
-- and sample.rs, `SourceView::sample` (744 to 750), where a sample of a scene falls. Definitions only,
-- to be believed.
use Rattle.std.specs.Prelude.{ℕ, ◌+◌, ◌-◌, min, Bool, true, not, ◌&&◌, ◌||◌, Float, Option, Some, None}
use Rattle.prelude.specs.Prelude.{when◌then◌else◌}
use Rattle.ieee.specs.Parts.{is_finite}
use Rattle.ieee.specs.Floats.{◌⊖◌, ◌≺◌, ◌≐◌, f0, float, whole_part}
use Rattle.pixel.specs.declared.SourcePixel.{SourcePixel}
use Rattle.camera.specs.declared.CameraCalibration.{CameraCalibration}
use Rattle.camera.specs.Camera.{valid_camera, carried, rectified_to_source}
use Rattle.footprint.specs.declared.BorderMode.{BorderMode}
use Rattle.footprint.specs.declared.BorderMode.TheVariants.{Reject, Clamp, Constant}
use Rattle.footprint.specs.declared.Footprint.{Footprint}
use Rattle.footprint.specs.declared.Footprint.TheVariants.{Rejected, Border, Cell}
use Rattle.footprint.specs.declared.Scene.{Scene}

-- ---- sampling.rs

-- the column or row after i, cut at the last of n, where the fraction gives it weight, and else i
abbrev pub neighbour : ℕ → ℕ → Float → ℕ
neighbour i n fraction = when fraction ≐ f0 then i else min (i + 1) (n - 1)

-- among the pixels that bear weight: where the x fraction is 0, or -0, the right column is the left
-- one, and where the y fraction is, the lower row is the upper one
abbrev pub interior_cell : ℕ → ℕ → Float → Float → Footprint
interior_cell w h x y =
    let x0 = whole_part x in
    let y0 = whole_part y in
    let fx = x ⊖ float x0 in
    let fy = y ⊖ float y0 in
    Cell x0 y0 (neighbour x0 w fx) (neighbour y0 h fy) fx fy

-- Rust's `x.clamp(0.0, most)`
abbrev pub clamped : Float → Float → Float
clamped x most = when x ≺ f0 then f0 else when most ≺ x then most else x

abbrev pub at_border : ℕ → ℕ → BorderMode → Float → Float → Footprint
at_border w h Reject x y = Rejected
at_border w h Clamp x y = interior_cell w h (clamped x (float (w - 1))) (clamped y (float (h - 1)))
at_border w h (Constant v) x y = Border v

abbrev pub outside : ℕ → ℕ → Float → Float → Bool
outside w h x y = (x ≺ f0) || (y ≺ f0) || (float (w - 1) ≺ x) || (float (h - 1) ≺ y)

abbrev pub inside : ℕ → ℕ → Float → Float → Bool
inside w h x y = is_finite x && is_finite y && not (outside w h x y)

-- finiteness comes first, under every border mode
unfoldable pub footprint : ℕ → ℕ → BorderMode → Float → Float → Footprint
footprint w h b x y =
    when not (is_finite x) || not (is_finite y) then Rejected else
    when outside w h x y then at_border w h b x y else interior_cell w h x y

-- ---- sample.rs, `SourceView::sample`: through the camera, where there is one, with the border rejected

-- a photograph is seen as it is, or through a camera
abbrev pub View : Type 0
View = Option CameraCalibration

abbrev pub point_footprint : ℕ → ℕ → Option SourcePixel → Footprint
point_footprint w h (Some q) = footprint w h Reject q.0 q.1
point_footprint w h None = Rejected

-- where a place lies in the photograph: through the camera, where there is one
abbrev pub seen : View → SourcePixel → Option SourcePixel
seen None q = Some q
seen (Some c) q = rectified_to_source c q

abbrev pub viewed_footprint : ℕ → ℕ → View → SourcePixel → Footprint
viewed_footprint w h v q = point_footprint w h (seen v q)

abbrev pub scene_footprint : Scene → SourcePixel → Footprint
scene_footprint s q = viewed_footprint s.width s.height s.view q

-- The same by the steps of the camera alone, whose coordinates may be infinite or NaNs: a sample
-- there is rejected, as one at no place is (`carried_seen` of proofs/Carried).
abbrev pub carried_through : View → SourcePixel → Option SourcePixel
carried_through None q = Some q
carried_through (Some c) q = carried c q

-- the entry check by `Lens`
abbrev pub good_view : View → Bool
good_view None = true
good_view (Some c) = valid_camera c
