-- refine.rs, the arguments of `refine_corners` (662) and `refine_corners_mapped` (683), the entry checks, and the
-- division (713). Definitions only, to be believed.
use Rattle.std.specs.Prelude.{ℕ, ◌*◌, Bool, not, ◌&&◌, List, [], ◌∷◌, ◌++◌, map, length, Float, None, Result}
use Rattle.std.specs.List.{list_all}
use Rattle.prelude.specs.Checks.{Check, check, first}
use Rattle.number.specs.declared.Refusal.{Refusal}
use Rattle.number.specs.declared.Refusal.TheVariants as refusal
use Rattle.ieee.specs.Parts.{is_finite, magnitude}
use Rattle.ieee.specs.Floats.{◌≺◌, f0, f2^20}
use Rattle.consts.specs.Consts.{good_settings}
use Rattle.pixel.specs.Pixels.{to_source}
use Rattle.pixel.specs.declared.SourcePixel.{SourcePixel}
use Rattle.photograph.specs.Photographs.{Photo, photo, photograph_checks}
use Rattle.photograph.specs.declared.Photograph as code
use Rattle.footprint.specs.declared.Scene.{Scene}
use Rattle.footprint.specs.Footprints.{good_view}
use Rattle.grid.specs.Grids.{grid_of, good_grid}
use Rattle.request.specs.declared.Request.{Request}

-- ---- what is handed in: the code's `Request`, the modules, and a photograph

-- how many modules the label has
abbrev pub cells : Request → ℕ
cells r = r.dim * r.dim

-- without a camera
abbrev pub plain : Request → Request
plain r = record {
  width = r.width;
  height = r.height;
  dim = r.dim;
  sx = r.sx;
  sy = r.sy;
  corners = r.corners;
  inverted = r.inverted;
  view = None;
  settings = r.settings;
}

pub record Photograph : Type 0 where
  pub bytes : List ℕ
  pub stride : ℕ

abbrev pub photograph : List ℕ → ℕ → Photograph
photograph bytes stride = record { bytes = bytes; stride = stride }

-- the code's
abbrev pub lent : code.Photograph → Photograph
lent p = photograph p.bytes.now p.stride

-- the corners after the division
abbrev pub source_corners : Request → List SourcePixel
source_corners r = map (to_source r.sx r.sy) r.corners

-- ---- the entry checks, in the order in which they refuse

abbrev pub good_scale : Float → Bool
good_scale s = is_finite s && (f0 ≺ s)

abbrev pub within_bounds : Float → Bool
within_bounds x = is_finite x && not (f2^20 ≺ magnitude x)

abbrev pub all_within_bounds : List SourcePixel → Bool
all_within_bounds cs = list_all (λ c. within_bounds c.0 && within_bounds c.1) cs

abbrev pub entry_checks : Request → List ℕ → Photograph → List (Check Refusal)
entry_checks r ms p =
    photograph_checks r.width r.height p.stride (length p.bytes)
    ++ check refusal.Grid (good_grid (grid_of r.dim ms))
    ∷ check refusal.Scale (good_scale r.sx && good_scale r.sy)
    ∷ check refusal.Corner (all_within_bounds (source_corners r))
    ∷ check refusal.Lens (good_view r.view)
    ∷ check refusal.Settings (good_settings r.settings)
    ∷ []

abbrev pub entry : Request → List ℕ → Photograph → Result (Unit {0}) Refusal
entry r ms p = first (entry_checks r ms p)

-- ---- what the steps are shown

abbrev pub scene_of : Request → Scene
scene_of r = record { width = r.width; height = r.height; view = r.view }

abbrev pub shown : Photograph → Photo
shown p = photo p.bytes p.stride
