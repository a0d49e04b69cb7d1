-- refine.rs, `refine_corners` (662) and `refine_corners_mapped` (683): what the calls return. Definitions
-- only, to be believed.
use Rattle.std.specs.Prelude.{ℕ, List, take}
use Rattle.std.specs.Result.{result_and}
use Rattle.photograph.specs.Photographs.{Pixel}
use Rattle.sample_tree.specs.SampleTree.{SampleTree, value, reads}
use Rattle.request.specs.declared.Request.{Request}
use Rattle.request.specs.Requests.{Photograph, cells, entry, scene_of, shown, source_corners}
use Rattle.probe.specs.declared.Plan.{Plan}
use Rattle.corners.specs.Corners.{Answer}
use Rattle.rounds.specs.Rounds.{rounds}

-- ---- the refinement behind the entry checks

abbrev pub plan_of : Request → Plan
plan_of r = record { settings = r.settings; dim = r.dim; inverted = r.inverted }

-- as it looks at a photograph; the modules are the first dim × dim
unfoldable pub refinement : Request → List ℕ → SampleTree Answer
refinement r ms = rounds (plan_of r) (take (cells r) ms) (source_corners r)

unfoldable pub result : Request → List ℕ → Photograph → Answer
result r ms p = value (scene_of r) (shown p) (refinement r ms)

-- the pixels that the run reads, in order, up to where it ends
unfoldable pub reads_of : Request → List ℕ → Photograph → List Pixel
reads_of r ms p = reads (scene_of r) (shown p) (refinement r ms)

-- ---- the refinement call: refused by the first entry check that fails, or what the rounds end in

abbrev pub refine : Request → List ℕ → Photograph → Answer
refine r ms p = result_and (entry r ms p) (result r ms p)
