-- refine.rs, one edge point: the profile of seven samples and a pass (244 to 332), and three passes
-- (377 to 394). Definitions only, to be believed; the peak of a profile, and where three passes
-- tend, are in `peak`.
use Rattle.std.specs.Prelude.{ℕ, zero, suc, List, [], ◌∷◌, ◌++◌, Float, Option, Some, None}
use Rattle.ieee.specs.Floats.{◌⊕◌, ◌⊖◌, ◌⊗◌, float, f0, f3}
use Rattle.consts.specs.declared.Settings.{Settings}
use Rattle.pixel.specs.Pixels.{source, edge_point}
use Rattle.pixel.specs.declared.SourcePixel.{SourcePixel}
use Rattle.pixel.specs.declared.Direction.{Direction}
use Rattle.pixel.specs.declared.EdgePoint.{EdgePoint}
use Rattle.sample_tree.specs.SampleTree.{SampleTree, done, one_sample}
use Rattle.sample_tree.specs.Options.{◌>>=◌}
use Rattle.peak.specs.Peak.{peak}
use Rattle.peak.specs.declared.Peak.{Peak}
use Rattle.aitken.specs.Aitken.{projection, aitken}
use Rattle.profile.specs.declared.Ray.{Ray}

-- ---- the profile

-- the place that lies at an offset of so many steps from c
abbrev pub offset_along : Direction → Float → SourcePixel → Float → SourcePixel
offset_along normal step c offset = source (c.0 ⊕ normal.x ⊗ offset ⊗ step) (c.1 ⊕ normal.y ⊗ offset ⊗ step)

-- Samples k, k + 1, .. k + n - 1 of the profile around c, behind those that it has. The first that is rejected ends it.
unfoldable pub sample_profile : Direction → Float → SourcePixel → ℕ → ℕ → List Float → SampleTree (Option (List Float))
sample_profile normal step c zero k got = done (Some got)
sample_profile normal step c (suc n) k got = do
  v ← one_sample (offset_along normal step c (float k ⊖ f3))
  sample_profile normal step c n (suc k) (got ++ v ∷ [])

-- seven samples, at the offsets -3 to 3
abbrev pub profile : Direction → Float → SourcePixel → SampleTree (Option (List Float))
profile normal step c = sample_profile normal step c 7 0 []

-- ---- `localize_edge_point_pass`

-- the point at the peak of a profile
abbrev pub found : Direction → Float → SourcePixel → Option Peak → Option EdgePoint
found normal step c None = None
found normal step c (Some p) = Some (edge_point (offset_along normal step c p.offset) p.weight)

-- what a pass comes to, once the profile has its samples
abbrev pub passed : Settings → Ray → SourcePixel → List Float → Option EdgePoint
passed s y c samples = found y.normal y.step c (peak s y.inverted y.inward_differs samples)

abbrev pub pass : Settings → Ray → SourcePixel → SampleTree (Option EdgePoint)
pass s y c = do
  samples ← profile y.normal y.step c
  done (passed s y c samples)

-- ---- `localize_edge_point`: three passes, and where they tend

-- n more passes, each around the point that the last one found; xs are the projections of the points so far. A pass
-- that finds no edge ends the point.
unfoldable pub passes : Settings → Ray → ℕ → EdgePoint → List Float → SampleTree (Option EdgePoint)
passes s y zero p xs = done (aitken y.normal y.step p xs)
passes s y (suc n) p xs = do
  q ← pass s y p.pos
  passes s y n q (xs ++ projection y.normal q.pos ∷ [])

abbrev pub localize : Settings → Ray → SampleTree (Option EdgePoint)
localize s y = passes s y 3 (edge_point y.coarse f0) []
