-- refine.rs, one edge of a round (508 to 601): how long it is, the points that its probes find, and the
-- line through those. Definitions only, to be believed.
use Rattle.std.specs.Prelude.{ℕ, false, List, [], ◌∷◌, ◌++◌, length, Float, Option, Some, None, Result, Ok}
use Rattle.std.specs.Float.{binary64}
use Rattle.prelude.specs.Prelude.{when◌then◌else◌}
use Rattle.ieee_root.specs.Root.{root}
use Rattle.ieee.specs.Floats.{◌⊕◌, ◌⊖◌, ◌⊗◌, ◌⊘◌, ◌≺◌, float, f1e_minus9}
use Rattle.pixel.specs.declared.SourcePixel.{SourcePixel}
use Rattle.pixel.specs.declared.EdgePoint.{EdgePoint}
use Rattle.consts.specs.declared.Settings.{Settings}
use Rattle.fit.specs.declared.EdgeFit.{EdgeFit}
use Rattle.number.specs.declared.Refusal.{Refusal}
use Rattle.fit.specs.Fit.{stat, edge_fit, fit_edge}
use Rattle.sample_tree.specs.SampleTree.{SampleTree, done, ◌>>=◌}
use Rattle.profile.specs.Profile.{localize}
use Rattle.probes.specs.declared.Probe.{Probe}
use Rattle.grid.specs.Grids.{grid_of}
use Rattle.probes.specs.Probes.{probes_of}
use Rattle.probe.specs.declared.Plan.{Plan}
use Rattle.probe.specs.declared.Side.{Side}
use Rattle.probe.specs.declared.ProbeRay.{ProbeRay}
use Rattle.probe.specs.Probe.{probe_ray}

-- ---- a probe's point

-- too short a module ends a probe unread
abbrev pub localize_probe : Settings → ProbeRay → SampleTree (Option EdgePoint)
localize_probe s aim = when aim.perp_module_px ≺ f1e_minus9 then done None else localize s aim.ray

abbrev pub probed : Plan → Side → Probe → SampleTree (Option EdgePoint)
probed p side at = localize_probe p.settings (probe_ray p side at)

-- ---- the points

abbrev pub plus : List EdgePoint → Option EdgePoint → List EdgePoint
plus got None = got
plus got (Some p) = got ++ p ∷ []

-- the points of the probes, behind those that there are
unfoldable pub points : Plan → Side → List Probe → List EdgePoint → SampleTree (List EdgePoint)
points p side [] got = done got
points p side (at ∷ ps) got = do
  r ← probed p side at
  points p side ps (plus got r)

-- the line through the points of the probes
abbrev pub fitted : Plan → Side → Float → List Probe → SampleTree (Result EdgeFit Refusal)
fitted p side module_px ps = points p side ps [] >>= λ got. done (fit_edge p.settings (length ps) module_px got)

-- ---- the edge, from one corner to the next

abbrev pub edge_length : SourcePixel → SourcePixel → Float
edge_length a b =
    let dx = b.0 ⊖ a.0 in
    let dy = b.1 ⊖ a.1 in
    root binary64 (dx ⊗ dx ⊕ dy ⊗ dy)

-- where its corners coincide there is no line, and nothing is counted
abbrev pub edge : Plan → List ℕ → Side → SampleTree (Result EdgeFit Refusal)
edge p modules side =
    let len = edge_length side.from side.to in
    when len ≺ f1e_minus9 then done (Ok (edge_fit None (stat 0 0 0 false))) else
    fitted p side (len ⊘ float p.dim) (probes_of p.settings (grid_of p.dim modules) side.edge)
