-- The counts of an edge, whatever its samples show: it has at most as many probes as the settings allow, and each finds at most one point. Assumes
-- nothing.
use Prim.Native.Nat.{ℕ, suc, ◌+◌, ◌≤◌}
use mathlib.Core.List.{List, [], ◌∷◌}
use native.Mathlib.Omega.{arith}
use native.Mathlib.Nat.{le_trans}
use lib.ListN.{length, length-append}
use Rattle.ieee.specs.Floats.{float, ◌≺◌, ◌⊘◌, f1e_minus9}
use Rattle.prelude.proofs.Branches.{either}
use Rattle.pixel.specs.declared.EdgePoint.{EdgePoint}
use mathlib.Core.Path.{refl}
use mathlib.Core.Bool.{false}
use Rattle.fit.specs.Fit.{stat, edge_fit}
use Rattle.fit.proofs.Counts.{EdgeCounted, counted, none_counted, fit_counted}
use Rattle.sample_tree.proofs.Always.{Always, ends, always_bind, always_after, always_weaker}
use Rattle.std.specs.Prelude.{Option, None, Some}
use Rattle.probes.specs.declared.Probe.{Probe}
use Rattle.grid.specs.Grids.{grid_of}
use Rattle.probes.specs.Probes.{probes_of}
use Rattle.probes.proofs.Counts.{probe_limit, few-probes}
use Rattle.probe.specs.declared.Plan.{Plan}
use Rattle.probe.specs.declared.Side.{Side}
use Rattle.edge.specs.Edge.{probed, plus, points, edge_length, edge}

-- a point more at most
plus_one : (got : List EdgePoint) (r : Option EdgePoint) → length (plus got r) ≤ suc (length got)
plus_one got None = omega arith
plus_one got (Some p) = omega (arith, length-append got (p ∷ []))

-- no more points than probes
pub few-points : (p : Plan) (side : Side) (ps : List Probe) (got : List EdgePoint)
    → Always (λ (l : List EdgePoint). length l ≤ length got + length ps) (points p side ps got)
unfolding points
few-points p side [] got = ends {a = got} (omega arith)
few-points p side (at ∷ ps) got =
    always_after (probed p side at)
    (λ r. always_weaker (few-points p side ps (plus got r)) (λ l h. omega (arith, plus_one got r)))

pub edge_counted : (n : ℕ) (p : Plan) (ms : List ℕ) (side : Side) → probe_limit p.settings ≤ n → Always (EdgeCounted n) (edge p ms side)
edge_counted n p ms side limit =
    let len = edge_length side.from side.to in
    let ps = probes_of p.settings (grid_of p.dim ms) side.edge in
    let few = le_trans (few-probes p.settings (grid_of p.dim ms) side.edge) limit in
    either (Always (EdgeCounted n)) (len ≺ f1e_minus9)
    (ends (counted {f = edge_fit None (stat 0 0 0 false)} (none_counted n) refl))
    (always_bind (few-points p side ps [])
    (λ got most. ends (fit_counted n p.settings (length ps) few (len ⊘ float p.dim) got (omega arith))))
