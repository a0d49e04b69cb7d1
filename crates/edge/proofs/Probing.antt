-- A probe, and the probes after it, as steps of the tree that is left; then the line through what they found. What is said of the tree follows from
-- the same law of every handler. Assumes nothing.
use mathlib.Core.Path.{◌≡◌, sym, ap}
use Prim.Native.Nat.{ℕ, ◌+◌, ◌≤◌, ◌<◌}
use native.Mathlib.Omega.{arith}
use mathlib.Core.List.{List, [], ◌∷◌, ◌++◌}
use borrow.Author.Tests.{lt-ltb}
use Rattle.std.specs.Prelude.{Option, None, Some, Result}
use lib.ListN.{length, length-append}
use lib.Ieee.{Float}
use Rattle.number.specs.declared.Refusal.{Refusal}
use Rattle.consts.specs.Consts.{max_edge_points}
use Rattle.pixel.specs.declared.EdgePoint.{EdgePoint}
use Rattle.sample_tree.specs.SampleTree.{SampleTree}
use Rattle.sample_tree.specs.declared.Sampler.{Sampler}
use Rattle.sample_tree.specs.Samplers.{sampler_of, Samples}
use Rattle.sample_tree.proofs.Samplers.{Left, start, lifted, lifted_end, lifted_here}
use Rattle.fit.specs.Fit.{with_point, fit_edge}
use Rattle.fit.specs.declared.EdgeFit.{EdgeFit}
use Rattle.probes.specs.declared.Probe.{Probe}
use Rattle.probe.specs.declared.Plan.{Plan}
use Rattle.probe.specs.declared.Side.{Side}
use Rattle.probe.specs.declared.ProbeRay.{ProbeRay}
use Rattle.probe.specs.Probe.{probe_ray}
use Rattle.edge.specs.Edge.{localize_probe, plus, points, fitted}
use Rattle.edge.proofs.AnyHandler as handler

module _ (plan : Plan) (side : Side) (ps : List Probe) where
  abbrev whole : SampleTree (List EdgePoint)
  whole = points plan side ps []

  -- what is left after n probes, of which each found at most one point
  pub record Probed (first now : Sampler) (left : List Probe) (n : ℕ) (found : List EdgePoint) : Type 0 where
    pub count : n + length left ≡ length ps
    pub few : length found ≤ n
    pub tree : Left first now whole (points plan side left found)

  pub none_probed : {s : Sampler} {found : List EdgePoint} → found ≡ [] → Probed s s ps 0 found
  none_probed none = rw none (record { count = omega arith; few = omega arith; tree = start })

  module _ {first now after : Sampler} {left : List Probe} {n : ℕ} {found : List EdgePoint} {left' : List Probe} {at : Probe}
      (had : Probed first now left n found) (next : left ≡ at ∷ left')
      {aim : ProbeRay} (is : aim ≡ probe_ray plan side at) {r : Option EdgePoint} (ran : Samples now after (localize_probe plan.settings aim) r) where
    counted_on : n + 1 + length left' ≡ length ps
    counted_on = omega (arith, ap length next, had.count)

    left_with : {found' : List EdgePoint} → found' ≡ plus found r → Left first after whole (points plan side left' found')
    left_with put = lifted had.tree ran (λ l h. handler.one-probed (sampler_of first) plan side ps found next l is h put)

    -- a point is behind the others
    pub one_found : {p : EdgePoint} {found' : List EdgePoint} → length ps ≤ max_edge_points → r ≡ Some p → found' ≡ with_point found p → Probed first after left' (n + 1) found'
    one_found {p} {found'} room h put =
        let there : length found < max_edge_points = omega (arith, had.few, ap length next, had.count) in
        let behind : found' ≡ found ++ p ∷ [] = rw put (rw (lt-ltb (length found) max_edge_points there)) in
        rw behind
        (record {
          count = counted_on;
          few = omega (arith, had.few, length-append found (p ∷ []));
          tree = left_with (ap (plus found) (sym h));
        })

    -- none is
    pub none_found : r ≡ None → Probed first after left' (n + 1) found
    none_found h = record { count = counted_on; few = omega (arith, had.few); tree = left_with (ap (plus found) (sym h)) }

  pub all_probed : {first now : Sampler} {left : List Probe} {n : ℕ} {found : List EdgePoint} → left ≡ [] → Probed first now left n found → Samples first now whole found
  all_probed {first} none had = lifted_here had.tree (λ l. handler.all-probed (sampler_of first) plan side ps none l)

  -- the line through the points that were found
  pub line_fitted : {first now : Sampler} {found : List EdgePoint} (n : ℕ) (module_px : Float) {r : Result EdgeFit Refusal} → Samples first now whole found
      → n ≡ length ps → r ≡ fit_edge plan.settings n module_px found → Samples first now (fitted plan side module_px ps) r
  line_fitted {first} n module_px ran e is = lifted_end start ran (λ _ h. handler.fits-probed (sampler_of first) plan side ps n module_px h e is)
