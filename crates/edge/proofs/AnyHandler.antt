-- An edge's probes one after another over any handler of samples, as steps of the tree that is left; then the line through what they found. Assumes nothing.
use mathlib.Core.Path.{◌≡◌}
use Prim.Native.Nat.{ℕ}
use mathlib.Core.List.{List, [], ◌∷◌}
use Rattle.std.specs.Prelude.{Option, Result}
use lib.ListN.{length}
use lib.Ieee.{Float}
use Rattle.number.specs.declared.Refusal.{Refusal}
use Rattle.pixel.specs.declared.EdgePoint.{EdgePoint}
use Rattle.sample_tree.specs.SampleTree.{SampleTree, done}
use Rattle.sample_tree.specs.Run.{Handler, Runs}
use Rattle.sample_tree.proofs.Steps.{Leads, start, then, called, end}
use Rattle.fit.specs.Fit.{fit_edge}
use Rattle.fit.specs.declared.EdgeFit.{EdgeFit}
use Rattle.probes.specs.declared.Probe.{Probe}
use Rattle.probe.specs.declared.Plan.{Plan}
use Rattle.probe.specs.declared.Side.{Side}
use Rattle.probe.specs.declared.ProbeRay.{ProbeRay}
use Rattle.probe.specs.Probe.{probe_ray}
use Rattle.edge.specs.Edge.{localize_probe, probed, plus, points, fitted}

module _ {S : Type 0} (ask : Handler S) (plan : Plan) (side : Side) (ps : List Probe) where
  abbrev whole : SampleTree (List EdgePoint)
  whole = points plan side ps []

  -- what is left, where some probes are still to come and the others found points
  abbrev pub Probed : S → List Probe → List EdgePoint → S → Type 0
  Probed first left found now = Leads ask whole first (points plan side left found) now

  pub none_probed : (s : S) → Probed s ps [] s
  none_probed s = start ask whole s

  -- the next probe ran
  pub one-probed : {left left' : List Probe} {at : Probe} (found : List EdgePoint) {r : Option EdgePoint} {found' : List EdgePoint} {first now after : S} → left ≡ at ∷ left'
      → Probed first left found now → {aim : ProbeRay} → aim ≡ probe_ray plan side at → Runs ask (localize_probe plan.settings aim) r now after → found' ≡ plus found r
      → Probed first left' found' after
  unfolding points
  one-probed {left' = left'} {at = at} found next before is ran put =
      rw put (then ask (rw next at before) (called ask (probed plan side at) (λ z. points plan side left' (plus found z)) (rw is at ran)))

  pub all-probed : {left : List Probe} {found : List EdgePoint} {first now : S} → left ≡ [] → Probed first left found now → Runs ask whole found first now
  unfolding points
  all-probed none before = end ask (rw none at before)

  -- the line through the points that were found
  pub fits-probed : {found : List EdgePoint} (n : ℕ) (module_px : Float) {r : Result EdgeFit Refusal} {first now : S} → Runs ask whole found first now
      → n ≡ length ps → r ≡ fit_edge plan.settings n module_px found → Runs ask (fitted plan side module_px ps) r first now
  fits-probed n module_px ran e is =
      rw (is, e) (end ask (called ask whole (λ got. done (fit_edge plan.settings (length ps) module_px got)) ran))
