-- The edges of a round, one after another, as steps of the tree that is left: an edge is fitted and put in its place, or its refusal ends them. Each follows from
-- the same law of every handler. Assumes nothing.
use mathlib.Core.Path.{◌≡◌}
use Prim.Native.Nat.{ℕ, ◌+◌, ◌-◌, ◌<◌, ◌≤◌}
use Rattle.std.specs.Prelude.{List, Result, Ok, Err}
use Rattle.number.specs.declared.Refusal.{Refusal}
use Rattle.pixel.specs.declared.SourcePixel.{SourcePixel}
use Rattle.homography.specs.declared.PerspectiveTransform.{PerspectiveTransform}
use Rattle.sample_tree.specs.declared.Sampler.{Sampler}
use Rattle.sample_tree.specs.Samplers.{sampler_of, Samples}
use Rattle.sample_tree.proofs.Samplers.{Left, lifted, lifted_end, lifted_here}
use Rattle.fit.specs.declared.EdgeFit.{EdgeFit}
use Rattle.probe.specs.declared.Plan.{Plan}
use Rattle.probe.specs.declared.Side.{Side}
use Rattle.edge.specs.Edge.{edge}
use Rattle.edges.specs.declared.Edges.{Edges}
use Rattle.edges.specs.Edges.{no_edges, with_edge}
use Rattle.round.specs.Round.{edges_from, side_of}
use Rattle.round.proofs.AnyHandler as handler

module _ (plan : Plan) (ms : List ℕ) (m : PerspectiveTransform) (q : List SourcePixel) where
  -- what is left after i edges
  abbrev pub AfterEdges : Sampler → ℕ → Edges → Sampler → Type 0
  AfterEdges first i got now = Left first now (edges_from plan ms m q 4 0 no_edges) (edges_from plan ms m q (4 - i) i got)

  module _ {first now : Sampler} {i : ℕ} (got : Edges) where
    -- edge i was fitted, or refused
    module _ {after : Sampler} {side : Side} {r : Result EdgeFit Refusal} (few : i < 4) (before : AfterEdges first i got now)
        (is : side ≡ side_of m q i) (ran : Samples now after (edge plan ms side) r) where
      pub next_edge : {fit : EdgeFit} {got' : Edges} → r ≡ Ok fit → got' ≡ with_edge i got fit → AfterEdges first (i + 1) got' after
      next_edge ok put = lifted before ran (λ l h. handler.next_edge (sampler_of first) plan ms m q got few l is h ok put)

      pub edge_stops : {e : Refusal} → r ≡ Err e → Samples first after (edges_from plan ms m q 4 0 no_edges) (Err e)
      edge_stops err = lifted_end before ran (λ l h. handler.edge_stops (sampler_of first) plan ms m q got few l is h err)

    pub all-fitted : 4 ≤ i → AfterEdges first i got now → Samples first now (edges_from plan ms m q 4 0 no_edges) (Ok got)
    all-fitted over before = lifted_here before (λ l. handler.all-fitted (sampler_of first) plan ms m q got over l)
