-- A round over any handler of samples, as steps of the tree that is left: an edge is fitted and put in its place, or its refusal ends the edges; without a map the round ends,
-- and with one its edges end it. Assumes nothing.
use mathlib.Core.Path.{◌≡◌, sym}
use Prim.Native.Nat.{ℕ, suc, ◌+◌, ◌-◌, ◌<◌, ◌≤◌}
use native.Mathlib.Numerals.{add-one}
use native.Mathlib.Omega.{arith}
use Rattle.std.specs.Prelude.{List, Result, Ok, Err}
use Rattle.number.specs.declared.Refusal.{Refusal}
use Rattle.pixel.specs.declared.SourcePixel.{SourcePixel}
use Rattle.homography.specs.declared.PerspectiveTransform.{PerspectiveTransform}
use Rattle.quad.specs.Quad.{square_to_quad, map_answer}
use Rattle.sample_tree.specs.SampleTree.{done}
use Rattle.sample_tree.specs.Run.{Handler, Runs}
use Rattle.sample_tree.proofs.Steps.{Leads, start, end, passed, failed}
use Rattle.fit.specs.declared.EdgeFit.{EdgeFit}
use Rattle.probe.specs.declared.Plan.{Plan}
use Rattle.probe.specs.declared.Side.{Side}
use Rattle.edge.specs.Edge.{edge}
use Rattle.edges.specs.declared.Edges.{Edges}
use Rattle.edges.specs.Edges.{no_edges, with_edge}
use Rattle.corners.specs.Corners.{Answer, round_end}
use Rattle.round.specs.Round.{edges_from, side_of, round}

-- ---- the edges, one after another

module _ {S : Type 0} (ask : Handler S) (plan : Plan) (ms : List ℕ) (m : PerspectiveTransform) (q : List SourcePixel) where
  -- what is left after i edges
  abbrev pub AfterEdges : S → ℕ → Edges → S → Type 0
  AfterEdges first i got now = Leads ask (edges_from plan ms m q 4 0 no_edges) first (edges_from plan ms m q (4 - i) i got) now

  pub none_yet : {got : Edges} (s : S) → got ≡ no_edges → AfterEdges s 0 got s
  none_yet s none = rw none (start ask _ s)

  module _ {first now : S} {i : ℕ} (got : Edges) where
    -- edge i was fitted, or refused
    module _ {after : S} {side : Side} {r : Result EdgeFit Refusal} (few : i < 4) (before : AfterEdges first i got now)
        (is : side ≡ side_of m q i) (ran : Runs ask (edge plan ms side) r now after) where
      pub next_edge : {fit : EdgeFit} {got' : Edges} → r ≡ Ok fit → got' ≡ with_edge i got fit → AfterEdges first (i + 1) got' after
      unfolding edges_from
      next_edge ok put =
          let one : 4 - i ≡ suc (4 - suc i) = omega arith in
          rw (add-one i, put) (passed ask (edge plan ms (side_of m q i)) (λ fit. edges_from plan ms m q (4 - suc i) (suc i) (with_edge i got fit)) (rw one at before) (rw is at ran) ok)

      pub edge_stops : {e : Refusal} → r ≡ Err e → Runs ask (edges_from plan ms m q 4 0 no_edges) (Err e) first after
      unfolding edges_from
      edge_stops err =
          let one : 4 - i ≡ suc (4 - suc i) = omega arith in
          failed ask (edge plan ms (side_of m q i)) (λ fit. edges_from plan ms m q (4 - suc i) (suc i) (with_edge i got fit)) (rw one at before) (rw is at ran) err

    pub all-fitted : 4 ≤ i → AfterEdges first i got now → Runs ask (edges_from plan ms m q 4 0 no_edges) (Ok got) first now
    unfolding edges_from
    all-fitted over before =
        let none : 4 - i ≡ 0 = omega arith in
        end ask (rw none at before)

-- ---- the round, by its map

module _ {S : Type 0} (ask : Handler S) (plan : Plan) (ms : List ℕ) (q : List SourcePixel) {map : Result PerspectiveTransform Refusal} (is : map ≡ map_answer (square_to_quad q)) where
  pub no-map : {e : Refusal} (s : S) → map ≡ Err e → Runs ask (round plan ms q) (Err e) s s
  unfolding round
  no-map s none = rw (sym is, none) (end ask (start ask _ s))

  module _ {m : PerspectiveTransform} {s s' : S} {r : Result Edges Refusal} (some : map ≡ Ok m) (ran : Runs ask (edges_from plan ms m q 4 0 no_edges) r s s') where
    pub edges_stop : {e : Refusal} → r ≡ Err e → Runs ask (round plan ms q) (Err e) s s'
    unfolding round
    edges_stop err = rw (sym is, some) (failed ask (edges_from plan ms m q 4 0 no_edges) (λ edges. done (round_end q edges)) (start ask _ s) ran err)

    pub edges_end : {edges : Edges} {a : Answer} → r ≡ Ok edges → a ≡ round_end q edges → Runs ask (round plan ms q) a s s'
    unfolding round
    edges_end ok ends = rw (ends, sym is, some) (end ask (passed ask (edges_from plan ms m q 4 0 no_edges) (λ edges. done (round_end q edges)) (start ask _ s) ran ok))
