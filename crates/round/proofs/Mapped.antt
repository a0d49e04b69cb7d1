-- A round as steps of its tree: without a map it ends, and with one its edges are fitted and come to its end. Each follows from the same law of every handler.
-- Assumes nothing.
use mathlib.Core.Path.{◌≡◌}
use Prim.Native.Nat.{ℕ}
use Rattle.std.specs.Prelude.{List, Result, Ok, Err}
use Rattle.number.specs.declared.Refusal.{Refusal}
use Rattle.pixel.specs.declared.SourcePixel.{SourcePixel}
use Rattle.homography.specs.declared.PerspectiveTransform.{PerspectiveTransform}
use Rattle.quad.specs.Quad.{square_to_quad, map_answer}
use Rattle.sample_tree.specs.declared.Sampler.{Sampler}
use Rattle.sample_tree.specs.Samplers.{sampler_of, state_of, Samples}
use Rattle.sample_tree.proofs.Samplers.{start, lifted_end, lifted_here}
use Rattle.probe.specs.declared.Plan.{Plan}
use Rattle.edges.specs.declared.Edges.{Edges}
use Rattle.edges.specs.Edges.{no_edges}
use Rattle.corners.specs.Corners.{Answer, round_end}
use Rattle.round.specs.Round.{edges_from, round}
use Rattle.round.proofs.AnyHandler as handler

module _ (plan : Plan) (ms : List ℕ) (q : List SourcePixel) {map : Result PerspectiveTransform Refusal} (is : map ≡ map_answer (square_to_quad q)) {first : Sampler} where
  pub no-map : {e : Refusal} → map ≡ Err e → Samples first first (round plan ms q) (Err e)
  no-map none = lifted_here start (λ _. handler.no-map (sampler_of first) plan ms q is (state_of first) none)

  module _ {m : PerspectiveTransform} {after : Sampler} {r : Result Edges Refusal} (some : map ≡ Ok m) (ran : Samples first after (edges_from plan ms m q 4 0 no_edges) r) where
    pub edges_stop : {e : Refusal} → r ≡ Err e → Samples first after (round plan ms q) (Err e)
    edges_stop err = lifted_end start ran (λ _ h. handler.edges_stop (sampler_of first) plan ms q is some h err)

    pub edges_end : {edges : Edges} {a : Answer} → r ≡ Ok edges → a ≡ round_end q edges → Samples first after (round plan ms q) a
    edges_end ok ends = lifted_end start ran (λ _ h. handler.edges_end (sampler_of first) plan ms q is some h ok ends)
