-- What every answer of a round is like, refused or not: four corners that are binary64 values, four counts of at most n probes, four flags, where a
-- refusal has the zeros that stand for its corners. A corner is the one that the round started from, or the crossing of two lines; an edge has at most n
-- probes where the settings allow no more; and the four stay four, since an edge is put in its place. It holds of whatever a round can end in, so of its
-- end over any photograph. Assumes nothing.
use Prim.Native.Nat.{ℕ, zero, suc, ◌+◌, ◌%◌, ◌≤◌, ◌<◌}
use mathlib.Core.Path.{◌≡◌, refl}
use native.Mathlib.Omega.{arith}
use lib.Dec.{ltb}
use lib.Ieee.{nan}
use lib.ListN.{length}
use Rattle.std.specs.Prelude.{List, Option, Some, None, IfSome, unwrap_or, option_and_then, Result, Ok, Err}
use Rattle.std.specs.Result.{IfOk, result_unwrap_or}
use Rattle.number.specs.declared.Refusal.{Refusal}
use Rattle.prelude.proofs.Branches.{either}
use Rattle.prelude.proofs.Lists.{Four, each_at, four-set}
use Rattle.pixel.specs.Pixels.{source, corner}
use Rattle.pixel.specs.declared.SourcePixel.{SourcePixel}
use Rattle.pixel.proofs.Values.{Fits, origin_fits}
use Rattle.homography.specs.declared.PerspectiveTransform.{PerspectiveTransform}
use Rattle.quad.specs.Quad.{square_to_quad, map_answer}
use Rattle.line.specs.declared.Line2.{Line2}
use Rattle.line.specs.Line.{crossing}
use Rattle.line.proofs.Crossings.{crossing-fits}
use Rattle.fit.specs.declared.EdgeFit.{EdgeFit}
use Rattle.fit.proofs.Counts.{Counted, none_counted, EdgeCounted, stopped, counted}
use Rattle.sample_tree.specs.SampleTree.{SampleTree, ◌>>=◌}
use Rattle.sample_tree.specs.Results.{on_ok}
use Rattle.sample_tree.proofs.Always.{Always, ends, always_bind, always_weaker}
use Rattle.probes.proofs.Counts.{probe_limit}
use Rattle.probe.specs.declared.Plan.{Plan}
use Rattle.edge.proofs.Counts.{edge_counted}
use Rattle.edges.specs.declared.Edges.{Edges}
use Rattle.edges.specs.Edges.{no_edges, with_edge}
use Rattle.corners.specs.Corners.{Answer, nothing_refined, line_in, line_count, crossed_at, refined_corners, round_end}
use Rattle.round.specs.Round.{side_of, edges_from, mapped_round, round}

-- an answer's corners, and for a refusal the zeros that stand for them
pub record Sound (n : ℕ) (a : Answer) : Type 0 where
  pub corners : Four Fits (result_unwrap_or a nothing_refined).corners
  pub stats : Four (Counted n) (result_unwrap_or a nothing_refined).edge_stats
  pub flags : length (result_unwrap_or a nothing_refined).corner_refined ≡ 4

none_yet : (n : ℕ) → Four (Counted n) no_edges.edge_stats
none_yet n = let none = none_counted n in record { four = refl; each = (none, (none, (none, (none, tt)))) }

pub refused-sound : (n : ℕ) (e : Refusal) → Sound n (Err e)
refused-sound n e = record {
  corners = record { four = refl; each = (origin_fits, (origin_fits, (origin_fits, (origin_fits, tt)))) };
  stats = none_yet n;
  flags = refl;
}

-- ---- a step that may be refused, and another behind it

pub always_ok : {A B E : Type 0} {P : A → Type 0} {Q : Result B E → Type 0} {t : SampleTree (Result A E)} {f : A → SampleTree (Result B E)}
    → Always (λ r. IfOk r P) t → ((e : E) → Q (Err e)) → ((a : A) → P a → Always Q (f a)) → Always Q (t >>= on_ok f)
always_ok {A} {B} {E} {P} {Q} {t} {f} h refused further = always_bind h go
  where
    go : (r : Result A E) → IfOk r P → Always Q (on_ok f r)
    go (Ok a) k = further a k
    go (Err e) k = ends (refused e)

-- ---- the corners of a round

crossed-fits : (before behind : Option Line2) → IfSome (option_and_then (λ (a : Line2). option_and_then (λ (b : Line2). crossing a b) behind) before) Fits
crossed-fits None behind = tt
crossed-fits (Some a) None = tt
crossed-fits (Some a) (Some b) = crossing-fits a b

or-else-fits : (c : Option SourcePixel) (p : SourcePixel) → IfSome c Fits → Fits p → Fits (unwrap_or c p)
or-else-fits None p h k = k
or-else-fits (Some q) p h k = h

module _ (n : ℕ) where
  -- ---- the end of a round

  abbrev EdgesSound : Edges → Type 0
  EdgesSound es = Four (Counted n) es.edge_stats

  refined-sound : (q : List SourcePixel) (es : Edges) → Four Fits q → EdgesSound es → Sound n (Ok (refined_corners q es))
  refined-sound q es start h = record {
    corners = record { four = refl; each = (at 0 (omega arith), (at 1 (omega arith), (at 2 (omega arith), (at 3 (omega arith), tt)))) };
    stats = h;
    flags = refl;
  }
    where
      at : (i : ℕ) → i < 4 → Fits (unwrap_or (crossed_at es i) (corner q i))
      at i l = or-else-fits (crossed_at es i) (corner q i) (crossed-fits (line_in es ((i + 3) % 4)) (line_in es i))
          (each_at Fits q i (source nan nan) start.each (omega (arith, start.four)))

  round-end-sound : (q : List SourcePixel) (es : Edges) → Four Fits q → EdgesSound es → Sound n (round_end q es)
  round-end-sound q es corners h = either (Sound n) (ltb (line_count es) 2) (refused-sound n _) (refined-sound q es corners h)

  -- ---- the edges of a round

  edge-sound : (r : Result EdgeFit Refusal) → EdgeCounted n r → IfOk r (λ (f : EdgeFit). Counted n f.stat)
  edge-sound _ stopped = tt
  edge-sound _ (counted few valid) = few

  module _ (p : Plan) (ms : List ℕ) (limit : probe_limit p.settings ≤ n) where
    edges-sound : (m : PerspectiveTransform) (q : List SourcePixel) (k e : ℕ) (got : Edges) → EdgesSound got
        → Always (λ (r : Result Edges Refusal). IfOk r EdgesSound) (edges_from p ms m q k e got)
    unfolding edges_from
    edges-sound m q zero e got h = ends h
    edges-sound m q (suc k) e got h =
        always_ok (always_weaker (edge_counted n p ms (side_of m q e) limit) edge-sound) (λ _. tt)
        (λ f few. edges-sound m q k (suc e) (with_edge e got f) (four-set (Counted n) _ e _ h few))

    -- ---- the round

    pub round-sound : (q : List SourcePixel) → Four Fits q → Always (Sound n) (round p ms q)
    unfolding round
    round-sound q h = go (map_answer (square_to_quad q))
      where
        go : (m : Result PerspectiveTransform Refusal) → Always (Sound n) (on_ok (mapped_round p ms q) m)
        go (Err e) = ends (refused-sound n e)
        go (Ok m) = always_ok (edges-sound m q 4 0 no_edges (none_yet n)) (refused-sound n) (λ es k. ends (round-end-sound q es h k))
