-- refine.rs, `refine_round` (493 to 627), as a tree of samples. Definitions only, to be believed; what
-- the edges of a round come to is in `corners`.
use Rattle.std.specs.Prelude.{ℕ, zero, suc, ◌+◌, ◌%◌, List, Result, Ok}
use Rattle.number.specs.declared.Refusal.{Refusal}
use Rattle.pixel.specs.Pixels.{corner}
use Rattle.pixel.specs.declared.SourcePixel.{SourcePixel}
use Rattle.homography.specs.declared.PerspectiveTransform.{PerspectiveTransform}
use Rattle.quad.specs.Quad.{square_to_quad, map_answer}
use Rattle.sample_tree.specs.SampleTree.{SampleTree, done}
use Rattle.sample_tree.specs.Results.{on_ok, ◌>>=◌}
use Rattle.probe.specs.declared.Plan.{Plan}
use Rattle.probe.specs.declared.Side.{Side}
use Rattle.edge.specs.Edge.{edge}
use Rattle.edges.specs.declared.Edges.{Edges}
use Rattle.edges.specs.Edges.{no_edges, with_edge}
use Rattle.corners.specs.Corners.{Answer, round_end}

-- ---- the four edges, in turn; the refusal of one ends them

-- edge e goes from its corner to the next
abbrev pub side_of : PerspectiveTransform → List SourcePixel → ℕ → Side
side_of m q e = record { map = m; edge = e; from = corner q e; to = corner q ((e + 1) % 4) }

-- n edges from e on, behind those that there are
unfoldable pub edges_from : Plan → List ℕ → PerspectiveTransform → List SourcePixel → ℕ → ℕ → Edges → SampleTree (Result Edges Refusal)
edges_from p ms m q zero e got = done (Ok got)
edges_from p ms m q (suc n) e got = do
  fit ← edge p ms (side_of m q e)
  edges_from p ms m q n (suc e) (with_edge e got fit)

-- ---- `refine_round`

-- of corners that have a map
abbrev pub mapped_round : Plan → List ℕ → List SourcePixel → PerspectiveTransform → SampleTree Answer
mapped_round p ms q m = do
  edges ← edges_from p ms m q 4 0 no_edges
  done (round_end q edges)

unfoldable pub round : Plan → List ℕ → List SourcePixel → SampleTree Answer
round p ms q = on_ok (mapped_round p ms q) (map_answer (square_to_quad q))
