-- refine.rs, what was found of a round's four edges so far: where an edge's line and counts are put (602
-- and 603). Definitions only, to be believed.
use Rattle.std.specs.Prelude.{ℕ, false, None, Result, Ok, Err, set, replicate}
use Rattle.fit.specs.declared.EdgeStat.{EdgeStat}
use Rattle.fit.specs.declared.EdgeFit.{EdgeFit}
use Rattle.fit.specs.Fit.{stat}
use Rattle.edges.specs.declared.Edges.{Edges}

-- ---- nothing found

abbrev pub no_stat : EdgeStat
no_stat = stat 0 0 0 false

-- ---- the edges

abbrev pub no_edges : Edges
no_edges = record { lines = replicate 4 None; edge_stats = replicate 4 no_stat }

-- edge e put in its place
abbrev pub with_edge : ℕ → Edges → EdgeFit → Edges
with_edge e got f = record { lines = set got.lines e f.line; edge_stats = set got.edge_stats e f.stat }

-- where either may be refused: a refused edge refuses them all, and else they stay refused by what refused them before
abbrev pub with_fit : {R : Type 0} → ℕ → Result Edges R → Result EdgeFit R → Result Edges R
with_fit e got (Err r) = Err r
with_fit e (Err r) (Ok f) = Err r
with_fit e (Ok got) (Ok f) = Ok (with_edge e got f)
