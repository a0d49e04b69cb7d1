-- `fit_edges` meets its contract. The loop's invariant: what is left of the tree are the edges from `e` on. Assumes nothing.
use mathlib.Core.Path.{◌≡◌}
use mathlib.Core.List.{[]}
use Prim.Native.Nat.{◌-◌}
use Rattle.sample_tree.proofs.Samplers.{Left}
use Rattle.edges.specs.Edges.{no_edges}
use Rattle.round.specs.Round.{edges_from}
use Rattle.round.proofs.fit_edges.Given as goal

abbrev pub invariant-loop-e : goal.invariant-loop-e
invariant-loop-e l =
    (Left l.initial.sampler l.sampler (edges_from l.plan l.modules l.map l.q 4 0 no_edges) (edges_from l.plan l.modules l.map l.q (4 - l.e) l.e l.edges))
    × (l.found ≡ [])
