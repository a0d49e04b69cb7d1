-- `Edge::count_candidates` meets its contract. The loop's invariant: n and those from module m on are all.
use mathlib.Core.Path.{◌≡◌}
use Prim.Native.Nat.{◌+◌, ◌*◌, ◌≤◌}
use lib.ListN.{length}
use Rattle.grid.specs.Grids.{grid_of}
use Rattle.probes.specs.Probes.{candidates}
use Rattle.probes.specs.Places.{onward}
use Rattle.probes.proofs.Edge.count_candidates.Given as goal

abbrev pub invariant-loop-m : goal.invariant-loop-m
invariant-loop-m l =
    let g = grid_of l.self.dim l.self.modules.now in
    (l.n ≤ 2 * l.m) × (l.n + length (onward l.self.settings g l.self.edge (2 * l.m)) ≡ length (candidates l.self.settings g l.self.edge))
