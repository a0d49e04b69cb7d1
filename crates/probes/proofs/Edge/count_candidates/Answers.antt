-- `Edge::count_candidates` meets its contract. The loop's invariant: n and those from module m on are all. Assumes nothing.
use mathlib.Core.Path.{ap}
use Prim.Native.Nat.{◌*◌, ◌+◌}
use native.Mathlib.Nat.{zero-add}
use native.Mathlib.Omega.{arith}
use lib.ListN.{length}
use Rattle.grid.specs.Grids.{grid_of}
use Rattle.probes.proofs.Candidates.{onward-all, onward-end, counted_as, at_most_two, count_more}
use Rattle.probes.proofs.Edge.count_candidates.Goals as goal

pub loop-m-init : goal.loop-m-init
loop-m-init c = (omega arith, rw zero-add (ap length (onward-all _ _ _)))

pub loop-m-preserved : goal.loop-m-preserved
loop-m-preserved c =
    let e = c.args.self.now in
    let first = counted_as e.settings (grid_of e.dim e.modules.now) e.edge (2 * c.loop-m.m) c.is_candidate-first.ensures (λ is. rw is at c.from.ensures) (λ is. rw is at c.from.ensures) in
    let second = counted_as e.settings (grid_of e.dim e.modules.now) e.edge (2 * c.loop-m.m + 1) c.is_candidate-second.ensures (λ is. rw is at c.from-in-loop-m.ensures) (λ is. rw is at c.from-in-loop-m.ensures) in (
      omega (arith, at_most_two e.settings (grid_of e.dim e.modules.now) e.edge _ _ first second),
      count_more e.settings (grid_of e.dim e.modules.now) e.edge c.loop-m.m c.loop-m.n (omega arith) first second c.loop-m.invariant.1,
    )

pub returns : goal.returns
returns c =
    let e = c.args.self.now in
    let none = ap length (onward-end e.settings (grid_of e.dim e.modules.now) e.edge (2 * c.loop-m.m) (omega arith)) in
    record { all = omega (arith, none); few = omega arith }
