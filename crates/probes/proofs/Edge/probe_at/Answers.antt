-- `Edge::probe_at` meets its contract, by those of what it calls. Assumes nothing.
use Prim.Native.Nat.{◌/◌}
use native.Mathlib.Omega.{arith}
use Rattle.probes.proofs.Layouts.{inward_lies}
use Rattle.probes.proofs.Edge.probe_at.Goals as goal

pub returns : goal.returns
returns c =
    let e = c.args.self.now in
    let inward = inward_lies e.dim e.edge (c.args.j / 2) e.modules.now e.step_lies (omega arith) (omega arith) e.inward_lies in
    rw (c.fraction.ensures, c.dark.ensures, inward.dark)
