-- `Edge::is_candidate` meets its contract: a dark module, and then the margins. Assumes nothing.
use Prim.Native.Nat.{◌/◌}
use native.Mathlib.Omega.{arith}
use Rattle.probes.proofs.Layouts.{border_lies}
use Rattle.probes.proofs.Edge.is_candidate.Goals as goal

pub returns-then-dark : goal.returns-then-dark
returns-then-dark c =
    let e = c.args.self.now in
    let border = border_lies e.dim e.edge (c.args.j / 2) e.modules.now e.step_lies (omega arith) (omega arith) e.border_lies in
    rw (border.dark, ← c.dark.ensures, c.if-dark.true, c.near_end.ensures, c.fraction.ensures)

pub returns-else-dark : goal.returns-else-dark
returns-else-dark c =
    let e = c.args.self.now in
    let border = border_lies e.dim e.edge (c.args.j / 2) e.modules.now e.step_lies (omega arith) (omega arith) e.border_lies in
    rw (border.dark, ← c.dark.ensures, c.if-dark.false)
