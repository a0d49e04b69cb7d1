-- `Edge::next_candidate` meets its contract. The loop's invariant: what is left from place j on, behind `left` candidates, is what was sought. Assumes nothing.
use native.Mathlib.Omega.{arith}
use Rattle.grid.specs.Grids.{grid_of}
use Rattle.probes.proofs.Candidates.{sought_past, sought_over, sought_here, sought_none}
use Rattle.probes.proofs.Edge.next_candidate.Goals.{then-is_candidate+else-left-eq0, else-is_candidate}
use Rattle.probes.proofs.Edge.next_candidate.Goals as goal

pub loop-j-preserved : goal.loop-j-preserved
loop-j-preserved c =
    let e = c.args.self.now in
    elim c.if-is_candidate.branch [
      | then-is_candidate+else-left-eq0 w ↦
          rw w.left-is (sought_over e.settings (grid_of e.dim e.modules.now) e.edge c.args.from c.args.skip c.loop-j.j c.loop-j-test.true c.is_candidate.ensures w.if-is_candidate.true (omega (arith, w.if-left-eq0.false)) c.loop-j.invariant)
      | else-is_candidate w ↦
          rw w.left-is (sought_past e.settings (grid_of e.dim e.modules.now) e.edge c.args.from c.args.skip c.loop-j.j c.loop-j.left c.loop-j-test.true c.is_candidate.ensures w.if-is_candidate.false c.loop-j.invariant)
    ]

pub returns-then-left-eq0-clause-found : goal.returns-then-left-eq0-clause-found
returns-then-left-eq0-clause-found c =
    let e = c.args.self.now in
    sought_here e.settings (grid_of e.dim e.modules.now) e.edge c.args.from c.args.skip c.loop-j.j c.loop-j-test.true c.is_candidate.ensures c.if-is_candidate.true c.if-left-eq0.true c.loop-j.invariant

pub returns-clause-none : goal.returns-clause-none
returns-clause-none c =
    let e = c.args.self.now in
    sought_none e.settings (grid_of e.dim e.modules.now) e.edge c.args.from c.args.skip c.loop-j.j c.loop-j.left (omega arith) c.loop-j.invariant
