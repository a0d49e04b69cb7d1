-- `edge::localize_probe` meets its contract: too short a module ends it unread. Assumes nothing.
use Rattle.sample_tree.proofs.Samplers.{start, end}
use Rattle.edge.proofs.localize_probe.Goals as goal

pub returns-then-aim : goal.returns-then-aim
returns-then-aim c = rw c.if-aim.true (end start)

pub returns : goal.returns
returns c = rw c.if-aim.false c.localize.ensures
