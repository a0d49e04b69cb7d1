-- `edge::refine_edge` meets its contract: corners that coincide end it unread, else the probes are the definition's, and the line is that through their points. Assumes nothing.
use Rattle.sample_tree.proofs.Samplers.{start, end}
use Rattle.edge.proofs.Probing.{line_fitted}
use Rattle.edge.proofs.refine_edge.Goals as goal

pub returns-then-len-clause-answer : goal.returns-then-len-clause-answer
returns-then-len-clause-answer c = rw (← c.length_of-len.ensures, c.if-len.true, c.no_stat.ensures) (end start)

pub returns-clause-answer : goal.returns-clause-answer
returns-clause-answer c =
    rw (← c.length_of-len.ensures, c.if-len.false, ← c.probes_of-probes.ensures)
    (line_fitted _ _ _ _ _ c.find_points-probed.ensures.found c.find_points-probed.ensures.probed c.fit_edge.ensures.answer)
