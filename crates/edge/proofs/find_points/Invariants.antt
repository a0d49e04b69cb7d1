-- `edge::find_points` meets its contract. The loop's invariant: what is left of the tree are the probes that are still to come.
use Rattle.edge.proofs.Probing.{Probed}
use Rattle.edge.proofs.find_points.Given as goal

abbrev pub invariant-loop-probe : goal.invariant-loop-probe
invariant-loop-probe l = Probed l.plan l.side l.fn.probes l.initial.sampler l.sampler l.probe-iterator l.probed l.found
