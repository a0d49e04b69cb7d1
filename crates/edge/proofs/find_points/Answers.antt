-- `edge::find_points` meets its contract. The loop's invariant: what is left of the tree are the probes that are still to come. Assumes nothing.
use Rattle.edge.proofs.Probing.{one_found, none_found, all_probed}
use Rattle.edge.proofs.find_points.Goals.{in-Some-localize_probe, in_default}
use Rattle.edge.proofs.find_points.Goals as goal

pub loop-probe-preserved : goal.loop-probe-preserved
loop-probe-preserved c =
    elim c.match-localize_probe.branch [
      | in-Some-localize_probe w ↦
          rw w.found-is (one_found _ _ _ c.loop-probe.invariant c.in-Some.ensures.steps c.probe_ray-aim.ensures c.localize_probe.ensures c.requires.few w.in-Some-localize_probe.is w.push.ensures)
      | in_default w ↦ rw w.found-is (none_found _ _ _ c.loop-probe.invariant c.in-Some.ensures.steps c.probe_ray-aim.ensures c.localize_probe.ensures w.in_default.is)
    ]

pub returns-clause-found : goal.returns-clause-found
returns-clause-found c = all_probed _ _ _ c.in-None.ensures.steps.0 c.loop-probe.invariant
