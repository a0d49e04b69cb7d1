-- `Probes::next` meets its contract: the next candidate is the first of the probes, and where there is none no probe is left. Assumes nothing.
use mathlib.Core.Path.{refl, ap, sym, ◌∙◌}
use native.Mathlib.Omega.{arith}
use lib.ListN.{length}
use Rattle.probes.proofs.Decimated.{coming-next, coming-none}
use Rattle.probes.proofs.ProbesIterator.next.Goals as goal

pub returns-in_default-clause-steps : goal.returns-in_default-clause-steps
returns-in_default-clause-steps c = (sym c.self.view_is ∙ coming-none _ _ _ _ _ _ _ c.in_default.ensures.none, refl)

pub returns-clause-steps : goal.returns-clause-steps
returns-clause-steps c = sym c.self.view_is ∙ coming-next _ _ _ _ (omega (arith, c.if-self-eq0.false)) c.self.invariant.0 c.in-Some.ensures.found c.probe_at.ensures

pub returns-clause-goes : goal.returns-clause-goes
returns-clause-goes c =
    let steps = sym c.self.view_is ∙ coming-next _ _ _ _ (omega (arith, c.if-self-eq0.false)) c.self.invariant.0 c.in-Some.ensures.found c.probe_at.ensures in
    record { on = λ _. (tt, tt, omega (arith, ap length steps)); keeps = tt; rests = λ _. tt }
