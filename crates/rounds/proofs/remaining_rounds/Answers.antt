-- `remaining_rounds` meets its contract. The loop's invariant: what is left of the tree are the rounds from `counter` on, from the corners that there are.
-- Assumes nothing.
use mathlib.Core.Path.{sym, ◌∙◌}
use Rattle.rounds.proofs.RoundByRound.{next_round, weak_round, round_stops, all-ran}
use Rattle.rounds.proofs.remaining_rounds.Goals as goal

pub returns-in-Err-clause-answer : goal.returns-in-Err-clause-answer
returns-in-Err-clause-answer c = weak_round _ _ _ _ c.loop-test.true c.loop.invariant.0 c.refine_round.ensures.answer c.in-Err.is (sym c.is_weak.ensures ∙ c.if-is_weak.true)

pub returns-in-Err-2-clause-answer : goal.returns-in-Err-2-clause-answer
returns-in-Err-2-clause-answer c = round_stops _ _ _ _ c.loop-test.true c.loop.invariant.0 c.refine_round.ensures.answer c.in-Err.is (sym c.is_weak.ensures ∙ c.if-is_weak.false)

pub loop-preserved : goal.loop-preserved
loop-preserved c = (next_round _ _ _ _ c.loop-test.true c.loop.invariant.0 c.refine_round.ensures.answer c.in-Ok.is, c.refine_round.ensures.left)

pub returns-clause-answer : goal.returns-clause-answer
returns-clause-answer c = all-ran _ _ _ _ c.loop-test.false c.loop.invariant.0
