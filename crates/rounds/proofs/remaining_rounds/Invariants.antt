-- `remaining_rounds` meets its contract. The loop's invariant: what is left of the tree are the rounds from `counter` on, from the corners that there are.
-- Assumes nothing.
use mathlib.Core.Path.{◌≡◌}
use mathlib.Core.List.{[]}
use Rattle.rounds.proofs.RoundByRound.{AfterRounds}
use Rattle.rounds.proofs.remaining_rounds.Given as goal

abbrev pub invariant-loop : goal.invariant-loop
invariant-loop l = AfterRounds l.plan l.modules l.initial.best l.initial.sampler l.counter l.best l.sampler × (l.found ≡ [])
