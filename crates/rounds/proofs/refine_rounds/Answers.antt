-- `refine_rounds` meets its contract: the first round ends it, or the further ones ran behind it. Assumes nothing.
use mathlib.Core.Path.{◌≡◌}
use Rattle.std.specs.Prelude.{Err}
use Rattle.std.proofs.Common.{rules}
use Rattle.rounds.proofs.RoundByRound.{first_stops, rounds-ran}
use Rattle.rounds.proofs.refine_rounds.Goals as goal

pub returns-in_err-first-clause-answer : goal.returns-in_err-first-clause-answer
returns-in_err-first-clause-answer c =
    let refused : c.from_residual.result ≡ Err c.in_err-first.field-0.0 = search rules in
    rw refused (first_stops _ _ _ c.refine_round.ensures.answer c.in_err-first.was)

pub returns-clause-answer : goal.returns-clause-answer
returns-clause-answer c = rounds-ran _ _ _ c.refine_round.ensures.answer c.in_ok-first.was c.remaining_rounds.ensures.answer
