-- `refine_corners_mapped_marking` meets its contract: each return is a refusal by the first check that fails, or the run behind them. Assumes nothing.
use mathlib.Core.Path.{◌≡◌, sym, ◌∙◌}
use native.Mathlib.Omega.{arith}
use lib.ListN.{length}
use Rattle.std.specs.Prelude.{Err}
use Rattle.std.proofs.Common.{rules}
use Rattle.request.specs.Requests.{photograph}
use Rattle.request.proofs.Checks.{photograph-passes}
use Rattle.marking.proofs.Entered.{enters_marking, refused_before, short}
use Rattle.marking.proofs.Calls.{refuses, answers}
use Rattle.marking.proofs.refine_corners_mapped_marking.Goals as goal

pub returns-in_err-entry : goal.returns-in_err-entry
returns-in_err-entry c =
    let a = c.args in
    let p = photograph a.photograph.bytes.now a.photograph.stride in
    let refused : c.from_residual.result ≡ Err c.in_err-entry.field-0.0 = search rules in
    rw refused (refuses a.request a.modules.now p _ _ (refused_before a.request a.modules.now p (length a.sheet.now) (length a.copy.now) (sym c.entry.ensures ∙ c.in_err-entry.was)))

pub returns-then-sheet-area : goal.returns-then-sheet-area
returns-then-sheet-area c =
    let a = c.args in
    let p = photograph a.photograph.bytes.now a.photograph.stride in
    refuses a.request a.modules.now p _ _
    (short a.request a.modules.now p (length a.sheet.now) (length a.copy.now) (sym c.entry.ensures ∙ c.in_ok-entry.was) (rw c.area-area.ensures at c.then-sheet-area.either))

pub marking_run-requires : goal.marking_run-requires
marking_run-requires c =
    let a = c.args in
    let p = photograph a.photograph.bytes.now a.photograph.stride in
    record { size = (photograph-passes a.request a.modules.now p (sym c.entry.ensures ∙ c.in_ok-entry.was)).0; sheet = omega arith; copy = omega arith }

pub returns : goal.returns
returns c =
    let a = c.args in
    let p = photograph a.photograph.bytes.now a.photograph.stride in
    answers a.request a.modules.now p _ _
    (enters_marking a.request a.modules.now p (length a.sheet.now) (length a.copy.now) (sym c.entry.ensures ∙ c.in_ok-entry.was) (omega arith) (omega arith)) c.marking_run.ensures
