-- `job_card::fields_end` meets its contract. A turn of the loop walks over one field: `Walked` is the invariant. Assumes nothing.
use Prim.Native.Nat.{◌+◌}
use mathlib.Core.Path.{sym, ◌∙◌}
use native.Mathlib.Omega.{arith}
use Rattle.std.proofs.Common.{rules}
use Rattle.job_card.specs.JobCard.{start_at, has_field}
use Rattle.job_card.proofs.Walks.{walked_none, walked_more, next, nowhere, broken}
use Rattle.job_card.proofs.fields_end.Goals as goal

pub loop-k-init : goal.loop-k-init
loop-k-init c = walked_none _

pub returns-in_err-i : goal.returns-in_err-i
returns-in_err-i c =
    let card = c.args.card.now in
    let t = c.loop-k.k + 1 in
    let absent = nowhere (has_field card t) (start_at card t) (sym c.in_err-i.was ∙ c.field_end.ensures) in
    rw (broken card t c.args.n (omega arith) (omega arith) absent) (search rules)

pub loop-k-preserved : goal.loop-k-preserved
loop-k-preserved c =
    walked_more _ _ _ _ (omega arith) (next c.loop-k.invariant) (sym c.in_ok-i.was ∙ c.field_end.ensures)
