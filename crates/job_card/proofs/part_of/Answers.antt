-- `job_card::part_of` meets its contract: a row of fields is the row before its last one, and that one; the contents lie between the
-- header and the end of the last. Assumes nothing.
use Prim.Native.Nat.{◌-◌}
use mathlib.Core.Path.{sym, ◌∙◌}
use native.Mathlib.Omega.{arith}
use Rattle.std.proofs.Common.{rules}
use Rattle.job_card.specs.JobCard.{start_at, has_field, has_fields}
use Rattle.job_card.proofs.Walks.{row, broken, nowhere, walked, Reached, reached}
use Rattle.job_card.proofs.part_of.Goals as goal
use Rattle.job_card.proofs.part_of.Goals.{In_ok-end}

-- the field that the two walks have come to
at_field : (c : In_ok-end) →
    let args = c.args in
    Reached args.card.now args.tag c.in_ok-i.i c.in_ok-end.end
at_field c =
    let args = c.args in
    let w = walked args.card.now (args.tag - 1) _ (sym c.in_ok-i.was ∙ c.fields_end.ensures) in
    reached args.card.now args.tag _ _ c.requires.0 w (sym c.in_ok-end.was ∙ c.field_end.ensures)

pub returns-in_err-i : goal.returns-in_err-i
returns-in_err-i c =
    let args = c.args in
    let absent = nowhere (has_fields args.card.now (args.tag - 1)) (start_at args.card.now (args.tag - 1)) (sym c.in_err-i.was ∙ c.fields_end.ensures) in
    rw (row args.card.now args.tag (omega arith), absent) (search rules)

pub field_end-requires : goal.field_end-requires
field_end-requires c =
    let args = c.args in
    let w = walked args.card.now (args.tag - 1) _ (sym c.in_ok-i.was ∙ c.fields_end.ensures) in
    (omega arith, w.start, w.within)

pub returns-in_err-end : goal.returns-in_err-end
returns-in_err-end c =
    let args = c.args in
    let absent = nowhere (has_field args.card.now args.tag) (start_at args.card.now args.tag) (sym c.in_err-end.was ∙ c.field_end.ensures) in
    rw (broken args.card.now args.tag args.tag (omega arith) (omega arith) absent) (search rules)

pub overflow_add-result : goal.overflow_add-result
overflow_add-result c =
    let r = at_field (goal.at.overflow_add-result c).In_ok-end in
    omega arith

pub slice_bounds-result-count : goal.slice_bounds-result-count
slice_bounds-result-count c =
    let r = at_field (goal.at.slice_bounds-result-count c).In_ok-end in
    omega arith

pub slice_bounds-result-start : goal.slice_bounds-result-start
slice_bounds-result-start c =
    let r = at_field (goal.at.slice_bounds-result-start c).In_ok-end in
    omega arith

pub slice_bounds-result-end : goal.slice_bounds-result-end
slice_bounds-result-end c =
    let r = at_field (goal.at.slice_bounds-result-end c).In_ok-end in
    omega arith

pub returns : goal.returns
returns c =
    let r = at_field (goal.at.returns c).In_ok-end in
    rw (r.whole, r.is)
