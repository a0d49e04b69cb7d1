-- `job_card::field_end` meets its contract: its tests are those of `has_field`, in order, at the place where the field starts. Assumes nothing.
use mathlib.Core.Path.{◌∙◌}
use native.Mathlib.Omega.{arith}
use Rattle.job_card.proofs.Walks.{decided, ends_here, then_some-when}
use Rattle.job_card.proofs.field_end.Goals as goal

pub returns : goal.returns
returns c =
    let inside = c.in_ok-contents.ensures.lookup.0 in
    let there = decided _ _ _ c.requires.1 (omega arith) c.if-card-i.false _ c.number_at.ensures.0 inside.1 c.suits_tag.result (rw (← inside.2) c.suits_tag.ensures) in
    rw (there, ends_here _ _ _ c.requires.1 (omega arith) c.if-card-i.false _ c.number_at.ensures.0 c.requires.0) (c.then_some.ensures ∙ then_some-when _ _)
