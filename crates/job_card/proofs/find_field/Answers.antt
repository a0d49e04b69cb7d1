-- `job_card::find_field` meets its contract: the part that it hands back is what `part_of` found. Assumes nothing.
use mathlib.Core.Path.{sym, ap, ◌∙◌}
use mathlib.Core.List.{List, []}
use Prim.Native.Nat.{ℕ}
use Rattle.std.specs.Borrow.{Bor}
use Rattle.std.specs.Prelude.{Option, Ok, unwrap_or}
use Rattle.job_card.proofs.Parts.{found, unwrap_or-now}
use Rattle.job_card.proofs.find_field.Goals as goal

pub returns-then-well_formed-clause-found : goal.returns-then-well_formed-clause-found
returns-then-well_formed-clause-found c =
    let part = ap (λ (x : Bor (List ℕ)). x.now) c.unwrap_or.ensures ∙ unwrap_or-now c.part_of.result _ ∙ ap (λ (o : Option (List ℕ)). unwrap_or o []) c.part_of.ensures in
    found _ _ c.if-tag-ge1.true c.if-tag-le8.true (sym c.if-well_formed.ensures) ∙ ap Ok (sym part)
