-- `result_card::write::put_flags` meets its contract. The loop's invariant: as many as the turns are written. Assumes nothing.
use mathlib.Core.Bool.{false}
use native.Mathlib.Omega.{arith}
use Rattle.fields.proofs.Writes.{none, row_more}
use Rattle.result_card.proofs.CardLayout.{flag_row}
use Rattle.result_card.proofs.write.put_flags.Goals as goal

pub loop-flag-init : goal.loop-flag-init
loop-flag-init c = none

pub loop-flag-preserved : goal.loop-flag-preserved
loop-flag-preserved c = row_more flag_row _ _ false (omega arith) c.loop-flag.invariant c.put_flag.ensures
