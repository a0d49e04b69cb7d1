-- `result_card::write::put_corners` meets its contract. The loop's invariant: as many as the turns are written. Assumes nothing.
use native.Mathlib.Omega.{arith}
use Rattle.fields.proofs.Writes.{none, row_more}
use Rattle.result_card.proofs.CardLayout.{corner-row}
use Rattle.result_card.proofs.write.put_corners.Goals as goal

pub loop-c-init : goal.loop-c-init
loop-c-init c = none

pub loop-c-preserved : goal.loop-c-preserved
loop-c-preserved c = row_more corner-row _ _ _ (omega arith) c.loop-c.invariant c.put_corner.ensures
