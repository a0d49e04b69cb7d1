-- `result_card::write::put_stats` meets its contract. The loop's invariant: as many as the turns are written. Assumes nothing.
use native.Mathlib.Omega.{arith}
use Rattle.fields.proofs.Writes.{none, row_more}
use Rattle.result_card.proofs.CardLayout.{stat-row}
use Rattle.result_card.proofs.write.put_stats.Goals as goal

pub loop-e-init : goal.loop-e-init
loop-e-init c = none

pub loop-e-preserved : goal.loop-e-preserved
loop-e-preserved c = row_more (stat-row _) _ _ _ (omega arith) c.loop-e.invariant c.put_stat.ensures
