-- `result_card::write::put_stats` meets its contract. The loop's invariant: as many as the turns are written. Assumes nothing.
use lib.ListN.{take}
use Rattle.fields.specs.Output.{Writes}
use Rattle.result_card.specs.ResultCard.{stat_bytes}
use Rattle.result_card.proofs.write.put_stats.Given as goal

abbrev pub invariant-loop-e : goal.invariant-loop-e
invariant-loop-e l = Writes l.initial.out l.out (stat_bytes l.form (take l.e-index l.stats))
