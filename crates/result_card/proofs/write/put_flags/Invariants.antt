-- `result_card::write::put_flags` meets its contract. The loop's invariant: as many as the turns are written. Assumes nothing.
use lib.ListN.{take}
use Rattle.fields.specs.Output.{Writes}
use Rattle.result_card.specs.ResultCard.{flag_bytes}
use Rattle.result_card.proofs.write.put_flags.Given as goal

abbrev pub invariant-loop-flag : goal.invariant-loop-flag
invariant-loop-flag l = Writes l.initial.out l.out (flag_bytes (take l.flag-index l.flags))
