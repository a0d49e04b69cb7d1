-- `result_card::write::put_corners` meets its contract. The loop's invariant: as many as the turns are written. Assumes nothing.
use lib.ListN.{take}
use Rattle.fields.specs.Output.{Writes}
use Rattle.result_card.specs.ResultCard.{corner_bytes}
use Rattle.result_card.proofs.write.put_corners.Given as goal

abbrev pub invariant-loop-c : goal.invariant-loop-c
invariant-loop-c l = Writes l.initial.out l.out (corner_bytes (take l.c-index l.corners))
