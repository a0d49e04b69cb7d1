-- `report::put_edge` meets its contract: seven pieces, one behind the other. Assumes nothing.
use Rattle.fields.proofs.Writes.{then}
use Rattle.report.proofs.put_edge.Goals as goal

pub returns : goal.returns
returns c =
    then c.put.ensures (then c.put_decimal.ensures (then c.put_decimal-2.ensures (then c.put_decimal-3.ensures (then c.put_decimal-4.ensures (then c.put_bit.ensures c.put-2.ensures)))))
