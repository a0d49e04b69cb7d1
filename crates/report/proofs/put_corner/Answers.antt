-- `report::put_corner` meets its contract: six pieces, one behind the other. Assumes nothing.
use Rattle.fields.proofs.Writes.{then}
use Rattle.report.proofs.put_corner.Goals as goal

pub returns : goal.returns
returns c =
    rw (← c.bits_of.ensures, ← c.bits_of-2.ensures)
    (then c.put.ensures (then c.put_decimal.ensures (then c.put_hexadecimal.ensures (then c.put_hexadecimal-2.ensures (then c.put_bit.ensures c.put-2.ensures)))))
