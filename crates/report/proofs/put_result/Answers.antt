-- `report::put_result` meets its contract: three pieces, one behind the other. Assumes nothing.
use Rattle.fields.proofs.Writes.{then}
use Rattle.report.proofs.put_result.Goals as goal

pub returns : goal.returns
returns c =
    then c.put.ensures (then c.put_decimal.ensures c.put-2.ensures)
