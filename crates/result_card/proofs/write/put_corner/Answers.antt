-- `result_card::write::put_corner` meets its contract: x is written, and y behind it. Assumes nothing.
use mathlib.Core.List.{append-nil}
use Rattle.fields.proofs.Writes.{then}
use Rattle.result_card.proofs.write.put_corner.Goals as goal

pub returns : goal.returns
returns c = rw append-nil (then c.put_float.ensures c.put_float-2.ensures)
