-- `result_card::write::put_header` meets its contract: the tag is written, and the length behind it. Assumes nothing.
use Rattle.fields.specs.Fields.{bytes_of}
use Rattle.fields.proofs.Writes.{then, as_bytes}
use Rattle.result_card.proofs.write.put_header.Goals as goal

pub returns : goal.returns
unfolding bytes_of
returns c = then c.put.ensures (as_bytes c.to_le_bytes.ensures c.put-2.ensures)
