-- `result_card::write::put_float` meets its contract: a float is written as the number that its bits are. Assumes nothing.
use mathlib.Core.Path.{ap, ◌∙◌}
use Rattle.fields.specs.Fields.{bytes_of}
use Rattle.fields.proofs.Writes.{low_first, as_bytes}
use Rattle.result_card.proofs.write.put_float.Goals as goal

pub returns : goal.returns
returns c = as_bytes (c.to_le_bytes.ensures ∙ low_first _ ∙ ap (bytes_of 8) c.bits_of.ensures) c.put.ensures
