-- `text::put_digits` meets its contract: a space, and behind it the digits. Assumes nothing.
use Rattle.fields.proofs.Writes.{then}
use Rattle.text.proofs.put_digits.Goals as goal

pub returns : goal.returns
returns c = then c.put.ensures c.put-2.ensures
