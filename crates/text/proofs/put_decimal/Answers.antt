-- `text::put_decimal` meets its contract: a space, and behind it the digits that `io` spells. Assumes nothing.
use Rattle.fields.proofs.Writes.{as_bytes}
use Rattle.text.proofs.Digits.{decimal-field}
use Rattle.text.proofs.put_decimal.Goals as goal

pub returns : goal.returns
returns c =
    let wrote = c.decimal-k in
    as_bytes (decimal-field c.args.n wrote.result _ c.ranges.n.fits wrote.ensures.len wrote.ensures.digits) c.put_digits.ensures
