-- `result_card::write::put_count` meets its contract: in one byte a count's lowest is written, in two the one above behind it. Assumes nothing.
use mathlib.Core.Path.{◌≡◌, ◌∙◌}
use Prim.Native.Nat.{◌/◌, ◌%◌}
use native.Mathlib.Omega.{arith}
use Rattle.fields.specs.Fields.{bytes_of}
use Rattle.fields.proofs.Writes.{as_bytes}
use Rattle.result_card.proofs.write.put_count.Goals as goal

pub returns-in-Older : goal.returns-in-Older
unfolding bytes_of
returns-in-Older c = rw c.in-Older.is c.put.ensures

pub returns-in-Newer : goal.returns-in-Newer
unfolding bytes_of
returns-in-Newer c =
    let v = c.args.count in
    let low : v % 65536 % 256 ≡ v % 256 = omega arith in
    let high : v % 65536 / 256 % 256 ≡ v / 256 % 256 = omega arith in
    as_bytes (c.to_le_bytes.ensures ∙ rw (low, high, c.in-Newer.is)) c.put-in-Newer.ensures
