-- `result_card::convert::count_at` meets its contract: one byte is the number that it is. Assumes nothing.
use native.Mathlib.Omega.{arith}
use Rattle.fields.specs.Fields.{number_at}
use Rattle.result_card.proofs.convert.count_at.Goals as goal

pub returns-in-Older : goal.returns-in-Older
unfolding number_at
returns-in-Older c = rw c.in-Older.is (omega (arith, c.byte_at.ensures.0))
