-- `smooth::inverse_of`: the table's numbers are worked out anew. Assumes nothing.
use native.Mathlib.Omega.{arith}
use Prim.Native.Nat.{◌+◌, ◌/◌}
use Rattle.prelude.proofs.Tables.{get_or-table}
use Rattle.smooth.proofs.inverse_of.Goals as goal

pub returns : goal.returns
returns c = get_or-table 32 (λ k. 4294967296 / k + 1) c.args.count 0 (omega arith)
