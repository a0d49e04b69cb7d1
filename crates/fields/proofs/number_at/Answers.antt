-- `fields::number_at` meets its contract: past the end every byte is 0. Assumes nothing.
use Prim.Native.Nat.{min}
use native.Mathlib.Omega.{arith}
use Rattle.fields.proofs.Bytes.{read_past}
use Rattle.fields.proofs.number_at.Goals as goal

pub returns-else-i-s : goal.returns-else-i-s
returns-else-i-s c =
    let args = c.args in
    read_past (min args.n 8) args.s.now args.i (omega arith)
