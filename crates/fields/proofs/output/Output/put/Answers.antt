-- `Output::put` meets its contract: where there is room, the part that fits is copied. Assumes nothing.
use mathlib.Core.Path.{refl}
use native.Mathlib.Omega.{arith}
use Rattle.fields.proofs.Writes.{wrote_none, wrote_part}
use Rattle.fields.proofs.output.Output.put.Goals as goal

pub returns-then-n-gt0 : goal.returns-then-n-gt0
returns-then-n-gt0 c =
    record {
      same = refl;
      wrote = wrote_part _ _ _ c.min-n.result _ _ (omega arith) (omega arith) (omega arith) c.copy_from_slice.ensures.after;
      on = omega arith;
    }

pub returns-else-n-gt0 : goal.returns-else-n-gt0
returns-else-n-gt0 c =
    let args = c.args in
    record { same = refl; wrote = wrote_none args.self.now.buffer.now args.self.now.at args.bytes.now (omega arith); on = omega arith }
