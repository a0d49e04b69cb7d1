-- `fields::number_within` meets its contract. The loop reads from the highest byte down; `Read` is its invariant. Assumes nothing.
use Rattle.fields.proofs.Bytes.{Read}
use Rattle.fields.proofs.number_within.Given as goal

abbrev pub invariant-loop-k : goal.invariant-loop-k
invariant-loop-k l = Read l.s l.i l.n l.k l.v
