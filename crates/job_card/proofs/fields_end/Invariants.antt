-- `job_card::fields_end` meets its contract. A turn of the loop walks over one field: `Walked` is the invariant. Assumes nothing.
use Rattle.job_card.proofs.Walks.{Walked}
use Rattle.job_card.proofs.fields_end.Given as goal

abbrev pub invariant-loop-k : goal.invariant-loop-k
invariant-loop-k l = Walked l.card l.k l.i
