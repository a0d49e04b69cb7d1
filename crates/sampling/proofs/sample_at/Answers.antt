-- `sample_at` meets its contract: the fourth pixel of the footprint is its last. Assumes nothing.
use Rattle.sampling.proofs.Inside.{point_ordered}
use native.Mathlib.Omega.{arith}
use Rattle.sampling.proofs.sample_at.Goals as goal

pub read_sample-requires : goal.read_sample-requires
read_sample-requires c = rw c.seen_footprint-footprint.ensures (point_ordered _ _ (omega arith) (omega arith) _)
