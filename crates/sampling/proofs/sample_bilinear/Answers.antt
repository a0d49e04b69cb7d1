-- `sample_bilinear` meets its contract: the footprint's fourth pixel is its last. Assumes nothing.
use Rattle.sampling.proofs.Inside.{footprint_ordered}
use native.Mathlib.Omega.{arith}
use Rattle.sampling.proofs.sample_bilinear.Goals as goal

pub read_sample-shown-requires : goal.read_sample-shown-requires
read_sample-shown-requires c = rw c.footprint_at-footprint.ensures (footprint_ordered _ _ (omega arith) (omega arith) _ _ _)
