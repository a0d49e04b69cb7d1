-- `Meter::incremented` meets its contract: the sum that stops at the highest number is the definition's. Assumes nothing.
use native.Mathlib.Omega.{arith}
use Rattle.sample_tree.proofs.Counts.{ticked}
use Rattle.sample_tree.proofs.Meter.incremented.Goals as goal

pub returns : goal.returns
returns c = ticked _ (omega arith) c.saturating_add.ensures
