-- `probes::decimation` meets its contract: few candidates stay, no room leaves none, and beyond that the ceiling decimates them. Assumes nothing.
use mathlib.Core.Logic.{⊎_elim}
use native.Mathlib.Omega.{arith}
use Rattle.probes.proofs.Decimated.{thins_few, thins_none, thins_many}
use Rattle.probes.proofs.decimation.Goals as goal

pub returns-then-most-eq0 : goal.returns-then-most-eq0
returns-then-most-eq0 c = ⊎_elim (thins_few _ _) (λ w. thins_none _ _ w.0 w.1) c.if-most-eq0.either

pub returns-else-most-eq0 : goal.returns-else-most-eq0
returns-else-most-eq0 c = thins_many _ _ (omega arith) (omega arith)
