-- `copy` meets its contract: so many heights stand as the scan has them. Assumes nothing.
use mathlib.Core.Path.{◌≡◌}
use lib.ListN.{length, take}
use Rattle.smooth.proofs.copy.Given as goal

abbrev pub invariant-loop-i : goal.invariant-loop-i
invariant-loop-i l = (length l.out ≡ length l.fn.scan) × (take l.i l.out ≡ take l.i l.fn.scan)
