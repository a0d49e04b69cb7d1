-- `Window::first_sum`: the total is the sum of the heights up to i. Assumes nothing.
use mathlib.Core.Path.{◌≡◌}
use Prim.Native.Nat.{◌*◌, ◌≤◌}
use lib.ListN.{take}
use Rattle.std.specs.List.{sum}
use Rattle.smooth.proofs.Window.first_sum.Given as goal

abbrev pub invariant-loop-i : goal.invariant-loop-i
invariant-loop-i l = record { sum : l.total ≡ sum (take l.i l.scan); most : l.total ≤ 65535 * l.i }
