-- `Window::smooth_whole` meets its contract: whichever scan was walked over before, is walked over to i. Assumes nothing.
use mathlib.Core.List.{List}
use Prim.Native.Nat.{ℕ}
use Rattle.smooth.specs.Walks.{Slides}
use Rattle.smooth.proofs.Window.smooth_whole.Given as goal

abbrev pub invariant-loop-i : goal.invariant-loop-i
invariant-loop-i l = (before : List ℕ) → Slides l.self.reach before l.from l.fn.scan l.fn.walk.kept l.fn.walk.total → Slides l.self.reach before l.i l.scan l.kept l.total
