-- What a line says of its points. Assumes nothing.
use mathlib.Core.Path.{◌≡◌, refl}
use Prim.Native.Nat.{◌≤◌}
use mathlib.Core.Bool.{Bool, true, false, ◌||◌}
use mathlib.Core.List.{List}
use lib.Dec.{ltb}
use lib.Ieee.{Float}
use lib.ListN.{length}
use borrow.Author.Tests.{ltb-false}
use Rattle.std.specs.Prelude.{Result, Ok, Err}
use Rattle.prelude.specs.Prelude.{when◌then◌else◌}
use Rattle.number.specs.declared.Refusal.{Refusal}
use Rattle.number.specs.declared.Refusal.TheVariants as refusal
use Rattle.line.specs.declared.Line2.{Line2}
use Rattle.line_fit.specs.LineFit.{fit_line}

-- a line has at least two points
pub two_points : (xs ys ws : List Float) (l : Line2) → fit_line xs ys ws ≡ Ok l → 2 ≤ length xs
two_points xs ys ws l e = by _ (ltb (length xs) 2) refl e
  where
    by : (r : Result Line2 Refusal) (b : Bool) → ltb (length xs) 2 ≡ b → (when b || ltb (length ys) 2 then Err refusal.Points else r) ≡ Ok l → 2 ≤ length xs
    by r true h f = cc
    by r false h f = ltb-false (length xs) 2 h
