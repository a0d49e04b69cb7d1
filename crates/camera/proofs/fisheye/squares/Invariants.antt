-- `fisheye::squares` meets its contract: after k turns the first k squares are in.
use mathlib.Core.Path.{◌≡◌}
use lib.ListN.{length}
use lib.Ieee.{Float}
use Rattle.camera.specs.declared.Normalized.{Normalized}
use Rattle.camera.specs.Together.{square}
use Rattle.prelude.proofs.Turns.{Done}
use Rattle.camera.proofs.fisheye.squares.Given as goal

abbrev pub invariant-loop-k : goal.invariant-loop-k
invariant-loop-k l = (length l.all ≡ 7) × Done (λ (p : Normalized) (d : Float). d ≡ square p) l.k l.places l.all
