-- `fisheye::angles` meets its contract: after k turns the first k angles are in.
use mathlib.Core.Path.{◌≡◌}
use lib.ListN.{length}
use lib.Ieee.{Float}
use Rattle.arctan.specs.Arctan.{arctangent}
use Rattle.prelude.proofs.Turns.{Done}
use Rattle.camera.proofs.fisheye.angles.Given as goal

abbrev pub invariant-loop-k : goal.invariant-loop-k
invariant-loop-k l = (length l.all ≡ 7) × Done (λ (r : Float) (t : Float). t ≡ arctangent r) l.k l.distances l.all
