-- `ieee_root::roots` meets its contract: after k turns the first k roots are in.
use mathlib.Core.Path.{◌≡◌}
use lib.ListN.{length}
use lib.Ieee.{Float, binary64}
use Rattle.ieee_root.specs.Root.{root}
use Rattle.prelude.proofs.Turns.{Done}
use Rattle.ieee_root.proofs.roots.Given as goal

abbrev pub invariant-loop-k : goal.invariant-loop-k
invariant-loop-k o l = (length l.all ≡ o.row.N) × Done (λ (x : Float) (r : Float). r ≡ root binary64 x) l.k l.xs l.all
