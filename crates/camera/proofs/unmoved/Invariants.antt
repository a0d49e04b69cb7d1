-- `unmoved` meets its contract: after k turns the first k places are in.
use mathlib.Core.Path.{◌≡◌}
use lib.ListN.{length}
use Rattle.std.specs.Prelude.{Option, Some}
use Rattle.pixel.specs.declared.SourcePixel.{SourcePixel}
use Rattle.prelude.proofs.Turns.{Done}
use Rattle.camera.proofs.unmoved.Given as goal

abbrev pub invariant-loop-k : goal.invariant-loop-k
invariant-loop-k l = (length l.all ≡ 7) × Done (λ (p : SourcePixel) (q : Option SourcePixel). q ≡ Some p) l.k l.places l.all
