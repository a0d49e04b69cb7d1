-- `CameraCalibration::through_fisheye` meets its contract: after k turns the first k places are in.
use mathlib.Core.Path.{◌≡◌}
use lib.ListN.{length}
use Rattle.std.specs.Prelude.{Option}
use Rattle.pixel.specs.declared.SourcePixel.{SourcePixel}
use Rattle.camera.specs.Together.{through_fisheye}
use Rattle.prelude.proofs.Turns.{Done}
use Rattle.camera.proofs.CameraCalibration.through_fisheye.Given as goal

abbrev pub invariant-loop-k : goal.invariant-loop-k
invariant-loop-k l = (length l.all ≡ 7) × Done (λ (p : SourcePixel) (q : Option SourcePixel). q ≡ through_fisheye l.self l.k1 l.k2 l.k3 l.k4 p) l.k l.fn.places l.all
