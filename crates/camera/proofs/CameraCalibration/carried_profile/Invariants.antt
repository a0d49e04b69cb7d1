-- `CameraCalibration::carried_profile` meets its contract: after k turns the first k places are in.
use mathlib.Core.Path.{◌≡◌}
use lib.ListN.{length}
use Rattle.std.specs.Prelude.{Option}
use Rattle.pixel.specs.declared.SourcePixel.{SourcePixel}
use Rattle.camera.specs.Camera.{carried}
use Rattle.prelude.proofs.Turns.{Done}
use Rattle.camera.proofs.CameraCalibration.carried_profile.Given as goal

abbrev pub invariant-loop-k : goal.invariant-loop-k
invariant-loop-k l = (length l.all ≡ 7) × Done (λ (p : SourcePixel) (q : Option SourcePixel). q ≡ carried l.self p) l.k l.places l.all
