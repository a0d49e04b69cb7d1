-- `CameraCalibration::on_planes` meets its contract: after k turns the first k places are in.
use mathlib.Core.Path.{◌≡◌}
use lib.ListN.{length}
use Rattle.pixel.specs.declared.SourcePixel.{SourcePixel}
use Rattle.camera.specs.declared.Normalized.{Normalized}
use Rattle.camera.specs.Camera.{on_plane}
use Rattle.prelude.proofs.Turns.{Done}
use Rattle.camera.proofs.CameraCalibration.on_planes.Given as goal

abbrev pub invariant-loop-k : goal.invariant-loop-k
invariant-loop-k l = (length l.all ≡ 7) × Done (λ (p : SourcePixel) (n : Normalized). n ≡ on_plane l.self.rectified p) l.k l.places l.all
