-- `CameraCalibration::through_fisheye` meets its contract: a turn puts one more place in. Assumes nothing.
use Rattle.std.proofs.Common.{rules}
use mathlib.Core.Path.{◌≡◌, ap, ◌∙◌}
use lib.ListN.{length, length-set}
use native.Mathlib.Omega.{arith}
use Rattle.std.specs.Prelude.{Option, option_map}
use Rattle.ieee.specs.Floats.{f0}
use Rattle.pixel.specs.Pixels.{source}
use Rattle.pixel.specs.declared.SourcePixel.{SourcePixel}
use Rattle.camera.specs.declared.Normalized.{Normalized}
use Rattle.camera.specs.Camera.{fisheye, in_pixels}
use Rattle.camera.specs.Together.{through_fisheye}
use Rattle.prelude.proofs.Turns.{one_done}
use Rattle.camera.proofs.CameraCalibration.through_fisheye.Goals as goal

pub loop-k-preserved : goal.loop-k-preserved
loop-k-preserved c =
    let inv = c.loop-k.invariant in
    let len : length c.args.places ≡ 7 = search rules in
    let o = c.args in
    let sent : Normalized → Option SourcePixel = λ n. option_map (in_pixels o.self.intrinsics) (fisheye o.k1 o.k2 o.k3 o.k4 n.0 n.1) in (
      simp length-set inv.0,
      one_done (λ (p : SourcePixel) (q : Option SourcePixel). q ≡ through_fisheye o.self o.k1 o.k2 o.k3 o.k4 p) c.loop-k.k o.places c.loop-k.all (source f0 f0) (omega arith) (omega arith) inv.1
          (c.if_in_pixels.ensures ∙ ap (option_map (in_pixels o.self.intrinsics)) c.bent_at-bent.ensures ∙ ap sent (c.on_planes-planes.ensures _ _ _ c.loop-k-test.true)),
    )
