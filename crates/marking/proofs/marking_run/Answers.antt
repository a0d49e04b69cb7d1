-- `marking_run` meets its contract: sheet and copy are cleared, and the rounds ran. Assumes nothing.
use native.Mathlib.Omega.{arith}
use Rattle.std.proofs.Common.{rules}
use Rattle.request.specs.Requests.{scene_of}
use Rattle.refine.specs.Refine.{refinement}
use Rattle.marking.proofs.Calls.{cleared, ran-marked}
use Rattle.marking.proofs.marking_run.Goals as goal

pub returns : goal.returns
returns c =
    let a = c.args in
    let n = c.area-area.result in
    ran-marked (scene_of a.request) (refinement a.request a.modules.now) a.sheet.now a.copy.now c.requires.size c.area-area.ensures c.scene.ensures
    (cleared n a.sheet.now (omega (arith, c.area-area.ensures, c.requires.sheet)) (c.fill.ensures.after (λ y e. e)))
    (cleared n a.copy.now (omega (arith, c.area-area.ensures, c.requires.copy)) (c.fill-2.ensures.after (λ y e. e)))
    c.refine_entered.ensures (search rules) (search rules)
