-- `refine_corners_mapped` meets its contract: behind the entry checks the rounds ran. Assumes nothing.
use mathlib.Core.Path.{sym, ◌∙◌}
use Rattle.refine.proofs.Calls.{answers}
use Rattle.refine.proofs.refine_corners_mapped.Goals as goal

pub returns : goal.returns
returns c = answers _ _ c.scene.ensures (sym c.entry.ensures ∙ c.in_ok-entry.was) c.refine_entered.ensures
