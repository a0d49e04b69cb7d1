-- `refine_entered` meets its contract: the rounds ran over the label's own modules. Assumes nothing.
use Rattle.refine.proofs.Calls.{entered}
use Rattle.refine.proofs.refine_entered.Goals as goal

pub returns : goal.returns
returns c = entered _ c.args.modules.now c.own_modules-n.ensures c.source_corners-q.ensures c.plan_of.ensures c.refine_rounds.ensures.answer
