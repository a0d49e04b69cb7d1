-- `Window::smooth` meets its contract: the three walks follow one another, and the last ends behind the scan. Assumes nothing.
use native.Mathlib.Omega.{arith}
use lib.ListN.{replicate}
use Rattle.smooth.specs.Walks.{Slides}
use Rattle.smooth.proofs.Sliding.{slides_none, slides_long, slides_all}
use Rattle.smooth.proofs.Window.smooth.Goals as goal
use Rattle.smooth.proofs.Window.smooth.Goals.{After-first_sum}

-- before the first record
start : (c : After-first_sum) → Slides c.args.self.reach c.args.scan.now 0 c.args.scan.now (replicate 16 0) c.first_sum.result
start c = slides_none c.args.self.reach c.args.scan.now c.first_sum.result (λ k. grind arith) c.first_sum.ensures

pub smooth_cut-walk-requires : goal.smooth_cut-walk-requires
smooth_cut-walk-requires c = ((c.args.scan.now, start ((goal.at.smooth_cut-walk-requires c).After-first_sum)), omega arith, omega arith)

pub smooth_whole-walk-requires : goal.smooth_whole-walk-requires
smooth_whole-walk-requires c =
    let s = c.smooth_cut-walk.ensures c.args.scan.now (start ((goal.at.smooth_whole-walk-requires c).After-first_sum)) in
    ((c.args.scan.now, s), omega arith, λ some. (omega arith, omega (arith, slides_long s)))

pub smooth_cut-requires : goal.smooth_cut-requires
smooth_cut-requires c =
    let s = c.smooth_whole-walk.ensures c.args.scan.now (c.smooth_cut-walk.ensures c.args.scan.now (start ((goal.at.smooth_cut-requires c).After-first_sum))) in
    ((c.args.scan.now, s), omega arith, omega (arith, slides_long s))

pub returns : goal.returns
returns c =
    let s = c.smooth_whole-walk.ensures c.args.scan.now (c.smooth_cut-walk.ensures c.args.scan.now (start ((goal.at.returns c).After-first_sum))) in
    slides_all (c.smooth_cut.ensures c.args.scan.now s)
