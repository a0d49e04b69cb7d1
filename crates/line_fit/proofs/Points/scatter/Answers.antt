-- `line_fit::Points::scatter` meets its contract: at its end i is the number of the points. Assumes nothing.
use mathlib.Core.Path.{◌≡◌}
use native.Mathlib.Omega.{arith}
use lib.ListN.{length}
use Rattle.line_fit.proofs.Points.scatter.Goals as goal

pub returns : goal.returns
returns c =
    let e : c.loop-i.i ≡ length c.args.self.xs.now = omega arith in
    let sums = c.loop-i.invariant in
    rw (sums.sxx, sums.sxy, sums.syy, e)
