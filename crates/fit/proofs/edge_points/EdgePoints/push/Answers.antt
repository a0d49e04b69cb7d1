-- `EdgePoints::push` meets its contract: where there is room, each list has one more at its front, and so there is one more point. Assumes nothing.
use mathlib.Core.Path.{ap, sym, ◌∙◌}
use native.Mathlib.Omega.{arith}
use borrow.Author.Tests.{lt-ltb, le-ltb}
use Prim.Native.Nat.{◌<◌, ◌≤◌}
use lib.ListN.{length}
use Rattle.consts.specs.Consts.{max_edge_points}
use Rattle.fit.proofs.Points.{length-held, one_more}
use Rattle.fit.proofs.edge_points.EdgePoints.push.Goals as goal

pub returns-then-n-lt-MAX_EDGE_POINTS : goal.returns-then-n-lt-MAX_EDGE_POINTS
returns-then-n-lt-MAX_EDGE_POINTS c =
    let p = c.self.inside in
    let held = ap length (sym c.self.view_is) ∙ length-held p.len p.xs.now p.ys.now p.weights.now p.residuals.now c.self.invariant in
    let room : length c.args.self.now < max_edge_points = omega (arith, held, c.if-n-lt-MAX_EDGE_POINTS.true) in
    rw (lt-ltb (length c.args.self.now) max_edge_points room, ← c.self.view_is)
    (one_more p.len p.xs.now p.ys.now p.weights.now p.residuals.now c.self.invariant _ _ _ c.if-n-lt-MAX_EDGE_POINTS.true)

pub returns-else-n-lt-MAX_EDGE_POINTS : goal.returns-else-n-lt-MAX_EDGE_POINTS
returns-else-n-lt-MAX_EDGE_POINTS c =
    let p = c.self.inside in
    let held = ap length (sym c.self.view_is) ∙ length-held p.len p.xs.now p.ys.now p.weights.now p.residuals.now c.self.invariant in
    let full : max_edge_points ≤ length c.args.self.now = omega (arith, held, c.if-n-lt-MAX_EDGE_POINTS.false) in
    rw (le-ltb (length c.args.self.now) max_edge_points full)
