-- `EdgePoints::set` meets its contract: the first points are those of the first x, y and weights. Assumes nothing.
use native.Mathlib.Omega.{arith}
use Rattle.consts.specs.Consts.{max_edge_points}
use Rattle.fit.proofs.Points.{copied, first-points}
use Rattle.fit.proofs.edge_points.EdgePoints.set.Goals as goal

pub returns : goal.returns
returns c =
    let n = c.min-n.result in
    rw (
      copied n c.args.xs.now _ (omega arith) c.copy_to_front.ensures,
      copied n c.args.ys.now _ (omega arith) c.copy_to_front-2.ensures,
      copied n c.args.weights.now _ (omega arith) c.copy_to_front-3.ensures,
    )
    (first-points max_edge_points n c.args.xs.now c.args.ys.now c.args.weights.now (omega arith))
