-- `EdgePoints::clear` meets its contract. Assumes nothing.
use mathlib.Core.Path.{refl}
use Rattle.fit.specs.Fit.{points_of}
use Rattle.fit.proofs.edge_points.EdgePoints.clear.Goals as goal

pub returns : goal.returns
unfolding points_of
returns c = refl
