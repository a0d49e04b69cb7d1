-- `EdgePoints::fit_edge` meets its contract. Assumes nothing.
use mathlib.Core.Path.{refl}
use Rattle.fit.specs.Fit.{points_of}
use Rattle.fit.proofs.edge_points.EdgePoints.fit_edge.Goals as goal

pub returns-clause-left : goal.returns-clause-left
unfolding points_of
returns-clause-left c = refl
