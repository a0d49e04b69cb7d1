-- What the functions below `fit_edge` say of the lists that they are lent. Definitions only.
-- Internal: contracts inside the crate cite it, no public one does, and nothing here has to be believed.
use Rattle.std.specs.Prelude.{ℕ, ◌≤◌, ◌≡◌, List, length, take, Float}
use Rattle.consts.specs.Consts.{max_edge_points}
use Rattle.pixel.specs.declared.EdgePoint.{EdgePoint}
use Rattle.line_fit.specs.declared.Points.{Points}
use Rattle.fit.specs.Fit.{inliers, points_of}

-- the points, lent as a list of x, of y and of weights
abbrev pub edge_points : Points → List EdgePoint
edge_points ps = points_of ps.xs.now ps.ys.now ps.weights.now

-- as many y and weights as x, and no more than there is room for
pub record Paired (xs ys ws : List Float) : Type 0 where
  pub ys_too : length ys ≡ length xs
  pub weights_too : length ws ≡ length xs
  pub few : length xs ≤ max_edge_points

-- n points in lists that have room for as many as an edge can have
pub record HasRoom (n : ℕ) (xs ys ws rs : List Float) : Type 0 where
  pub few : n ≤ max_edge_points
  pub xs_room : length xs ≡ max_edge_points
  pub ys_room : length ys ≡ max_edge_points
  pub weights_room : length ws ≡ max_edge_points
  pub residuals_room : length rs ≡ max_edge_points

-- the first n of `out` are those of xs whose residual is at most the threshold
pub record Compacted (most : Float) (rs xs out : List Float) (n : ℕ) : Type 0 where
  pub few : n ≤ length xs
  pub front : take n out ≡ inliers most rs xs
