-- The counts of an edge: of its probes, at most n, each point is in the line, or dropped, or was not found. The second fit drops exactly what it does
-- not keep. So every count is at most n. Assumes nothing.
use Prim.Native.Nat.{ℕ, ◌+◌, ◌-◌, ◌≤◌}
use mathlib.Core.Path.{◌≡◌, refl}
use mathlib.Core.Bool.{true, false, not}
use mathlib.Core.List.{List}
use native.Mathlib.Omega.{arith}
use lib.Dec.{ltb}
use lib.ListN.{length}
use lib.Ieee.{Float}
use Rattle.prelude.proofs.Branches.{either}
use Rattle.consts.specs.declared.Settings.{Settings}
use Rattle.pixel.specs.declared.EdgePoint.{EdgePoint}
use Rattle.line.specs.declared.Line2.{Line2}
use Rattle.number.specs.declared.Refusal.{Refusal}
use Rattle.std.specs.Prelude.{Result, Ok, Err, None, is_some}
use Rattle.float_lists.specs.Sums.{finite}
use Rattle.fit.specs.declared.EdgeStat.{EdgeStat}
use Rattle.fit.specs.declared.EdgeFit.{EdgeFit}
use Rattle.fit.specs.Fit.{stat, edge_fit, inliers, lined, refit, reject_outliers, first_fit, fit_edge, residuals, threshold, fit_points}
use Rattle.fit.proofs.Inliers.{inliers_fewer}

-- at most n probes, and no more points than probes
pub record Counted (n : ℕ) (c : EdgeStat) : Type 0 where
  pub probed : c.points_probed ≤ n
  pub points : c.points_fit + c.dropped_outliers ≤ c.points_probed

pub none_counted : (n : ℕ) → Counted n (stat 0 0 0 false)
none_counted n = record { probed = omega arith; points = omega arith }

-- the counts of an edge that does not end the round, which is valid where it has a line
pub data EdgeCounted (n : ℕ) : Result EdgeFit Refusal → Type 0 where
  stopped : {r : Refusal} → EdgeCounted n (Err r)
  counted : {f : EdgeFit} → Counted n f.stat → f.stat.valid ≡ is_some f.line → EdgeCounted n (Ok f)

lined_counted : {n : ℕ} (c : EdgeStat) (l : Result Line2 Refusal) → Counted n c → c.valid ≡ true → EdgeCounted n (lined c l)
lined_counted c (Ok l) h v = counted h v
lined_counted c (Err r) h v = stopped

module _ (n : ℕ) (s : Settings) (probed : ℕ) (few : probed ≤ n) where
  refit_counted : (all : ℕ) (left : List EdgePoint) → all ≤ probed → length left ≤ all → EdgeCounted n (refit s probed all left)
  unfolding refit
  refit_counted all left found fewer =
      either (EdgeCounted n) (ltb (length left) s.min_edge_points)
      (counted {f = edge_fit None (stat probed (length left) (all - length left) false)} (record { probed = few; points = omega arith }) refl)
      (lined_counted _ _ (record { probed = few; points = omega arith }) refl)

  module _ (module_px : Float) (ps : List EdgePoint) (found : length ps ≤ probed) where
    first_counted : (l : Result Line2 Refusal) → EdgeCounted n (first_fit s probed module_px ps l)
    unfolding first_fit reject_outliers
    first_counted (Err r) = stopped
    first_counted (Ok l) =
        let rs = residuals l ps in
        either (EdgeCounted n) (not (finite rs))
        stopped
        (refit_counted (length ps) (inliers (threshold s module_px rs) rs ps) found (inliers_fewer (threshold s module_px rs) rs ps))

    -- of a fit to the points of so many probes
    pub fit_counted : EdgeCounted n (fit_edge s probed module_px ps)
    unfolding fit_edge
    fit_counted =
        either (EdgeCounted n) (ltb (length ps) s.min_edge_points)
        (counted {f = edge_fit None (stat probed 0 0 false)} (record { probed = few; points = omega arith }) refl)
        (first_counted (fit_points ps))
