-- IEEE 754's square root, Rust's `f64::sqrt`, through squares of whole numbers. Definitions only, to
-- be believed; `NearRoot` is internal, what the inner functions promise of a whole number's root.
-- A value is one of the library's `Float`, a format f one of its two: `prec f` is how many binary digits it
-- keeps, and 2 ^ -low f is its smallest value, the unit that is counted in here. That `root` is the
-- nearest value of the format to the true root is a theorem, `root-nearest` of proofs/RootNearest.
use Prim.Native.Nat.{ℕ, zero, suc, ◌+◌, ◌-◌, ◌*◌, ◌/◌, ◌^◌, ◌≤◌, ◌<◌, compare}
use Rattle.std.specs.Prelude.{true, false, cond, leb, Float}
use Rattle.std.specs.Float.{nan, inf, fin, Format}
use Rattle.std.specs.Float.Ieee.{prec, low, up, down, size, nearest, units}

-- The largest r with r * r at most n, for an n below 4 ^ d: twice the root of a quarter of n, or one more.
unfoldable pub root_by : ℕ → ℕ → ℕ
root_by zero n = 0
root_by (suc d) n = let r = 2 * root_by d (n / 4) in cond (leb ((r + 1) * (r + 1)) n) (r + 1) r

-- The value of the format f that is nearest to the square root of w, counted in units of f's smallest value.
-- Of the root's digits, which are half as many as w's, the format keeps the `prec` leading ones and drops k. So q * 2 ^ k is the largest multiple of 2 ^ k
-- units that is at most the root. The next one up is nearer where the middle of the two, (2 * q + 1) * 2 ^ k / 2, is below the root: where 4 * w is above the square of (2 * q + 1) * 2 ^ k.
unfoldable pub root_units : Format → ℕ → Float
unfolding size units root_by
root_units f w =
    let k = suc (size w) / 2 - prec f in
    let q = root_by (prec f) (w / 2 ^ (2 * k)) in
    units f false (nearest q (compare (4 * w) ((2 * q + 1) * (2 * q + 1) * 2 ^ (2 * k)))) k

-- The square root of x, rounded once to the format f: x is n units of 2 ^ -low, and its root is √(n * 2 ^ low) such units.
-- Either zero and the positive infinity are their own roots. Of any other negative value and of a NaN there is none.
unfoldable pub root : Format → Float → Float
unfolding root_units
root f nan = nan
root f (inf s) = cond s nan (inf false)
root f (fin s zero e) = fin s zero e
root f (fin true (suc m) e) = nan
root f (fin false (suc m) e) = root_units f (suc m * up e * 2 ^ (2 * low f) / down e)

-- r is the whole number nearest to the square root of n: (2 * r - 1) ^ 2 < 4 * n < (2 * r + 1) ^ 2, which for whole numbers says this
pub record NearRoot (n r : ℕ) : Type 0 where
  pub low : r * r < n + r
  pub high : n ≤ r * r + r
