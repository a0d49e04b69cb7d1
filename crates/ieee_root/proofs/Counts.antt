-- The root of a value, from its count of units of 2 ^ -1074 (`ieee`, `Counts.antt`). Assumes nothing.
use mathlib.Core.Path.{◌≡◌, refl, subst}
use mathlib.Core.Bool.{true, false}
use Prim.Native.Nat.{ℕ, ◌*◌, ◌^◌, ◌<◌}
use native.Mathlib.Nat.{lt_of_lt_of_le, add-zero, mul-pos}
use lib.IntN.{pos}
use lib.Dec.{T}
use lib.Pow.{pow_pos}
use lib.Ieee.{Float, nan, inf, fin, binary64, fits}
use lib.Ieee.Exact.{HasValue}
use lib.Ieee.Positive.{positive, positive_of_value, value_pos}
use Rattle.ieee.proofs.Counts.{count, negative, count_exact}
use Rattle.ieee_root.specs.Root.{root}
use Rattle.ieee_root.proofs.RootLaws.{Rooted, rooted, Beside, beside_all, root-fits}

-- ---- a value above zero, and its root

pub positive_value : (x : Float) → T (fits binary64 x) → T (positive x) → HasValue x false (count x) (2 ^ 1074)
positive_value nan F P = absurd P
positive_value (inf s) F P = absurd P
positive_value (fin true m e) F P = absurd P
positive_value (fin false m e) F P = count_exact (fin false m e) F tt

pub positive_sign : (x : Float) → T (positive x) → false ≡ negative x
positive_sign nan P = absurd P
positive_sign (inf s) P = absurd P
positive_sign (fin true m e) P = absurd P
positive_sign (fin false m e) P = refl

-- the root of x, as `RootLaws.antt` has it
pub found : (x : Float) → T (fits binary64 x) → T (positive x) → Rooted x (count x)
found x F P = rooted x (count x) F P (positive_value x F P)

-- a value above zero has a root above zero
pub root_positive : (x : Float) → T (fits binary64 x) → T (positive x) → T (positive (root binary64 x))
root_positive x F P =
    let Z = found x F P in
    positive_of_value (root binary64 x) (Z.q * 2 ^ Z.k) (2 ^ 1074) Z.is (mul-pos (lt_of_lt_of_le (pow_pos 52) Z.low) (pow_pos Z.k))

pub beside : (x y : Float) (v : ℕ) → T (fits binary64 x) → T (positive x) → T (fits binary64 y) → HasValue y false v (2 ^ 1074) → Beside (count x * 2 ^ 1074) (count (root binary64 x)) v
beside x y v F P G h =
    beside_all x y (count x) (count (root binary64 x)) v F P (positive_value x F P) (positive_value (root binary64 x) (root-fits x F) (root_positive x F P)) G h

zero_fits : T (fits binary64 (fin false 0 (pos 0)))
unfolding fits
zero_fits = tt

-- zero is farther, and so is what lies below it
pub above_half : (x : Float) → T (fits binary64 x) → T (positive x) → count (root binary64 x) * count (root binary64 x) < 4 * (count x * 2 ^ 1074)
above_half x F P =
    let r = count (root binary64 x) in
    let p : 0 < r = value_pos (root binary64 x) r (2 ^ 1074) (root_positive x F P) (pow_pos 1074) (positive_value (root binary64 x) (root-fits x F) (root_positive x F P)) in
    subst (λ (z : ℕ). z * z < 4 * (count x * 2 ^ 1074)) (add-zero r) ((beside x (fin false 0 (pos 0)) 0 F P zero_fits (refl, refl)).1 p)
