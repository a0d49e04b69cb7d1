-- `root` is IEEE 754's square root. The root of a value of binary64 above zero is a value of binary64 above zero (`root-fits` in RootLaws,
-- `root_positive` in Counts), and every other value of binary64 lies strictly farther from the true root.
-- Why: the true root has 53 leading digits q and a rest. Values of the format near it are multiples of one power of two, so only the two multiples around the root matter, and the
-- definition picks between them by the square of their middle. No root lies on a middle: a middle has one digit more than the format, and its square more digits than a value has.
-- Numbers are counted in units of 2 ^ -1074, the smallest value. So x is `count x` units (Counts.antt), and its true root is the square root of `count x * 2 ^ 1074`. Assumes nothing.
use mathlib.Core.Path.{◌≡◌, sym, subst}
use mathlib.Core.Logic.{◌⊎◌, inl, inr}
use mathlib.Core.Bool.{Bool, true, false}
use Prim.Native.Nat.{ℕ, ◌+◌, ◌-◌, ◌*◌, ◌^◌, ◌≤◌, ◌<◌}
use native.Mathlib.Nat.{lt_of_le_of_lt, lt_of_lt_of_le, lt_of_not-le, eq-or-lt_of_le}
use native.Mathlib.Decide.{dec_le}
use native.Mathlib.Omega.{arith}
use lib.Dec.{T}
use lib.Pow.{pow_pos}
use lib.Ieee.{Float, nan, inf, fin, binary64, fits}
use lib.Ieee.Scale.{finite}
use lib.Ieee.Positive.{positive, positive-finite}
use Rattle.ieee_root.specs.Root.{root}
use Rattle.ieee_root.proofs.WholeRoots.{square_mono}
use Rattle.ieee_root.proofs.RootLaws.{Beside, half_unit, root-fits}
use Rattle.ieee.proofs.Counts.{count, negative, count_exact, count_tells, count_of}
use Rattle.ieee_root.proofs.Counts.{positive_sign, found, root_positive, beside, above_half}

-- ---- the root is nearer than any other value

-- r is nearer than v, or than -v where `s` is true, to the square root of w, which is not negative: the root lies on r's side of their middle, (r + v) / 2 or (r - v) / 2.
-- By squares, so that there are only whole numbers; against r itself it is false. A middle below 0 is below the root, and there r - v is 0 in the natural numbers.
abbrev pub Nearer : (w r : ℕ) (s : Bool) (v : ℕ) → Type 0
Nearer w r false v = ((r < v) × (4 * w < (r + v) * (r + v))) ⊎ ((v < r) × ((r + v) * (r + v) < 4 * w))
Nearer w r true v = (r - v) * (r - v) < 4 * w

-- For every value x of binary64 that is `positive`, finite and above zero, and every finite value y of binary64 but the root: zeros, negative and subnormal values among them.
-- An infinity is no number to be near to. What `root` is of a zero, a negative value, an infinity and a NaN its definition says.
pub root-nearest : (x y : Float) → T (fits binary64 x) → T (positive x) → T (fits binary64 y) → T (finite y) → (y ≡ root binary64 x → ⊥)
    → Nearer (count x * 2 ^ 1074) (count (root binary64 x)) (negative y) (count y)
root-nearest x nan F P G Q D = absurd Q
root-nearest x (inf s) F P G Q D = absurd Q
root-nearest x (fin true m e) F P G Q D = lt_of_le_of_lt (square_mono (less (count (root binary64 x)) (count (fin true m e)))) (above_half x F P)
  where
    less : (r v : ℕ) → r - v ≤ r
    less r v = omega arith
root-nearest x (fin false m e) F P G Q D = go (count (root binary64 x)) (count (fin false m e)) (beside x (fin false m e) (count (fin false m e)) F P G (count_exact (fin false m e) G tt)) other
  where
    other : count (fin false m e) ≡ count (root binary64 x) → ⊥
    other h = D (count_tells (fin false m e) (root binary64 x) G (root-fits x F) tt (positive-finite (root binary64 x) (root_positive x F P)) (positive_sign (root binary64 x) (root_positive x F P)) h)

    go : (r v : ℕ) → Beside (count x * 2 ^ 1074) r v → (v ≡ r → ⊥) → Nearer (count x * 2 ^ 1074) r false v
    go r v B d = pick (dec_le v r)
      where
        below_it : (v ≡ r) ⊎ (v < r) → Nearer (count x * 2 ^ 1074) r false v
        below_it (inl h) = absurd (d h)
        below_it (inr h) = inr (h, B.1 h)

        pick : Dec (v ≤ r) → Nearer (count x * 2 ^ 1074) r false v
        pick (yes h) = below_it (eq-or-lt_of_le h)
        pick (no f) = inl (lt_of_not-le f, B.0 (lt_of_not-le f))

-- ---- the same as half a unit in the last place, which the root never reaches

-- The root is q * 2 ^ k units with 53 digits in q, and the true root lies strictly between (q - 1 / 2) * 2 ^ k and (q + 1 / 2) * 2 ^ k.
pub record WithinHalf (w r : ℕ) : Type 0 where
  pub q : ℕ
  pub k : ℕ
  pub is : r ≡ q * 2 ^ k
  pub digits : (2 ^ 52 ≤ q) × (q < 2 ^ 53)
  pub over : (2 * q - 1) * (2 * q - 1) * 2 ^ (2 * k) < 4 * w
  pub under : 4 * w < (2 * q + 1) * (2 * q + 1) * 2 ^ (2 * k)

pub root_within_half : (x : Float) → T (fits binary64 x) → T (positive x) → WithinHalf (count x * 2 ^ 1074) (count (root binary64 x))
root_within_half x F P =
    let Z = found x F P in
    let h = half_unit Z.n Z.q Z.k Z.near (lt_of_lt_of_le (pow_pos 52) Z.low) in
    record {
      q = Z.q;
      k = Z.k;
      is = count_of (root binary64 x) false (Z.q * 2 ^ Z.k) Z.is;
      digits = (Z.low, Z.high);
      over = subst (λ (w : ℕ). (2 * Z.q - 1) * (2 * Z.q - 1) * 2 ^ (2 * Z.k) < 4 * w) (sym Z.square) h.0;
      under = subst (λ (w : ℕ). 4 * w < (2 * Z.q + 1) * (2 * Z.q + 1) * 2 ^ (2 * Z.k)) (sym Z.square) h.1;
    }
