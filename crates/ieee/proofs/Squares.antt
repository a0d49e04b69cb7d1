-- A value of binary64 whose square is below it lies between 0 and 1: a square is not negative, and from 1 on, and of 0, it is no less, which rounding keeps. Assumes nothing.
use mathlib.Core.Path.{◌≡◌, refl, sym, ◌∙◌, subst}
use mathlib.Core.Bool.{Bool, true, false, true≢false}
use Prim.Native.Nat.{ℕ, ◌*◌, ◌≤◌, ◌<◌}
use native.Mathlib.Nat.{zero-mul, mul_assoc, mul-le-mul_left, mul-le-mul_right, mul-pos, le_of_eq}
use native.Mathlib.Omega.{arith}
use lib.Dec.{T, ltb}
use lib.IntN.{ℤ}
use lib.Ieee.{Float, nan, inf, fin, binary64, up, down, round, mul, lt, of_bits, fits}
use lib.Ieee.Bits.{is_true}
use lib.Ieee.Fits.{down_pos}
use lib.Ieee.Order.{round_mono}
use borrow.Author.Tests.{ltb-true, ltb-false, lt-ltb}
use Rattle.ieee.specs.Floats.{◌⊗◌, ◌≺◌, ◌≼◌, f0, f1}
use Rattle.ieee.proofs.Counts.{round_itself}
use Rattle.ieee.proofs.Magnitudes.{Signed, round_signed}
use Rattle.ieee.proofs.Order.{not_more}

-- what is not negative is not below what is
not_below : (z : Float) (m : ℕ) (e : ℤ) → Signed false z → (z ≺ fin true m e) ≡ false
unfolding lt
not_below nan m e h = absurd h
not_below (inf true) m e h = absurd (true≢false h)
not_below (inf false) m e h = refl
not_below (fin true n d) m e h = absurd (true≢false h)
not_below (fin false n d) m e h = refl

-- where a of 1 / c is 0, or 1 or more, its square is no less
no_less : (a c : ℕ) → a * c ≤ a * a → a * (c * c) ≤ a * a * c
no_less a c h = subst (λ (k : ℕ). k ≤ a * a * c) (mul_assoc a c c) (mul-le-mul_right c h)

pub square_below : (x : Float) → T (fits binary64 x) → (x ⊗ x ≺ x) ≡ true → ((f0 ≺ x) ≡ true) × ((x ≺ f1) ≡ true)
unfolding mul lt of_bits
square_below nan F h = absurd (true≢false (sym h))
square_below (inf true) F h = absurd (true≢false (sym h))
square_below (inf false) F h = absurd (true≢false (sym h))
square_below (fin true m e) F h =
    absurd (true≢false (sym h ∙ not_below (round binary64 false (m * up e * (m * up e)) (down e * down e)) m e (round_signed binary64 false (m * up e * (m * up e)) (down e * down e))))
square_below (fin false m e) F h = (
  lt-ltb (0 * 1 * down e) (m * up e * 1) (some (m * up e) (down e) (by (ltb 0 (m * up e)) refl)),
  lt-ltb (m * up e * 1) (1 * 1 * down e) (small (m * up e) (down e) (under (ltb (m * up e) (down e)) refl)),
)
  where
    some : (a c : ℕ) → 0 < a → 0 * 1 * c < a * 1
    some a c p = omega (arith, p)

    small : (a c : ℕ) → a < c → a * 1 < 1 * 1 * c
    small a c p = omega (arith, p)

    clash : m * up e * down e ≤ m * up e * (m * up e) → ⊥
    clash k =
        true≢false
        (sym h
        ∙ not_more (fin false m e) (round binary64 false (m * up e * (m * up e)) (down e * down e))
        (is_true (fin false m e ≼ round binary64 false (m * up e * (m * up e)) (down e * down e))
        (subst (λ (u : Float). T (u ≼ round binary64 false (m * up e * (m * up e)) (down e * down e))) (round_itself false m e F)
        (round_mono binary64 (m * up e) (down e) (m * up e * (m * up e)) (down e * down e) (down_pos e) (mul-pos (down_pos e) (down_pos e)) (no_less (m * up e) (down e) k)))))

    by : (b : Bool) → ltb 0 (m * up e) ≡ b → 0 < m * up e
    by true hb = ltb-true 0 (m * up e) hb
    by false hb = absurd (clash (nothing (m * up e) (ltb-false 0 (m * up e) hb)))
      where
        nothing : (a : ℕ) → a ≤ 0 → a * down e ≤ a * a
        nothing a z = subst (λ (k : ℕ). k * down e ≤ k * k) (none a z) (le_of_eq (zero-mul (down e)))
          where
            none : (a : ℕ) → a ≤ 0 → 0 ≡ a
            none a z = omega (arith, z)

    under : (b : Bool) → ltb (m * up e) (down e) ≡ b → m * up e < down e
    under true hb = ltb-true (m * up e) (down e) hb
    under false hb = absurd (clash (mul-le-mul_left (m * up e) (ltb-false (m * up e) (down e) hb)))
