-- No place past 256 is looked up: what is scaled by 256 is not above 1, and rounding keeps the order, so that its inverse or its product with 256 is not rounded past 1 or 256. Assumes nothing.
use mathlib.Core.Path.{◌≡◌, refl, subst, sym}
use mathlib.Core.Bool.{Bool, true, false, cond, true≢false, false≢true}
use Prim.Native.Nat.{ℕ, zero, suc, ◌+◌, ◌*◌, ◌/◌, ◌^◌, ◌≤◌, ◌<◌, min}
use native.Mathlib.Nat.{div-lt_iff_lt-mul}
use native.Mathlib.Omega.{arith}
use lib.IntN.{pos}
use lib.Dec.{T, ltb, eqb-suc-zero, lit<}
use lib.Ieee.{Float, binary64, nan, inf, fin, low, emax, up, down, odd, units, round, mul, div, lt, le, eq, is_nan, of_bits, to_unsigned}
use lib.Ieee.Fits.{down_pos, round_is}
use lib.Ieee.Order.{round_mono}
use borrow.Author.Tests.{ltb-true, ltb-false}
use Rattle.prelude.specs.Prelude.{when◌then◌else◌}
use Rattle.prelude.proofs.Branches.{by_test}
use Rattle.ieee.specs.Floats.{◌⊘◌, ◌≺◌, ◌≼◌, f1, whole_part}
use Rattle.ieee_whole.proofs.AtMost.{test, tested}
use Rattle.arctan.specs.Arctan.{f256, place}

-- ---- whole parts

none : {n : ℕ} → 0 ≤ n
none = omega arith

cut : (a d : ℕ) → 0 < d → a * 1 ≤ 256 * d → min (a / d) 4294967295 ≤ 256
cut a d p h = small (a / d) ((div-lt_iff_lt-mul p).1 (over h))
  where
    over : a * 1 ≤ 256 * d → a < 257 * d
    over h = omega arith

    small : (n : ℕ) → n < 257 → min n 4294967295 ≤ 256
    small n h = omega arith

-- of a value that is at most 256
whole_to_256 : (x : Float) → T (x ≼ f256) → whole_part x ≤ 256
unfolding le lt eq of_bits to_unsigned
whole_to_256 nan h = absurd h
whole_to_256 (inf true) h = none
whole_to_256 (inf false) h = absurd h
whole_to_256 (fin true m e) h = none
whole_to_256 (fin false m e) h = cut (m * up e) (down e) (down_pos e) (tested false (m * up e * 1) false (256 * down e) h)

-- of a negative value
whole_negative : (a c : ℕ) → whole_part (round binary64 true a c) ≡ 0
whole_negative a c = subst (λ (x : Float). whole_part x ≡ 0) (sym (round_is binary64 true a c)) (of_units _ _)
  where
    of_odd : (q k : ℕ) → whole_part (odd 54 true q k 1074) ≡ 0
    of_odd zero k = unfold odd to_unsigned in refl
    of_odd (suc q) k = unfold odd to_unsigned in refl

    of_units : (q k : ℕ) → whole_part (units binary64 true q k) ≡ 0
    of_units q k = unfold units in go (ltb (q * 2 ^ k) (2 ^ (low binary64 + suc (emax binary64))))
      where
        go : (b : Bool) → whole_part (cond b (odd 54 true q k 1074) (inf true)) ≡ 0
        go true = of_odd q k
        go false = unfold to_unsigned in refl

-- ---- a q that is at most 1, and its place

scaled : (q : Float) → T (q ≼ f1) → place q ≤ 256
unfolding le lt eq of_bits mul
scaled nan h = absurd h
scaled (inf true) h = unfold to_unsigned in none
scaled (inf false) h = absurd h
scaled (fin true m e) h = subst (λ (w : ℕ). w ≤ 256) (sym (whole_negative (m * up e * 256) (down e * 1))) none
scaled (fin false m e) h =
    let x = round binary64 false (m * up e * 256) (down e * 1) in
    whole_to_256 x
    (subst (λ (z : Float). T (x ≼ z)) top
    (round_mono binary64 (m * up e * 256) (down e * 1) 256 1 (one (down e) (down_pos e)) (lit< tt) (more (m * up e) (down e) (tested false (m * up e * 1) false (1 * down e) h))))
  where
    top : round binary64 false 256 1 ≡ fin false 1 (pos 8)
    top = unfold round in refl

    one : (d : ℕ) → 0 < d → 0 < d * 1
    one d p = omega arith

    more : (a d : ℕ) → a * 1 ≤ 1 * d → a * 256 * 1 ≤ 256 * (d * 1)
    more a d h = omega arith

-- ---- the two ways to such a q

not_above : (r : Float) → is_nan r ≡ false → (f1 ≺ r) ≡ false → T (r ≼ f1)
unfolding le lt eq of_bits is_nan
not_above nan n h = absurd (true≢false n)
not_above (inf true) n h = tt
not_above (inf false) n h = absurd (true≢false h)
not_above (fin true m e) n h = test true (m * up e * 1) false (1 * down e) tt
not_above (fin false m e) n h = test false (m * up e * 1) false (1 * down e) (ltb-false (1 * down e) (m * up e * 1) h)

inverse : (r : Float) → (f1 ≺ r) ≡ true → T ((f1 ⊘ r) ≼ f1)
unfolding lt of_bits div
inverse nan h = absurd (false≢true h)
inverse (inf true) h = absurd (false≢true h)
inverse (inf false) h = unfold le lt eq in tt
inverse (fin true n d) h = absurd (false≢true h)
inverse (fin false zero d) h = absurd (nothing (up d) (down d) (ltb-true (1 * down d) (0 * up d * 1) h))
  where
    nothing : (u d : ℕ) → 1 * d < 0 * u * 1 → ⊥
    nothing u d h = omega arith
inverse (fin false (suc n) d) h =
    let a = suc n * up d in
    let x = round binary64 false (1 * down d) (a * 1) in
    let l : 1 * down d < a * 1 = ltb-true (1 * down d) (a * 1) h in
    rw (eqb-suc-zero n)
    (subst (λ (z : Float). T (x ≼ z)) top (round_mono binary64 (1 * down d) (a * 1) 1 1 (over a (1 * down d) l) (lit< tt) (less a (1 * down d) l)))
  where
    top : round binary64 false 1 1 ≡ fin false 1 (pos 0)
    top = unfold round in refl

    over : (a d : ℕ) → d < a * 1 → 0 < a * 1
    over a d h = omega arith

    less : (a d : ℕ) → d < a * 1 → d * 1 ≤ 1 * (a * 1)
    less a d h = omega arith

pub place-within : (r : Float) → is_nan r ≡ false → place (when f1 ≺ r then f1 ⊘ r else r) ≤ 256
place-within r n = by_test (f1 ≺ r) (λ h. rw h (scaled (f1 ⊘ r) (inverse r h))) (λ h. rw h (scaled r (not_above r n h)))
