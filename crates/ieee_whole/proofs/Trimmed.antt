-- The whole part of a float as a `u32`, by what the two comparisons of `split_whole` say. Assumes nothing.
use Rattle.std.proofs.Common.{◌≡◌, ℕ, zero, suc, ◌+◌, ◌-◌, ◌*◌, ◌/◌, ◌^◌, ◌<◌, ◌≤◌, min, Bool, true, false, cond, not, ◌&&◌, T, ltb, ℤ, pos, sym, refl, subst, true≢false, zero-le, le_of_lt, mul_comm, le-div_iff_mul-le, arith, lt→ltb, ltb-false, ltb-true}
use native.Mathlib.Nat.{div-le_of_le-mul}
use mathlib.Core.Bool.{beq}
use lib.Ieee.{Float, nan, inf, fin, Format, prec, emax, low, binary64, up, down, odd, units, round, sum, add, lt, eq, le, is_nan, of_bits, to_unsigned}
use Rattle.ieee.specs.Floats.{f0, ◌⊕◌, ◌≼◌}
use Rattle.std.specs.Float.{float_is_finite}
use Rattle.ieee.proofs.Order.{zeros, else_more}
use lib.Ieee.Fits.{down_pos}

above : (m u d : ℕ) → 0 < d → 4294967295 * d < m * u → min (m * u / d) 4294967295 ≡ 4294967295
above m u d p h = go (m * u / d) ((le-div_iff_mul-le p).1 (le_of_lt h))
  where
    go : (a : ℕ) → 4294967295 ≤ a → min a 4294967295 ≡ 4294967295
    go a k = omega arith

below : (m u d : ℕ) → m * u ≤ 4294967295 * d → m * u / d ≤ 4294967295
below m u d h = div-le_of_le-mul d (subst (λ (k : ℕ). m * u ≤ k) (mul_comm 4294967295 d) h)

plain-lt : (m u d : ℕ) → ltb (4294967295 * 1 * d) (m * u * 1) ≡ true → 4294967295 * d < m * u
plain-lt m u d h = go (m * u) (ltb-true (4294967295 * 1 * d) (m * u * 1) h)
  where
    go : (a : ℕ) → 4294967295 * 1 * d < a * 1 → 4294967295 * d < a
    go a k = omega arith

plain-le : (m u d : ℕ) → ltb (4294967295 * 1 * d) (m * u * 1) ≡ false → m * u ≤ 4294967295 * d
plain-le m u d h = go (m * u) (ltb-false (4294967295 * 1 * d) (m * u * 1) h)
  where
    go : (a : ℕ) → a * 1 ≤ 4294967295 * 1 * d → a ≤ 4294967295 * d
    go a k = omega arith

-- above the range
pub capped : (x : Float) → lt (of_bits binary64 0x41ef_ffff_ffe0_0000) x ≡ true → 4294967295 ≡ to_unsigned 32 x
unfolding lt of_bits to_unsigned
capped nan h = absurd (true≢false (sym h))
capped (inf true) h = absurd (true≢false (sym h))
capped (inf false) h = refl
capped (fin true m e) h = absurd (true≢false (sym h))
capped (fin false m e) h = sym (above m (up e) (down e) (down_pos e) (plain-lt m (up e) (down e) h))

-- below 0, or a NaN
pub nothing : (x : Float) → (f0 ≼ x) ≡ false → 0 ≡ to_unsigned 32 x
unfolding lt eq le of_bits to_unsigned float_is_finite
nothing nan h = refl
nothing (inf true) h = refl
nothing (inf false) h = absurd (true≢false h)
nothing (fin true m e) h = refl
nothing (fin false m e) h = absurd (none (m * up e * 1) (down e) (ltb-true (m * up e * 1) (0 * 1 * down e) (else_more f0 (fin false m e) refl refl h)))
  where
    none : (a d : ℕ) → a < 0 * 1 * d → ⊥
    none a d l = omega arith

-- from 0 to the end of the range
pub record Between (x : Float) : Type 0 where
  pub over : T (lt (fin true 1 (pos 0)) x)
  pub under : T (lt x (fin false 1 (pos 64)))
  pub fits : to_unsigned 64 x ≤ 4294967295
  pub same : to_unsigned 64 x ≡ to_unsigned 32 x

pub between : (x : Float) → (f0 ≼ x) ≡ true → lt (of_bits binary64 0x41ef_ffff_ffe0_0000) x ≡ false → Between x
unfolding lt eq le of_bits to_unsigned
between nan k h = absurd (true≢false (sym k))
between (inf true) k h = absurd (true≢false (sym k))
between (inf false) k h = absurd (true≢false h)
between (fin true m e) k h =
    let z = zeros (0 * 1 * down e) (m * up e * 1) k in
    record {
      over = lt→ltb (m * up e * 1) (1 * 1 * down e) (first (m * up e) (down e) (down_pos e) z);
      under = lt→ltb 0 (m * up e * 1 + 1 * 2 ^ 64 * down e) (second (m * up e) (down e) (down_pos e));
      fits = zero-le;
      same = refl;
    }
  where
    first : (a d : ℕ) → 0 < d → a * 1 + 0 * 1 * d ≤ 0 → a * 1 < 1 * 1 * d
    first a d p l = omega arith

    second : (a d : ℕ) → 0 < d → 0 < a * 1 + 1 * 2 ^ 64 * d
    second a d p = omega arith
between (fin false m e) k h =
    let small = plain-le m (up e) (down e) h in
    let q = below m (up e) (down e) small in
    record {
      over = lt→ltb 0 (1 * 1 * down e + m * up e * 1) (first (m * up e) (down e) (down_pos e));
      under = lt→ltb (m * up e * 1) (1 * 2 ^ 64 * down e) (second (m * up e) (down e) (down_pos e) small);
      fits = third (m * up e / down e) q;
      same = fourth (m * up e / down e) q;
    }
  where
    first : (a d : ℕ) → 0 < d → 0 < 1 * 1 * d + a * 1
    first a d p = omega arith

    second : (a d : ℕ) → 0 < d → a ≤ 4294967295 * d → a * 1 < 1 * 2 ^ 64 * d
    second a d p l = omega arith

    third : (a : ℕ) → a ≤ 4294967295 → min a (2 ^ 64 - 1) ≤ 4294967295
    third a l = omega arith

    fourth : (a : ℕ) → a ≤ 4294967295 → min a (2 ^ 64 - 1) ≡ min a (2 ^ 32 - 1)
    fourth a l = omega arith

-- ---- a guess

units_number : (f : Format) (s : Bool) (q k : ℕ) → T (not (is_nan (units f s q k)))
unfolding units odd is_nan
units_number f s q k = go (ltb (q * 2 ^ k) (2 ^ (low f + suc (emax f)))) q
  where
    go : (b : Bool) (q : ℕ) → T (not (is_nan (cond b (odd (suc (prec f)) s q k (low f)) (inf s))))
    go true zero = tt
    go true (suc q) = tt
    go false q = tt

round_number : (f : Format) (s : Bool) (a c : ℕ) → T (not (is_nan (round f s a c)))
unfolding round
round_number f s a c = units_number f s _ _

sum_number : (f : Format) (s : Bool) (a : ℕ) (t : Bool) (b c : ℕ) → T (not (is_nan (sum f s a t b c)))
unfolding sum
sum_number f s a t b c = go (beq s t) (ltb a b)
  where
    go : (p q : Bool) → T (not (is_nan (cond p (round f s (a + b) c) (cond q (round f t (b - a) c) (round f (s && ltb b a) (a - b) c)))))
    go true q = round_number f s (a + b) c
    go false true = round_number f t (b - a) c
    go false false = round_number f (s && ltb b a) (a - b) c

-- a number that is not negative and a finite one have a sum
pub sum-is-number : (x : Float) (t : Bool) (n : ℕ) (d : ℤ) → (f0 ≼ x) ≡ true → T (not (is_nan (x ⊕ fin t n d)))
unfolding lt eq le of_bits add is_nan
sum-is-number nan t n d h = absurd (true≢false (sym h))
sum-is-number (inf s) t n d h = tt
sum-is-number (fin s m e) t n d h = sum_number binary64 s (m * up e * down d) t (n * up d * down e) (down e * down d)
