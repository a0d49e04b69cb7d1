-- What the bit pattern of a value above zero says of the value and of its root. Assumes nothing.
use mathlib.Core.Path.{◌≡◌, refl, sym, ap, ◌∙◌, subst}
use mathlib.Core.Bool.{Bool, true, false, not, ◌||◌, beq, cond, true≢false, false≢true}
use Prim.Native.Nat.{ℕ, zero, suc, ◌+◌, ◌-◌, ◌*◌, ◌/◌, ◌%◌, ◌^◌, ◌≤◌, ◌<◌}
use native.Mathlib.Nat.{le_trans, le_of_eq, lt_of_lt_of_le, lt_of_le_of_lt, lt_of_not-le, not-le_of_lt, lt_irrefl, mul-one, zero-mul, mul_assoc, mul_right_comm, mul-le-mul_right, mul-div_cancel, mod-lt, mod-eq_of_lt}
use native.Mathlib.Omega.{arith}
use lib.IntN.{ℤ, pos}
use lib.Dec.{T, leb, eqb, lit<, ltb→lt, nleb→lt, nltb→le, eqb→eq, T_not}
use lib.Pow.{pow_pos, pow_mono, pow-add, shl_lt}
use lib.Bits.{bit_and, bit_or, and_mask, or_shifted_r}
use lib.Count.{count_leading_zeros, leading_top}
use lib.Ieee.{Float, nan, inf, fin, binary64, up, down, odd, of_fields, of_bits, to_bits, fits, is_nan, lt, eq}
use lib.Ieee.Bits.{of_bits-to_bits}
use lib.Ieee.Exact.{HasValue, odd_sign}
use lib.Ieee.Fits.{down_pos, up_pos, eq→eqb, and_l, and_i}
use lib.Ieee.Positive.{positive, above, first_pos, value_pos}
use Rattle.prelude.proofs.Tests.{or_right}
use Rattle.ieee_root.specs.Root.{root, root_units}
use Rattle.ieee.proofs.Patterns.{yes, no, of_bits_is, zero_is}
use Rattle.ieee_root.proofs.Examples.{infinity}

abbrev zero_float : Float
zero_float = fin false 0 (pos 0)

-- ---- the tests against 0.0

more : (d a : ℕ) → 0 * d < a * 1 → 0 < a
more d a h = omega arith

pub above_zero : (x : Float) → lt zero_float x ≡ true → T (above x)
unfolding lt
above_zero nan h = absurd (false≢true h)
above_zero (inf true) h = absurd (false≢true h)
above_zero (inf false) h = tt
above_zero (fin true m e) h = absurd (false≢true h)
above_zero (fin false m e) h = lib.Dec.lt→ltb 0 m (first_pos m (up e) (more (down e) (m * up e) (ltb→lt (0 * down e) (m * up e * 1) (yes h))))

pub not_nan : (x : Float) → T (above x) → T (not (is_nan x))
unfolding is_nan
not_nan nan h = absurd h
not_nan (inf s) h = tt
not_nan (fin s m e) h = tt

pub root_zero : (x : Float) → eq x zero_float ≡ true → x ≡ root binary64 x
unfolding eq root
root_zero nan h = absurd (false≢true h)
root_zero (inf s) h = absurd (false≢true h)
root_zero (fin s zero e) h = refl
root_zero (fin s (suc m) e) h = absurd (none (suc m * up e) (down e) (mul_pos' m e) (eqb→eq (suc m * up e * 1) (0 * down e) (and_l (eqb (suc m * up e * 1) (0 * down e)) _ (yes h))))
  where
    mul_pos' : (m : ℕ) (e : ℤ) → 0 < suc m * up e
    mul_pos' m e = native.Mathlib.Nat.mul-pos (native.Mathlib.Nat.zero-lt-suc m) (up_pos e)

    none : (a d : ℕ) → 0 < a → a * 1 ≡ 0 * d → ⊥
    none a d p h = omega arith

zero_equals : (s : Bool) (e : ℤ) → T (eq (fin s 0 e) zero_float)
unfolding eq
zero_equals s e = and_i (eqb (0 * up e * 1) (0 * down e)) (beq s false || eqb (0 * up e * 1) 0) (eq→eqb (none ∙ sym (zero-mul (down e)))) (or_right (beq s false) (eqb (0 * up e * 1) 0) (eq→eqb none))
  where
    none : 0 * up e * 1 ≡ 0
    none = mul-one (0 * up e) ∙ zero-mul (up e)

pub root_none : (x : Float) → lt zero_float x ≡ false → eq x zero_float ≡ false → nan ≡ root binary64 x
unfolding lt root
root_none nan h k = refl
root_none (inf true) h k = refl
root_none (inf false) h k = absurd (true≢false h)
root_none (fin true (suc m) e) h k = refl
root_none (fin true zero e) h k = absurd (T_not (eq (fin true 0 e) zero_float) (no k) (zero_equals true e))
root_none (fin false zero e) h k = absurd (T_not (eq (fin false 0 e) zero_float) (no k) (zero_equals false e))
root_none (fin false (suc m) e) h k = absurd (not-le_of_lt (native.Mathlib.Nat.mul-pos (native.Mathlib.Nat.zero-lt-suc m) (up_pos e)) (less (down e) (suc m * up e) (nltb→le (0 * down e) (suc m * up e * 1) (no h))))
  where
    less : (d a : ℕ) → a * 1 ≤ 0 * d → a ≤ 0
    less d a h = omega arith

-- ---- the fields of a value above zero

pub data Reading (s : Bool) (f t : ℕ) (v : Float) : Type 0 where
  subnormal : s ≡ false → f ≡ 0 → T (positive v) → HasValue v false t (2 ^ 1074) → Reading s f t v
  normal : s ≡ false → (j : ℕ) → f ≡ suc j → (suc j ≡ 2047 → ⊥) → T (positive v) → HasValue v false ((2 ^ 52 + t) * 2 ^ j) (2 ^ 1074) → Reading s f t v
  infinite : v ≡ inf false → Reading s f t v

finite_above : (v : Float) (s : Bool) (a c : ℕ) → T (above v) → HasValue v s a c → T (positive v)
finite_above nan s a c p h = absurd h
finite_above (inf t) s a c p h = absurd h
finite_above (fin true m e) s a c p h = absurd p
finite_above (fin false m e) s a c p h = p

sign_of : (x : Float) (s : Bool) (a c : ℕ) → T (positive x) → HasValue x s a c → s ≡ false
sign_of nan s a c p h = absurd p
sign_of (inf t) s a c p h = absurd p
sign_of (fin true m e) s a c p h = absurd p
sign_of (fin false m e) s a c p h = sym h.0

clear : (v : Float) (s : Bool) (a c : ℕ) → T (positive v) → HasValue v s a c → HasValue v false a c
clear v s a c p h = subst (λ (k : Bool). HasValue v k a c) (sign_of v s a c p h) h

at_ones : (b s : Bool) (f t : ℕ) → T (above (cond b (inf s) nan)) → Reading s f t (cond b (inf s) nan)
at_ones true true f t p = absurd p
at_ones true false f t p = infinite refl
at_ones false s f t p = absurd p

at_field : (b s : Bool) (j t : ℕ) → (T (not b) → suc j ≡ 2047 → ⊥) → T (above (cond b (cond (eqb t 0) (inf s) nan) (odd 53 s (2 ^ 52 + t) j 1074)))
    → Reading s (suc j) t (cond b (cond (eqb t 0) (inf s) nan) (odd 53 s (2 ^ 52 + t) j 1074))
at_field true s j t n p = at_ones (eqb t 0) s (suc j) t p
at_field false s j t n p =
    let v = odd 53 s (2 ^ 52 + t) j 1074 in
    let a = (2 ^ 52 + t) * 2 ^ j in
    let h = odd_sign 53 s (2 ^ 52 + t) j 1074 in
    let q = finite_above v s a (2 ^ 1074) p h in
    normal (sign_of v s a (2 ^ 1074) q h) j refl (n tt) q (clear v s a (2 ^ 1074) q h)

read : (s : Bool) (f t : ℕ) → T (above (of_fields binary64 s f t)) → Reading s f t (of_fields binary64 s f t)
unfolding of_fields
read s zero t p =
    let v = odd 53 s t 0 1074 in
    let h : HasValue v s t (2 ^ 1074) = subst (λ (a : ℕ). HasValue v s a (2 ^ 1074)) (mul-one t) (odd_sign 53 s t 0 1074) in
    let q = finite_above v s t (2 ^ 1074) p h in
    subnormal (sign_of v s t (2 ^ 1074) q h) refl q (clear v s t (2 ^ 1074) q h)
read s (suc j) t p = at_field (eqb (suc j) 2047) s j t (λ n e. T_not (eqb (suc j) 2047) n (eq→eqb e)) p

-- ---- the root of a value in units

pub root-of-value : (x : Float) (a : ℕ) → T (positive x) → HasValue x false a (2 ^ 1074) → root binary64 x ≡ root_units binary64 (a * 2 ^ 1074)
unfolding root
root-of-value nan a p h = absurd p
root-of-value (inf s) a p h = absurd p
root-of-value (fin true m e) a p h = absurd p
root-of-value (fin false zero e) a p h = absurd p
root-of-value (fin false (suc m) e) a p h =
    ap (root_units binary64)
    (ap (λ (z : ℕ). z / down e)
    (ap (λ (z : ℕ). suc m * up e * z) (pow-add 2 1074 1074) ∙ sym (mul_assoc (suc m * up e) (2 ^ 1074) (2 ^ 1074)) ∙ ap (λ (z : ℕ). z * 2 ^ 1074) h.1 ∙ mul_right_comm a (down e) (2 ^ 1074))
    ∙ mul-div_cancel (a * 2 ^ 1074) (down_pos e))

-- ---- what the code's tests on the pattern say

module _ (x : Float) (F : T (fits binary64 x)) (A : T (above x)) where
  abbrev b : ℕ
  b = to_bits binary64 x

  same : x ≡ of_fields binary64 (leb (2 ^ 63) b) (b % 2 ^ 63 / 2 ^ 52) (b % 2 ^ 52)
  same = sym (of_bits-to_bits binary64 x F) ∙ of_bits_is b

  pub reading : Reading (leb (2 ^ 63) b) (b % 2 ^ 63 / 2 ^ 52) (b % 2 ^ 52) x
  reading =
      subst (λ (v : Float). Reading (leb (2 ^ 63) b) (b % 2 ^ 63 / 2 ^ 52) (b % 2 ^ 52) v) (sym same)
      (read (leb (2 ^ 63) b) (b % 2 ^ 63 / 2 ^ 52) (b % 2 ^ 52) (subst (λ (v : Float). T (above v)) same A))

  pub clear_sign : leb (2 ^ 63) b ≡ false → b < 2 ^ 63
  clear_sign h = nleb→lt (2 ^ 63) b (no h)

  of_infinity : x ≡ inf false → b ≡ 0x7ff0_0000_0000_0000
  unfolding to_bits
  of_infinity e = ap (to_bits binary64) e

  -- the sign's bit is not set
  pub positive_pattern : b < 2 ^ 63
  positive_pattern = go reading
    where
      under : (c : ℕ) → c ≡ 9218868437227405312 → c < 9223372036854775808
      under c e = omega arith

      go : Reading (leb (2 ^ 63) b) (b % 2 ^ 63 / 2 ^ 52) (b % 2 ^ 52) x → b < 2 ^ 63
      go (subnormal s f p v) = clear_sign s
      go (normal s j f n p v) = clear_sign s
      go (infinite e) = under b (of_infinity e)

  -- below 2 ^ 52
  pub small_root : b < 2 ^ 52 → (0 < b) × (root binary64 x ≡ root_units binary64 (b * 2 ^ 1074))
  small_root h = go reading
    where
      zero_field : (c : ℕ) → c < 4503599627370496 → c % 9223372036854775808 / 4503599627370496 ≡ 0
      zero_field c l = omega arith

      differ : (f j : ℕ) → f ≡ 0 → f ≡ suc j → ⊥
      differ f j p q = omega arith

      far : (c : ℕ) → c < 4503599627370496 → c ≡ 9218868437227405312 → ⊥
      far c l e = omega arith

      go : Reading (leb (2 ^ 63) b) (b % 2 ^ 63 / 2 ^ 52) (b % 2 ^ 52) x → (0 < b) × (root binary64 x ≡ root_units binary64 (b * 2 ^ 1074))
      go (subnormal s f p v) =
          let w : HasValue x false b (2 ^ 1074) = subst (λ (t : ℕ). HasValue x false t (2 ^ 1074)) (mod-eq_of_lt h) v in
          (value_pos x b (2 ^ 1074) p (pow_pos 1074) w, root-of-value x b p w)
      go (normal s j f n p v) = absurd (differ (b % 2 ^ 63 / 2 ^ 52) j (zero_field b h) f)
      go (infinite e) = absurd (far b h (of_infinity e))

  -- the field is all ones
  pub infinite_root : b / 2 ^ 52 ≡ 2047 → x ≡ root binary64 x
  infinite_root h = go reading
    where
      field_of : (c : ℕ) → c < 9223372036854775808 → c / 4503599627370496 ≡ 2047 → c % 9223372036854775808 / 4503599627370496 ≡ 2047
      field_of c l e = omega arith

      zero_not : (f : ℕ) → f ≡ 2047 → f ≡ 0 → ⊥
      zero_not f p q = omega arith

      go : Reading (leb (2 ^ 63) b) (b % 2 ^ 63 / 2 ^ 52) (b % 2 ^ 52) x → x ≡ root binary64 x
      go (subnormal s f p v) = absurd (zero_not (b % 2 ^ 63 / 2 ^ 52) (field_of b (clear_sign s) h) f)
      go (normal s j f n p v) = absurd (n (sym f ∙ field_of b (clear_sign s) h))
      go (infinite e) = e ∙ sym infinity ∙ ap (root binary64) (sym e)

  -- any other field
  pub normal_root : 2 ^ 52 ≤ b → (b / 2 ^ 52 ≡ 2047 → ⊥) → (b / 2 ^ 52 < 2047) × (root binary64 x ≡ root_units binary64 ((2 ^ 52 + b % 2 ^ 52) * 2 ^ (b / 2 ^ 52 + 1073)))
  normal_root l h = go reading
    where
      not_zero : (c : ℕ) → c < 9223372036854775808 → 4503599627370496 ≤ c → c % 9223372036854775808 / 4503599627370496 ≡ 0 → ⊥
      not_zero c u l e = omega arith

      field_of : (c j : ℕ) → c < 9223372036854775808 → c % 9223372036854775808 / 4503599627370496 ≡ suc j → c / 4503599627370496 ≡ suc j
      field_of c j u e = omega arith

      under : (c : ℕ) → c < 9223372036854775808 → (c / 4503599627370496 ≡ 2047 → ⊥) → c / 4503599627370496 < 2047
      under c u n = omega arith

      shift : (f j : ℕ) → f ≡ suc j → j + 1074 ≡ f + 1073
      shift f j e = omega arith

      ones : (c : ℕ) → c ≡ 9218868437227405312 → c / 4503599627370496 ≡ 2047
      ones c e = omega arith

      go : Reading (leb (2 ^ 63) b) (b % 2 ^ 63 / 2 ^ 52) (b % 2 ^ 52) x → (b / 2 ^ 52 < 2047) × (root binary64 x ≡ root_units binary64 ((2 ^ 52 + b % 2 ^ 52) * 2 ^ (b / 2 ^ 52 + 1073)))
      go (subnormal s f p v) = absurd (not_zero b (clear_sign s) l f)
      go (normal s j f n p v) =
          let m = 2 ^ 52 + b % 2 ^ 52 in (
            under b (clear_sign s) h,
            root-of-value x (m * 2 ^ j) p v
                ∙ ap (root_units binary64) (mul_assoc m (2 ^ j) (2 ^ 1074) ∙ ap (λ (z : ℕ). m * z) (sym (pow-add 2 j 1074)) ∙ ap (λ (z : ℕ). m * 2 ^ z) (shift (b / 2 ^ 52) j (field_of b j (clear_sign s) f))),
          )
      go (infinite e) = absurd (h (ones b (of_infinity e)))

-- a value above 0 has a pattern with no sign
pub above_unsigned : (x : Float) → T (fits binary64 x) → lt (of_bits binary64 0) x ≡ true → to_bits binary64 x < 2 ^ 63
above_unsigned x F h = positive_pattern x F (above_zero x (ap (λ (z : Float). lt z x) (sym zero_is) ∙ h))

pub zero_unsigned : to_bits binary64 (of_bits binary64 0) < 2 ^ 63
unfolding to_bits of_bits
zero_unsigned = lit< tt

-- ---- a normal value's digits under the leading one, as the code puts them together

pub digits_are : (b : ℕ) → bit_or (bit_and b (2 ^ 52 - 1)) (2 ^ 52) ≡ 2 ^ 52 + b % 2 ^ 52
digits_are b = ap (λ (k : ℕ). bit_or k (2 ^ 52)) (and_mask b 52) ∙ or_shifted_r 1 52 (b % 2 ^ 52) (mod-lt b (pow_pos 52))

pub digits_between : (b : ℕ) → (2 ^ 52 ≤ 2 ^ 52 + b % 2 ^ 52) × (2 ^ 52 + b % 2 ^ 52 < 2 ^ 53)
digits_between b = omega arith

-- ---- a subnormal value's digits, shifted up to the place of a leading one

abbrev pub Lifted : ℕ → ℕ → Type 0
Lifted b s = (s ≤ 52) × (b * 2 ^ s % 2 ^ 64 ≡ b * 2 ^ s) × (2 ^ 52 ≤ b * 2 ^ s) × (b * 2 ^ s < 2 ^ 53)

pow_lt_back : (i p : ℕ) → 2 ^ i < 2 ^ p → i < p
pow_lt_back i p h = lt_of_not-le (λ (g : p ≤ i). lt_irrefl (2 ^ i) (lt_of_lt_of_le h (pow_mono g)))

pub lifted : (b : ℕ) → 0 < b → b < 2 ^ 52 → (11 ≤ count_leading_zeros 64 b) × Lifted b (count_leading_zeros 64 b - 11)
lifted b p h = go (count_leading_zeros 64 b) (leading_top 64 b p (lt_of_lt_of_le h (lib.Dec.lit≤ tt)))
  where
    go : (z : ℕ) → ((j : ℕ) × (z + suc j ≡ 64) × (2 ^ j ≤ b) × (b < 2 ^ suc j)) → (11 ≤ z) × Lifted b (z - 11)
    go z t =
        let j = t.0 in
        let J : j < 52 = pow_lt_back j 52 (lt_of_le_of_lt t.2 h) in
        let e1 : j + (z - 11) ≡ 52 = sum z j t.1 J in
        let e2 : suc j + (z - 11) ≡ 53 = sum' z j t.1 J in
        let top : b * 2 ^ (z - 11) < 2 ^ 53 = lt_of_lt_of_le (shl_lt (suc j) (z - 11) t.3) (le_of_eq (ap (λ (k : ℕ). 2 ^ k) e2)) in (
          low z j t.1 J,
          (
            high z j t.1 J,
            mod-eq_of_lt (lt_of_lt_of_le top (lib.Dec.lit≤ tt)),
            le_trans (le_of_eq (ap (λ (k : ℕ). 2 ^ k) (sym e1) ∙ pow-add 2 j (z - 11))) (mul-le-mul_right (2 ^ (z - 11)) t.2),
            top,
          ),
        )
      where
        sum : (z j : ℕ) → z + suc j ≡ 64 → j < 52 → j + (z - 11) ≡ 52
        sum z j e h = omega arith

        sum' : (z j : ℕ) → z + suc j ≡ 64 → j < 52 → suc j + (z - 11) ≡ 53
        sum' z j e h = omega arith

        low : (z j : ℕ) → z + suc j ≡ 64 → j < 52 → 11 ≤ z
        low z j e h = omega arith

        high : (z j : ℕ) → z + suc j ≡ 64 → j < 52 → z - 11 ≤ 52
        high z j e h = omega arith

-- the same number in units
pub lifted_same : (b s : ℕ) → s ≤ 52 → b * 2 ^ s * 2 ^ (1074 - s) ≡ b * 2 ^ 1074
lifted_same b s h = mul_assoc b (2 ^ s) (2 ^ (1074 - s)) ∙ ap (λ (z : ℕ). b * z) (sym (pow-add 2 s (1074 - s))) ∙ ap (λ (z : ℕ). b * 2 ^ z) (back s h)
  where
    back : (s : ℕ) → s ≤ 52 → s + (1074 - s) ≡ 1074
    back s h = omega arith
