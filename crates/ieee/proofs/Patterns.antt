-- Bit patterns of binary64: NaN tests, what clearing the sign bit does, and what the format allows. Assumes nothing.
use mathlib.Core.Path.{◌≡◌, refl, sym, ap, ◌∙◌, subst}
use mathlib.Core.Bool.{Bool, true, false, not, ◌&&◌, cond}
use Prim.Native.Nat.{ℕ, zero, suc, ◌+◌, ◌*◌, ◌/◌, ◌%◌, ◌^◌, ◌≤◌, ◌<◌}
use native.Mathlib.Nat.{mod-lt, mod-eq_of_lt, not-le_of_lt}
use native.Mathlib.Omega.{arith}
use lib.Dec.{T, leb, ltb, eqb, leb→le, ltb→lt, not_T}
use lib.IntN.{ℤ, pos}
use lib.Pow.{pow_pos, mod-mod-pow}
use lib.Bits.{bit_and, and_mask}
use lib.Ieee.{nan, inf, fin, binary64, up, down, odd, fits, of_fields, of_bits, nan_bits, div}
use lib.Ieee.Fits.{and_l, and_r}
use lib.Ieee.Bits.{nan_bits_above, is_false}
use Rattle.std.specs.Float.{float_with_sign}
use Rattle.ieee.specs.Parts.{magnitude}

-- ---- a test's answer as a fact

pub yes : {b : Bool} → b ≡ true → T b
yes h = subst T (sym h) tt

pub no : {b : Bool} → b ≡ false → T (not b)
no h = subst (λ (a : Bool). T (not a)) (sym h) tt

-- ---- NaN

-- 0.0 by its bit pattern, as MIR has it
pub zero_is : of_bits binary64 0 ≡ fin false 0 (pos 0)
unfolding of_bits
zero_is = refl

-- 0.0 / 0.0 as MIR has it
pub zero_by_zero : div binary64 (of_bits binary64 0) (of_bits binary64 0) ≡ nan
unfolding div of_bits
zero_by_zero = refl

-- the pattern without its sign, as the code masks it
pub unsigned : (b : ℕ) → bit_and b 0x7fff_ffff_ffff_ffff ≡ b % 2 ^ 63
unsigned b = and_mask b 63

pub no_nan_pattern : (b : ℕ) → bit_and b 0x7fff_ffff_ffff_ffff ≤ 0x7ff0_0000_0000_0000 → T (not (nan_bits binary64 b))
no_nan_pattern b h =
    not_T (nan_bits binary64 b)
    (λ (t : T (nan_bits binary64 b)). not-le_of_lt (ltb→lt 0x7ff0_0000_0000_0000 (b % 2 ^ 63) (subst T (nan_bits_above binary64 b) t)) (subst (λ (k : ℕ). k ≤ 0x7ff0_0000_0000_0000) (unsigned b) h))

-- a pattern below that of the infinity
pub no_nan_small : (b : ℕ) → b < 0x7ff0_0000_0000_0000 → T (not (nan_bits binary64 b))
no_nan_small b h = no_nan_pattern b (subst (λ (k : ℕ). k ≤ 0x7ff0_0000_0000_0000) (sym (unsigned b ∙ mod-eq_of_lt (lt_trans' b h))) (native.Mathlib.Nat.le_of_lt h))
  where
    lt_trans' : (b : ℕ) → b < 0x7ff0_0000_0000_0000 → b < 2 ^ 63
    lt_trans' b h = omega arith

-- ---- the fields

pub of_bits_is : (b : ℕ) → of_bits binary64 b ≡ of_fields binary64 (leb (2 ^ 63) b) (b % 2 ^ 63 / 2 ^ 52) (b % 2 ^ 52)
unfolding of_bits
of_bits_is b = refl

magnitude_odd : (d : ℕ) (s : Bool) (q k l : ℕ) → magnitude (odd d s q k l) ≡ odd d false q k l
unfolding float_with_sign odd
magnitude_odd d s zero k l = refl
magnitude_odd d s (suc q) k l = refl

magnitude_cond : (a b s : Bool) (q k : ℕ) → magnitude (cond a (cond b (inf s) nan) (odd 53 s q k 1074)) ≡ cond a (cond b (inf false) nan) (odd 53 false q k 1074)
unfolding float_with_sign
magnitude_cond true true s q k = refl
magnitude_cond true false s q k = refl
magnitude_cond false b s q k = magnitude_odd 53 s q k 1074

magnitude-fields : (s : Bool) (x t : ℕ) → magnitude (of_fields binary64 s x t) ≡ of_fields binary64 false x t
unfolding of_fields
magnitude-fields s zero t = magnitude_odd 53 s t 0 1074
magnitude-fields s (suc x) t = magnitude_cond (eqb (suc x) 2047) (eqb t 0) s (2 ^ 52 + t) x

pub magnitude-bits : (b : ℕ) → of_bits binary64 (b % 2 ^ 63) ≡ magnitude (of_bits binary64 b)
magnitude-bits b =
    let a = b % 2 ^ 63 in
    let small : a < 2 ^ 63 = mod-lt b (pow_pos 63) in
    of_bits_is a
    ∙ ap (λ (s : Bool). of_fields binary64 s (a % 2 ^ 63 / 2 ^ 52) (a % 2 ^ 52)) (is_false (leb (2 ^ 63) a) (not_T (leb (2 ^ 63) a) (λ (u : T (leb (2 ^ 63) a)). not-le_of_lt small (leb→le (2 ^ 63) a u))))
    ∙ ap (λ (k : ℕ). of_fields binary64 false (k / 2 ^ 52) (a % 2 ^ 52)) (mod-eq_of_lt small)
    ∙ ap (λ (k : ℕ). of_fields binary64 false (a / 2 ^ 52) k) (mod-mod-pow b 11 52)
    ∙ sym (magnitude-fields (leb (2 ^ 63) b) (a / 2 ^ 52) (b % 2 ^ 52))
    ∙ ap magnitude (sym (of_bits_is b))

-- ---- the values of the format

-- what the format allows of a number that is not 0
pub fits-says : (s : Bool) (m : ℕ) (e : ℤ) → T (fits binary64 (fin s (suc m) e)) → (suc m < 2 ^ 53) × (down e ≤ 2 ^ 1074) × (suc m * up e < 2 ^ 1024 * down e)
unfolding fits
fits-says s m e t =
    let a : Bool = eqb (suc m % 2) 1 in
    let b : Bool = ltb (suc m) (2 ^ 53) in
    let c : Bool = leb (down e) (2 ^ 1074) in
    let d : Bool = ltb (suc m * up e) (2 ^ 1024 * down e) in (
      ltb→lt (suc m) (2 ^ 53) (and_r a b (and_l (a && b) c (and_l (a && b && c) d t))),
      leb→le (down e) (2 ^ 1074) (and_r (a && b) c (and_l (a && b && c) d t)),
      ltb→lt (suc m * up e) (2 ^ 1024 * down e) (and_r (a && b && c) d t),
    )
