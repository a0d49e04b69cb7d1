-- The values of binary64 counted in units of 2 ^ -1074, the smallest: each is a whole number of them, and the count with the sign tells two values apart.
-- So a value of the format rounds to itself. Assumes nothing.
use mathlib.Core.Path.{◌≡◌, refl, sym, ap, ◌∙◌, subst}
use mathlib.Core.Bool.{Bool, false, cond}
use Prim.Native.Nat.{ℕ, zero, suc, ◌+◌, ◌-◌, ◌*◌, ◌/◌, ◌^◌, ◌≤◌, ◌<◌}
use native.Mathlib.Nat.{lt_of_not-le, not-le_of_lt, sub-add_cancel, zero-div, zero-mul, one-mul, mul-one, mul_assoc, mul_comm, mul_right_comm, mul-div_cancel, mul-lt-mul_of_pos_right, lt_of_mul-lt-mul_right, eq_of_mul-eq-mul_right}
use native.Mathlib.Decide.{dec_le}
use lib.IntN.{ℤ, pos, negsuc}
use lib.Dec.{T}
use lib.Pow.{pow-add, pow-lt, pow_pos}
use lib.Ieee.{Float, nan, inf, fin, binary64, up, down, size, round, fits, of_bits, to_bits}
use lib.Ieee.Bits.{of_bits-to_bits}
use lib.Ieee.Exact.{HasValue, round_exact}
use lib.Ieee.Fits.{down_pos, round-fits}
use lib.Ieee.Nearest.{div_same}
use lib.Ieee.Scale.{finite}
use Rattle.ieee.proofs.Patterns.{fits-says}

-- the magnitude of a finite value in units of 2 ^ -1074
abbrev pub count : Float → ℕ
count nan = 0
count (inf s) = 0
count (fin s m e) = m * up e * 2 ^ 1074 / down e

-- whether the sign is set
abbrev pub negative : Float → Bool
negative nan = false
negative (inf s) = s
negative (fin s m e) = s

pub count_of : (y : Float) (s : Bool) (a : ℕ) → HasValue y s a (2 ^ 1074) → count y ≡ a
count_of nan s a h = absurd h
count_of (inf t) s a h = absurd h
count_of (fin t m e) s a h = ap (λ (z : ℕ). z / down e) h.1 ∙ mul-div_cancel a (down_pos e)

-- ---- a value of binary64 is its count, over 2 ^ 1074, with its sign

pub pow_le_back : (i p : ℕ) → 2 ^ i ≤ 2 ^ p → i ≤ p
pow_le_back i p h = go (dec_le i p)
  where
    go : Dec (i ≤ p) → i ≤ p
    go (yes l) = l
    go (no f) = absurd (not-le_of_lt (pow-lt (lt_of_not-le f)) h)

-- its last digit stands for a power of two of units
last_digit : (s : Bool) (m : ℕ) (e : ℤ) → T (fits binary64 (fin s (suc m) e)) → (j : ℕ) × (up e * 2 ^ 1074 ≡ 2 ^ j * down e)
last_digit s m (pos k) F = (k + 1074, sym (pow-add 2 k 1074) ∙ sym (mul-one (2 ^ (k + 1074))))
last_digit s m (negsuc k) F =
    let j = 1074 - suc k in
    (j, one-mul (2 ^ 1074) ∙ ap (λ (z : ℕ). 2 ^ z) (sym (sub-add_cancel (pow_le_back (suc k) 1074 (fits-says s m (negsuc k) F).1))) ∙ pow-add 2 j (suc k))

in_digits : (s : Bool) (m : ℕ) (e : ℤ) (F : T (fits binary64 (fin s (suc m) e))) → suc m * up e * 2 ^ 1074 ≡ suc m * 2 ^ (last_digit s m e F).0 * down e
in_digits s m e F =
    mul_assoc (suc m) (up e) (2 ^ 1074) ∙ ap (λ (z : ℕ). suc m * z) (last_digit s m e F).1 ∙ sym (mul_assoc (suc m) (2 ^ (last_digit s m e F).0) (down e))

pub in-units : (s : Bool) (m : ℕ) (e : ℤ) → T (fits binary64 (fin s (suc m) e)) → HasValue (fin s (suc m) e) s (count (fin s (suc m) e)) (2 ^ 1074)
in-units s m e F =
    let p = in_digits s m e F in
    (refl, p ∙ ap (λ (z : ℕ). z * down e) (sym (ap (λ (z : ℕ). z / down e) p ∙ mul-div_cancel (suc m * 2 ^ (last_digit s m e F).0) (down_pos e))))

pub count_exact : (y : Float) → T (fits binary64 y) → T (finite y) → HasValue y (negative y) (count y) (2 ^ 1074)
count_exact nan F P = absurd P
count_exact (inf s) F P = absurd P
count_exact (fin s zero e) F P = (refl, none ∙ sym (ap (λ (z : ℕ). z * down e) (ap (λ (z : ℕ). z / down e) none ∙ zero-div (down e)) ∙ zero-mul (down e)))
  where
    none : 0 * up e * 2 ^ 1074 ≡ 0
    none = ap (λ (z : ℕ). z * 2 ^ 1074) (zero-mul (up e)) ∙ zero-mul (2 ^ 1074)
count_exact (fin s (suc m) e) F P = in-units s m e F

-- ---- two values of binary64 with one sign and one count are one value

pattern : Bool → ℕ → ℕ
pattern s n = let k = size n - 53 in cond s (2 ^ 63) 0 + k * 2 ^ 52 + n / 2 ^ k

by_count : (y : Float) → T (finite y) → to_bits binary64 y ≡ pattern (negative y) (count y)
unfolding to_bits pattern
by_count nan P = absurd P
by_count (inf s) P = absurd P
by_count (fin s m e) P = refl

pub count_tells : (y z : Float) → T (fits binary64 y) → T (fits binary64 z) → T (finite y) → T (finite z) → negative y ≡ negative z → count y ≡ count z → y ≡ z
count_tells y z F G P Q s n =
    sym (of_bits-to_bits binary64 y F)
    ∙ ap (of_bits binary64) (by_count y P ∙ ap (λ (t : Bool). pattern t (count y)) s ∙ ap (pattern (negative z)) n ∙ sym (by_count z Q))
    ∙ of_bits-to_bits binary64 z G

-- and so are two that are a / c with one sign
value_tells : (y z : Float) (s : Bool) (a c : ℕ) → 0 < c → T (fits binary64 y) → T (fits binary64 z) → HasValue y s a c → HasValue z s a c → y ≡ z
value_tells nan z s a c C F G v w = absurd v
value_tells (inf t) z s a c C F G v w = absurd v
value_tells (fin t m e) nan s a c C F G v w = absurd w
value_tells (fin t m e) (inf u) s a c C F G v w = absurd w
value_tells (fin t m e) (fin u n d) s a c C F G v w =
    count_tells (fin t m e) (fin u n d) F G tt tt (v.0 ∙ sym w.0)
    (div_same (m * up e * 2 ^ 1074) (down e) (n * up d * 2 ^ 1074) (down d) (down_pos e) (down_pos d) (crossed (m * up e) (n * up d) (down e) (down d) (2 ^ 1074) v.1 w.1))
  where
    crossed : (x y i j l : ℕ) → x * c ≡ a * i → y * c ≡ a * j → x * l * j ≡ y * l * i
    crossed x y i j l p q =
        mul_right_comm x l j
        ∙ ap (λ (z : ℕ). z * l) (eq_of_mul-eq-mul_right c C (x * j) (y * i) (mul_right_comm x j c ∙ ap (λ (z : ℕ). z * j) p ∙ mul_right_comm a i j ∙ ap (λ (z : ℕ). z * i) (sym q) ∙ mul_right_comm y c i))
        ∙ mul_right_comm y i l

-- ---- a value of binary64 rounds to itself

itself_exact : (s : Bool) (m : ℕ) (e : ℤ) → T (fits binary64 (fin s m e)) → HasValue (round binary64 s (m * up e) (down e)) s (m * up e) (down e)
itself_exact s zero e F = round_exact binary64 s (0 * up e) (down e) 0 0 (down_pos e) (pow_pos 53) (pow_pos 2098) (ap (λ (z : ℕ). z * 2 ^ 1074) (zero-mul (up e)) ∙ zero-mul (2 ^ 1074) ∙ sym (zero-mul (down e)))
itself_exact s (suc m) e F =
    let j = (last_digit s m e F).0 in
    let says = fits-says s m e F in
    round_exact binary64 s (suc m * up e) (down e) (suc m) j (down_pos e) says.0 (scaled (suc m * up e) (suc m * 2 ^ j) (down e) (2 ^ 1024) (2 ^ 1074) (pow_pos 1074) (in_digits s m e F) says.2) (in_digits s m e F)
  where
    -- x / i is b / l, and below k
    scaled : (x b i k l : ℕ) → 0 < l → x * l ≡ b * i → x < k * i → b < l * k
    scaled x b i k l L p h =
        lt_of_mul-lt-mul_right i
        (subst (λ (z : ℕ). z < l * k * i) p (subst (λ (z : ℕ). x * l < z) (mul_comm (k * i) l ∙ sym (mul_assoc l k i)) (mul-lt-mul_of_pos_right h L)))

pub round_itself : (s : Bool) (m : ℕ) (e : ℤ) → T (fits binary64 (fin s m e)) → round binary64 s (m * up e) (down e) ≡ fin s m e
round_itself s m e F =
    value_tells (round binary64 s (m * up e) (down e)) (fin s m e) s (m * up e) (down e) (down_pos e) (round-fits binary64 s (m * up e) (down e)) F (itself_exact s m e F) (refl, refl)
