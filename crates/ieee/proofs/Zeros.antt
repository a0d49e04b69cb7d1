-- What a zero does: a finite value times a zero is a zero, and a value that is not -0 plus a zero is that value, whatever the signs of the zeros. A sum is -0 only where
-- both of its terms are, since the difference of two values of the format is a whole number of its smallest and so does not round to 0. So a value moved by no part of a
-- difference stays as it is. Assumes nothing.
use mathlib.Core.Path.{◌≡◌, refl, sym, ap, ◌∙◌, subst}
use mathlib.Core.Bool.{Bool, true, false, not, ◌&&◌, ◌||◌, cond, beq, true≢false}
use Prim.Native.Nat.{ℕ, zero, suc, ◌+◌, ◌-◌, ◌*◌, ◌^◌, ◌≤◌, ◌<◌}
use native.Mathlib.Nat.{le_trans, le_of_eq, zero-lt-suc, zero-mul, mul-zero, mul-one, one-mul, mul_comm, mul_assoc, mul_right_comm, mul-le-mul_right, mul-pos, add-zero, sub-zero, sub_self, suc-mul, add-mul, lt_of_mul-lt-mul_right, mul-lt-mul_of_pos_right}
use native.Mathlib.Omega.{arith}
use lib.Dec.{T, ltb, eqb, ltb→lt}
use lib.IntN.{negsuc}
use lib.Pow.{pow_pos}
use lib.Ieee.{Float, nan, inf, fin, binary64, up, down, round, neg, sum, add, sub, mul, level, lt, eq, le, fits, of_bits, of_int}
use lib.Ieee.Exact.{HasValue, round_exact}
use lib.Ieee.Fits.{down_pos, up_pos}
use lib.Ieee.Order.{round_mono}
use lib.Ieee.Positive.{above, above_of_le}
use lib.Ieee.Scale.{finite, round_same}
use borrow.Author.Tests.{eqb-true, ltb-true, lt-ltb, le-ltb}
use Rattle.ieee.specs.Floats.{◌⊕◌, ◌⊖◌, ◌⊗◌, ◌≺◌, ◌≐◌, f0, float}
use Rattle.ieee.proofs.Counts.{count, count_exact, round_itself}
use Rattle.ieee.proofs.Magnitudes.{neg-round, Signed, round_signed, Within, within_finite, sub_within}

-- +0 or -0
abbrev pub Zero : Float → Type 0
Zero nan = ⊥
Zero (inf s) = ⊥
Zero (fin s m e) = m ≡ 0

-- no -0
abbrev pub NoMinusZero : Float → Type 0
NoMinusZero nan = Unit {0}
NoMinusZero (inf s) = Unit {0}
NoMinusZero (fin s m e) = s ≡ true → 0 < m

none : (m u : ℕ) → 0 < u → m * u ≡ 0 → m ≡ 0
none zero u U h = refl
none (suc m) u U h = absurd (nothing (suc m * u) (mul-pos (zero-lt-suc m) U) h)
  where
    nothing : (n : ℕ) → 0 < n → n ≡ 0 → ⊥
    nothing n p q = omega arith

-- what equals 0 by Rust's `==`
pub zero_of : (x : Float) → (x ≐ f0) ≡ true → Zero x
unfolding eq of_bits
zero_of nan h = absurd (true≢false (sym h))
zero_of (inf s) h = absurd (true≢false (sym h))
zero_of (fin s m e) h = none m (up e) (up_pos e) (sym (mul-one (m * up e)) ∙ eqb-true (m * up e * 1) (0 * 1 * down e) (first (eqb (m * up e * 1) (0 * 1 * down e)) _ h) ∙ zero-mul (down e))
  where
    first : (a b : Bool) → (a && b) ≡ true → a ≡ true
    first true b h = refl
    first false b h = h

pub equals_zero : (x : Float) → Zero x → (x ≐ f0) ≡ true
unfolding eq of_bits
equals_zero nan z = absurd z
equals_zero (inf s) z = absurd z
equals_zero (fin s m e) z = by (m * up e * 1) (0 * 1 * down e) (ap (λ (j : ℕ). j * up e * 1) z ∙ ap (λ (j : ℕ). j * 1) (zero-mul (up e))) (zero-mul (down e))
  where
    last : (b : Bool) → (b || true) ≡ true
    last true = refl
    last false = refl

    by : (a b : ℕ) → a ≡ 0 → b ≡ 0 → level s a false b ≡ true
    by a b p q = rw (p, q) (last (beq s false))

-- ---- a product with a zero

pub round_zero : (s : Bool) (a c : ℕ) → 0 < c → a ≡ 0 → Zero (round binary64 s a c)
round_zero s a c C z = of-value (round binary64 s a c) (round_exact binary64 s a c 0 0 C (pow_pos 53) (pow_pos 2098) (ap (λ (n : ℕ). n * 2 ^ 1074) z ∙ zero-mul (2 ^ 1074) ∙ sym (zero-mul c)))
  where
    of-value : (x : Float) → HasValue x s a c → Zero x
    of-value nan v = v
    of-value (inf t) v = v
    of-value (fin t m e) v =
        none m (up e) (up_pos e) (none (m * up e) c C (v.1 ∙ ap (λ (n : ℕ). n * down e) z ∙ zero-mul (down e)))

times_zero : (x f : Float) → T (finite x) → Zero f → Zero (x ⊗ f)
unfolding mul
times_zero nan f h z = h
times_zero (inf s) f h z = absurd h
times_zero (fin s m e) nan h z = z
times_zero (fin s m e) (inf t) h z = absurd z
times_zero (fin s m e) (fin t k d) h z =
    round_zero _ (m * up e * (k * up d)) (down e * down d) (mul-pos (down_pos e) (down_pos d)) (ap (λ (j : ℕ). m * up e * (j * up d)) z ∙ ap (λ (j : ℕ). m * up e * j) (zero-mul (up d)) ∙ mul-zero (m * up e))

-- ---- what is above 0

not_above_zero : (x : Float) → Zero x → (f0 ≺ x) ≡ false
unfolding lt of_bits
not_above_zero nan z = absurd z
not_above_zero (inf t) z = absurd z
not_above_zero (fin true n d) z = refl
not_above_zero (fin false n d) z =
    le-ltb (0 * 1 * down d) (n * up d * 1) (le_of_eq (ap (λ (j : ℕ). j * up d * 1) z ∙ ap (λ (j : ℕ). j * 1) (zero-mul (up d)) ∙ sym (zero-mul (down d))))

-- does not equal 0 by Rust's `==`
pub above_zero : (x : Float) → (f0 ≺ x) ≡ true → (x ≐ f0) ≡ false
above_zero x h = by (x ≐ f0) (λ e. not_above_zero x (zero_of x e))
  where
    by : (b : Bool) → (b ≡ true → (f0 ≺ x) ≡ false) → b ≡ false
    by true k = absurd (true≢false (sym h ∙ k refl))
    by false k = refl

-- ---- a sum with a zero

-- both ways to add nothing to a, whose sign is s, leave the sign
sum-nothing : (s : Bool) (a : ℕ) (t : Bool) (c : ℕ) → (s ≡ true → 0 < a) → sum binary64 s a t 0 c ≡ round binary64 s a c
unfolding sum
sum-nothing false a false c p = ap (λ (n : ℕ). round binary64 false n c) (add-zero a)
sum-nothing true a true c p = ap (λ (n : ℕ). round binary64 true n c) (add-zero a)
sum-nothing false a true c p = rw (le-ltb a 0 (omega arith)) (ap (λ (n : ℕ). round binary64 false n c) (sub-zero a))
sum-nothing true a false c p = rw (le-ltb a 0 (omega arith), lt-ltb 0 a (p refl)) (ap (λ (n : ℕ). round binary64 true n c) (sub-zero a))

pub plus_zero : (n : ℕ) (x z : Float) → T (fits binary64 x) → Within n x → NoMinusZero x → Zero z → x ⊕ z ≡ x
unfolding add
plus_zero n nan z F h p q = absurd h
plus_zero n (inf s) z F h p q = absurd h
plus_zero n (fin s m e) nan F h p q = absurd q
plus_zero n (fin s m e) (inf t) F h p q = absurd q
plus_zero n (fin s m e) (fin t k d) F h p q =
    ap (λ (b : ℕ). sum binary64 s (m * up e * down d) t b (down e * down d)) (ap (λ (j : ℕ). j * up d * down e) q ∙ ap (λ (j : ℕ). j * down e) (zero-mul (up d)) ∙ zero-mul (down e))
    ∙ sum-nothing s (m * up e * down d) t (down e * down d) (λ i. mul-pos (mul-pos (p i) (up_pos e)) (down_pos d))
    ∙ round_same binary64 s (m * up e * down d) (down e * down d) (m * up e) (down e) (mul-pos (down_pos e) (down_pos d)) (down_pos e) (mul_assoc (m * up e) (down d) (down e) ∙ ap (λ (j : ℕ). m * up e * j) (mul_comm (down d) (down e)))
    ∙ round_itself s m e F

-- ---- a difference of equal numbers

pub minus_itself : (n : ℕ) (x y : Float) → HasValue x false n 1 → HasValue y false n 1 → Zero (x ⊖ y)
unfolding sub add neg sum
minus_itself n nan y v w = v
minus_itself n (inf s) y v w = absurd v
minus_itself n (fin s m e) nan v w = w
minus_itself n (fin s m e) (inf t) v w = absurd w
minus_itself n (fin true m e) (fin t k d) v w = absurd (true≢false v.0)
minus_itself n (fin false m e) (fin true k d) v w = absurd (true≢false w.0)
minus_itself n (fin false m e) (fin false k d) v w =
    let same : m * up e * down d ≡ k * up d * down e = crossed (m * up e) (k * up d) (down e) (down d) v.1 w.1 in
    rw (le-ltb (m * up e * down d) (k * up d * down e) (le_of_eq (sym same)))
    (round_zero false (m * up e * down d - k * up d * down e) (down e * down d) (mul-pos (down_pos e) (down_pos d)) (rw same (sub_self (k * up d * down e))))
  where
    crossed : (x y i j : ℕ) → x * 1 ≡ n * i → y * 1 ≡ n * j → x * j ≡ y * i
    crossed x y i j p q = ap (λ (z : ℕ). z * j) (sym (mul-one x) ∙ p) ∙ mul_right_comm n i j ∙ ap (λ (z : ℕ). z * i) (sym q ∙ mul-one y)

pub zero_minus : (x y : Float) → Zero x → Zero y → Zero (x ⊖ y)
unfolding sub add neg sum
zero_minus nan y p q = p
zero_minus (inf s) y p q = absurd p
zero_minus (fin s m e) nan p q = q
zero_minus (fin s m e) (inf t) p q = absurd q
zero_minus (fin s m e) (fin t k d) p q = by (beq s (not t)) (ltb a b) (s && ltb b a)
  where
    a : ℕ
    a = m * up e * down d

    b : ℕ
    b = k * up d * down e

    c : ℕ
    c = down e * down d

    C : 0 < c
    C = mul-pos (down_pos e) (down_pos d)

    nothing : (n u i : ℕ) → n ≡ 0 → n * u * i ≡ 0
    nothing n u i z = ap (λ (j : ℕ). j * u * i) z ∙ ap (λ (j : ℕ). j * i) (zero-mul u) ∙ zero-mul i

    by : (same less u : Bool) → Zero (cond same (round binary64 s (a + b) c) (cond less (round binary64 (not t) (b - a) c) (round binary64 u (a - b) c)))
    by true less u = round_zero s (a + b) c C (rw (nothing m (up e) (down d) p, nothing k (up d) (down e) q))
    by false true u = round_zero (not t) (b - a) c C (rw (nothing m (up e) (down d) p, nothing k (up d) (down e) q))
    by false false u = round_zero u (a - b) c C (rw (nothing m (up e) (down d) p, nothing k (up d) (down e) q))

-- ---- where a sum is not -0

-- c is no more than a of the smallest values, over 2 ^ 1074: then a / c does not round to 0
round_above : (s : Bool) (a c : ℕ) → 0 < c → (s ≡ true → c ≤ a * 2 ^ 1074) → NoMinusZero (round binary64 s a c)
round_above false a c C h = plain (round binary64 false a c) (round_signed binary64 false a c)
  where
    plain : (x : Float) → Signed false x → NoMinusZero x
    plain nan s = tt
    plain (inf t) s = tt
    plain (fin t m e) s = λ i. absurd (true≢false (sym i ∙ s))
round_above true a c C h =
    subst (λ (x : Float). NoMinusZero x) (neg-round binary64 false a c)
    (negated (round binary64 false a c) (above_of_le (fin false 1 (negsuc 1073)) (round binary64 false a c) tt least))
  where
    least : T (le (fin false 1 (negsuc 1073)) (round binary64 false a c))
    least =
        subst (λ (x : Float). T (le x (round binary64 false a c))) (round_itself false 1 (negsuc 1073) (unfold fits in tt))
        (round_mono binary64 (1 * 1) (2 ^ 1074) a c (pow_pos 1074) C (le_trans (le_of_eq (one-mul c)) (h refl)))

    negated : (x : Float) → T (above x) → NoMinusZero (neg x)
    negated nan p = unfold neg in tt
    negated (inf s) p = unfold neg in tt
    negated (fin true m e) p = absurd p
    negated (fin false m e) p = unfold neg in (λ i. ltb→lt 0 m p)

-- x / c is a units and y / c is b units: their difference, where it is not 0, is a unit at least
apart : (x y c a b l : ℕ) → 0 < l → x * l ≡ a * c → y * l ≡ b * c → y < x → c ≤ (x - y) * l
apart x y c a b l L p q h =
    let more : b < a = lt_of_mul-lt-mul_right c (subst (λ (z : ℕ). z < a * c) q (subst (λ (z : ℕ). y * l < z) p (mul-lt-mul_of_pos_right h L))) in
    left_over ((x - y) * l) (y * l) (x * l) (suc b * c)
    (ap (λ (z : ℕ). z * l) (sym (whole x y h)) ∙ add-mul (x - y) y l) (suc-mul b c ∙ ap (λ (z : ℕ). z + c) (sym q)) (le_trans (mul-le-mul_right c more) (le_of_eq (sym p)))
  where
    whole : (x y : ℕ) → y < x → x - y + y ≡ x
    whole x y h = omega arith

    left_over : (d y x n : ℕ) → x ≡ d + y → n ≡ y + c → n ≤ x → c ≤ d
    left_over d y x n p q r = omega arith

-- over one divisor: x is a units, y is b units, and x is not -0
sum_above : (s : Bool) (x : ℕ) (t : Bool) (y c a b : ℕ) → 0 < c → x * 2 ^ 1074 ≡ a * c → y * 2 ^ 1074 ≡ b * c → (s ≡ true → 0 < x) → NoMinusZero (sum binary64 s x t y c)
unfolding sum
sum_above false x false y c a b C p q h = round_above false (x + y) c C (λ i. absurd (true≢false (sym i)))
sum_above true x true y c a b C p q h = round_above true (x + y) c C (λ i. le_trans (subst (λ (z : ℕ). c ≤ z * 2 ^ 1074) (sub-zero x) (apart x 0 c a 0 (2 ^ 1074) (pow_pos 1074) p (zero-mul (2 ^ 1074) ∙ sym (zero-mul c)) (h refl))) (mul-le-mul_right (2 ^ 1074) (more x y)))
  where
    more : (x y : ℕ) → x ≤ x + y
    more x y = omega arith
sum_above false x true y c a b C p q h = by (ltb x y) refl
  where
    by : (l : Bool) → ltb x y ≡ l → NoMinusZero (cond l (round binary64 true (y - x) c) (round binary64 false (x - y) c))
    by true e = round_above true (y - x) c C (λ i. apart y x c b a (2 ^ 1074) (pow_pos 1074) q p (ltb-true x y e))
    by false e = round_above false (x - y) c C (λ i. absurd (true≢false (sym i)))
sum_above true x false y c a b C p q h = by (ltb x y) (ltb y x) refl
  where
    by : (l g : Bool) → ltb y x ≡ g → NoMinusZero (cond l (round binary64 false (y - x) c) (round binary64 g (x - y) c))
    by true g e = round_above false (y - x) c C (λ i. absurd (true≢false (sym i)))
    by false true e = round_above true (x - y) c C (λ i. apart x y c a b (2 ^ 1074) (pow_pos 1074) p q (ltb-true y x e))
    by false false e = round_above false (x - y) c C (λ i. absurd (true≢false (sym i)))

pub sum-no_minus_zero : (j k : ℕ) (x y : Float) → T (fits binary64 x) → T (fits binary64 y) → Within j x → Within k y → NoMinusZero x → NoMinusZero (x ⊕ y)
unfolding add
sum-no_minus_zero j k nan y F G g h p = absurd g
sum-no_minus_zero j k (inf s) y F G g h p = absurd g
sum-no_minus_zero j k (fin s m e) nan F G g h p = absurd h
sum-no_minus_zero j k (fin s m e) (inf t) F G g h p = absurd h
sum-no_minus_zero j k (fin s m e) (fin t n d) F G g h p =
    sum_above s (m * up e * down d) t (n * up d * down e) (down e * down d) (count (fin s m e)) (count (fin t n d)) (mul-pos (down_pos e) (down_pos d))
    (scaled (m * up e) (count (fin s m e)) (down e) (down d) (2 ^ 1074) (count_exact (fin s m e) F tt).1)
    (scaled (n * up d) (count (fin t n d)) (down d) (down e) (2 ^ 1074) (count_exact (fin t n d) G tt).1 ∙ ap (λ (z : ℕ). count (fin t n d) * z) (mul_comm (down d) (down e)))
    (λ i. mul-pos (mul-pos (p i) (up_pos e)) (down_pos d))
  where
    scaled : (x a i j l : ℕ) → x * l ≡ a * i → x * j * l ≡ a * (i * j)
    scaled x a i j l q = mul_right_comm x j l ∙ ap (λ (z : ℕ). z * j) q ∙ mul_assoc a i j

pub float-no_minus_zero : (n : ℕ) → NoMinusZero (float n)
unfolding of_int
float-no_minus_zero n = round_above false n 1 (zero-lt-suc 0) (λ i. absurd (true≢false (sym i)))

-- ---- a value moved by no part of the way to another

pub stays : (a b : ℕ) (x y f : Float) → b + a ≤ 2 ^ 53 → T (fits binary64 x) → Within a x → Within b y → NoMinusZero x → (f ≐ f0) ≡ true → x ⊕ (y ⊖ x) ⊗ f ≡ x
stays a b x y f N F g h p z = plus_zero a x ((y ⊖ x) ⊗ f) F g p (times_zero (y ⊖ x) f (within_finite (b + a) (y ⊖ x) (sub_within b a y x N h g)) (zero_of f z))
