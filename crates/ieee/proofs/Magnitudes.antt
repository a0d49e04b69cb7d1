-- How large a result can be: a fraction of at most n rounds to at most n, where n is a whole number that the format holds. So a bound of two values
-- is one of their sum, and of their product, and neither overflows. Assumes nothing.
use mathlib.Core.Path.{◌≡◌, refl, sym, ap, ◌∙◌, subst}
use mathlib.Core.Bool.{Bool, true, false, not, ◌&&◌, cond, beq, true≢false}
use Prim.Native.Nat.{ℕ, zero, suc, ◌+◌, ◌-◌, ◌*◌, ◌^◌, ◌≤◌, ◌<◌}
use native.Mathlib.Nat.{le_trans, le_of_eq, zero-lt-suc, mul-one, mul_comm, mul_assoc, mul_right_comm, mul_left_comm, mul-le-mul, mul-le-mul_right, le_of_mul-le-mul_right, mul-pos, add-mul}
use native.Mathlib.Omega.{arith}
use lib.Dec.{T, ltb}
use lib.Ieee.{Float, nan, inf, fin, Format, binary64, prec, emax, low, up, down, odd, units, round, neg, sum, add, sub, mul, le, of_int}
use lib.Ieee.Back.{round_whole}
use lib.Ieee.Bits.{is_true}
use lib.Ieee.Exact.{HasValue, odd_sign}
use lib.Ieee.Fits.{down_pos, round_is}
use lib.Ieee.Order.{round_mono}
use lib.Ieee.Scale.{finite}
use Rattle.ieee.specs.Floats.{◌⊕◌, ◌⊖◌, ◌⊗◌, float}
use Rattle.ieee.proofs.Order.{at_most}

-- ---- the sign goes through `round`

neg_odd : (d : ℕ) (s : Bool) (q k l : ℕ) → neg (odd d s q k l) ≡ odd d (not s) q k l
unfolding neg odd
neg_odd d s zero k l = refl
neg_odd d s (suc q) k l = refl

neg-units : (f : Format) (s : Bool) (q k : ℕ) → neg (units f s q k) ≡ units f (not s) q k
unfolding units neg
neg-units f s q k = go (ltb (q * 2 ^ k) (2 ^ (low f + suc (emax f))))
  where
    go : (b : Bool) → neg (cond b (odd (suc (prec f)) s q k (low f)) (inf s)) ≡ cond b (odd (suc (prec f)) (not s) q k (low f)) (inf (not s))
    go true = neg_odd (suc (prec f)) s q k (low f)
    go false = refl

pub neg-round : (f : Format) (s : Bool) (a c : ℕ) → neg (round f s a c) ≡ round f (not s) a c
neg-round f s a c = ap neg (round_is f s a c) ∙ neg-units f s _ _ ∙ sym (round_is f (not s) a c)

-- a number or an infinity with this sign
abbrev pub Signed : Bool → Float → Type 0
Signed s nan = ⊥
Signed s (inf t) = t ≡ s
Signed s (fin t m e) = t ≡ s

pub round_signed : (f : Format) (s : Bool) (a c : ℕ) → Signed s (round f s a c)
round_signed f s a c = subst (λ (x : Float). Signed s x) (sym (round_is f s a c)) (of-units _ _)
  where
    of-value : (x : Float) (a c : ℕ) → HasValue x s a c → Signed s x
    of-value nan a c v = v
    of-value (inf t) a c v = absurd v
    of-value (fin t m e) a c v = v.0

    of-units : (q k : ℕ) → Signed s (units f s q k)
    of-units q k = unfold units in by (ltb (q * 2 ^ k) (2 ^ (low f + suc (emax f))))
      where
        by : (b : Bool) → Signed s (cond b (odd (suc (prec f)) s q k (low f)) (inf s))
        by true = of-value (odd (suc (prec f)) s q k (low f)) (q * 2 ^ k) (2 ^ low f) (odd_sign (suc (prec f)) s q k (low f))
        by false = refl

-- ---- a finite value of magnitude n at most

abbrev pub Within : ℕ → Float → Type 0
Within n nan = ⊥
Within n (inf s) = ⊥
Within n (fin s m e) = m * up e ≤ n * down e

pub within_finite : (n : ℕ) (x : Float) → Within n x → T (finite x)
within_finite n nan h = h
within_finite n (inf s) h = absurd h
within_finite n (fin s m e) h = tt

pub within_more : (a b : ℕ) (x : Float) → a ≤ b → Within a x → Within b x
within_more a b nan l h = h
within_more a b (inf s) l h = h
within_more a b (fin s m e) l h = le_trans h (mul-le-mul_right (down e) l)

pub neg_within : (n : ℕ) (x : Float) → Within n x → Within n (neg x)
unfolding neg
neg_within n nan h = h
neg_within n (inf s) h = h
neg_within n (fin s m e) h = h

positive_within : (n a c : ℕ) → n ≤ 2 ^ 53 → 0 < c → a ≤ n * c → Within n (round binary64 false a c)
positive_within n a c N C h =
    go (round binary64 false n 1) (round binary64 false a c) (round_signed binary64 false a c) (round_whole binary64 false n N) (round_mono binary64 a c n 1 C (zero-lt-suc 0) (subst (λ (z : ℕ). z ≤ n * c) (sym (mul-one a)) h))
  where
    below : (x i y j : ℕ) → 0 < j → y * 1 ≡ n * j → x * j ≤ y * i → x ≤ n * i
    below x i y j J e l = le_of_mul-le-mul_right (le_trans l (le_of_eq (ap (λ (z : ℕ). z * i) (sym (mul-one y) ∙ e) ∙ mul_right_comm n j i))) J

    go : (y x : Float) → Signed false x → HasValue y false n 1 → T (le x y) → Within n x
    go nan x s v l = absurd v
    go (inf t) x s v l = absurd v
    go (fin true k d) x s v l = absurd (true≢false v.0)
    go (fin false k d) nan s v l = s
    go (fin false k d) (inf true) s v l = absurd (true≢false s)
    go (fin false k d) (inf false) s v l = absurd (unfold le in l)
    go (fin false k d) (fin true m e) s v l = absurd (true≢false s)
    go (fin false k d) (fin false m e) s v l =
        below (m * up e) (down e) (k * up d) (down d) (down_pos d) v.1
        (at_most (m * up e * down d) (k * up d * down e) (m * up e * down d) (k * up d * down e) (λ q. q) (is_true _ (unfold le in l)))

round_within : (n : ℕ) (s : Bool) (a c : ℕ) → n ≤ 2 ^ 53 → 0 < c → a ≤ n * c → Within n (round binary64 s a c)
round_within n true a c N C h = subst (λ (x : Float). Within n x) (neg-round binary64 false a c) (neg_within n (round binary64 false a c) (positive_within n a c N C h))
round_within n false a c N C h = positive_within n a c N C h

-- ---- of a sum, a difference, a product and a whole number

sum_within : (n : ℕ) (s : Bool) (a : ℕ) (t : Bool) (b c : ℕ) → n ≤ 2 ^ 53 → 0 < c → a + b ≤ n * c → Within n (sum binary64 s a t b c)
unfolding sum
sum_within n s a t b c N C h = go (beq s t) (ltb a b) (s && ltb b a)
  where
    go : (same less u : Bool) → Within n (cond same (round binary64 s (a + b) c) (cond less (round binary64 t (b - a) c) (round binary64 u (a - b) c)))
    go true less u = round_within n s (a + b) c N C h
    go false true u = round_within n t (b - a) c N C (omega arith)
    go false false u = round_within n u (a - b) c N C (omega arith)

pub add_within : (a b : ℕ) (x y : Float) → a + b ≤ 2 ^ 53 → Within a x → Within b y → Within (a + b) (x ⊕ y)
unfolding add
add_within a b nan y N g h = absurd g
add_within a b (inf s) y N g h = absurd g
add_within a b (fin s m e) nan N g h = absurd h
add_within a b (fin s m e) (inf t) N g h = absurd h
add_within a b (fin s m e) (fin t k d) N g h =
    sum_within (a + b) s (m * up e * down d) t (k * up d * down e) (down e * down d) N (mul-pos (down_pos e) (down_pos d))
    (joined (m * up e * down d) (k * up d * down e) (down e * down d)
    (le_trans (mul-le-mul_right (down d) g) (le_of_eq (mul_assoc a (down e) (down d))))
    (le_trans (mul-le-mul_right (down e) h) (le_of_eq (mul_assoc b (down d) (down e) ∙ ap (λ (z : ℕ). b * z) (mul_comm (down d) (down e))))))
  where
    joined : (x y c : ℕ) → x ≤ a * c → y ≤ b * c → x + y ≤ (a + b) * c
    joined x y c p q = omega (arith, add-mul a b c)

pub sub_within : (a b : ℕ) (x y : Float) → a + b ≤ 2 ^ 53 → Within a x → Within b y → Within (a + b) (x ⊖ y)
unfolding sub
sub_within a b x y N g h = add_within a b x (neg y) N g (neg_within b y h)

pub mul_within : (a b : ℕ) (x y : Float) → a * b ≤ 2 ^ 53 → Within a x → Within b y → Within (a * b) (x ⊗ y)
unfolding mul
mul_within a b nan y N g h = absurd g
mul_within a b (inf s) y N g h = absurd g
mul_within a b (fin s m e) nan N g h = absurd h
mul_within a b (fin s m e) (inf t) N g h = absurd h
mul_within a b (fin s m e) (fin t k d) N g h =
    round_within (a * b) _ (m * up e * (k * up d)) (down e * down d) N (mul-pos (down_pos e) (down_pos d))
    (le_trans (mul-le-mul g h) (le_of_eq (simp (mul_assoc, mul_comm, mul_left_comm))))

pub float_within : (n : ℕ) → n ≤ 2 ^ 53 → Within n (float n)
unfolding of_int
float_within n N = round_within n false n 1 N (zero-lt-suc 0) (le_of_eq (sym (mul-one n)))
