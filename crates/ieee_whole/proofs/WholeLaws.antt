-- `floor_of` and `ceil_of` as whole numbers: the float is the number n that the definition names, with x's sign, and n is the magnitude cut or raised to a whole number.
-- `WholeExact.antt` states what follows of the values. Assumes nothing.
use Rattle.std.proofs.Common.{◌≡◌, ℕ, zero, suc, ◌+◌, ◌-◌, ◌*◌, ◌%◌, ◌^◌, ◌<◌, ◌≤◌, Bool, true, false, cond, T, ℤ, pos, negsuc, sym, refl, ap, ◌∙◌, subst, le_trans, le_of_eq, lt_of_lt_of_le, le_of_lt, mod-lt, mul_assoc, mul_comm, div-lt_iff_lt-mul, add-mul, mul-pos, one-mul, lt_of_not-le, div-add-mod', le-div_iff_mul-le, zero-mul, mul-one, mul_right_comm, not-le_of_lt, div-mul-le_self, div-one, arith, lit<, pow_pos}
use native.Mathlib.Decide.{dec_le}
use lib.Ieee.{Float, fin, binary64, up, down, round, fits, nan, inf, lt, eq, le}
use lib.Ieee.Fits.{down_pos, round-fits}
use lib.Ieee.Exact.{HasValue}
use lib.Ieee.Back.{round_whole}
use Rattle.std.specs.Float.{round_with, ratio_floor, ratio_ceil}
use Rattle.ieee_whole.specs.Whole.{floor_of, ceil_of}
use Rattle.ieee.proofs.Patterns.{fits-says}
use Rattle.ieee_whole.proofs.Whole.{large_is, raised_one}
use Rattle.ieee.specs.Floats.{◌≼◌}
use Rattle.ieee_whole.proofs.AtMost.{AtMost, tested, test, scale, cancel}

-- ---- a / c cut and raised

pub cut_law : (a c : ℕ) → 0 < c → (ratio_floor a c * c ≤ a) × (a < (ratio_floor a c + 1) * c)
cut_law a c h = (div-mul-le_self a c, lt_of_lt_of_le (go (ratio_floor a c * c) (a % c) (div-add-mod' a c) (mod-lt a h)) (le_of_eq (sym (add-mul (ratio_floor a c) 1 c ∙ ap (λ (z : ℕ). ratio_floor a c * c + z) (one-mul c)))))
  where
    go : (p r : ℕ) → p + r ≡ a → r < c → a < p + c
    go p r e l = omega arith

pub raised_law : (a c : ℕ) → 0 < c → (a ≤ ratio_ceil a c * c) × (ratio_ceil a c * c < a + c)
raised_law a c h = go (ratio_ceil a c * c) ((a + c - 1) % c) (div-add-mod' (a + c - 1) c) (mod-lt (a + c - 1) h)
  where
    go : (p r : ℕ) → p + r ≡ a + c - 1 → r < c → (a ≤ p) × (p < a + c)
    go p r e l = omega arith

-- ---- the rounding in the definitions changes nothing

raised_le : (a c b : ℕ) → 0 < c → a < b * c → ratio_ceil a c ≤ b
raised_le a c b h l = native.Mathlib.Nat.le_of_suc-le-suc ((div-lt_iff_lt-mul h).1 (lt_of_lt_of_le (go (b * c) l) (le_of_eq (sym (native.Mathlib.Nat.suc-mul b c)))))
  where
    go : (y : ℕ) → a < y → a + c - 1 < y + c
    go y l = omega arith

module _ (s : Bool) where
  Both : ℕ → ℕ → Type 0
  Both a c = HasValue (round binary64 s (ratio_floor a c) 1) s (ratio_floor a c) 1 × HasValue (round binary64 s (ratio_ceil a c) 1) s (ratio_ceil a c) 1

  small_both : (a c : ℕ) → 0 < c → a < 2 ^ 53 * c → Both a c
  unfolding Both
  small_both a c h l = (round_whole binary64 s (ratio_floor a c) (le_of_lt ((div-lt_iff_lt-mul h).1 l)), round_whole binary64 s (ratio_ceil a c) (raised_le a c (2 ^ 53) h l))

  large_both : (m k : ℕ) → T (fits binary64 (fin s (suc m) (pos k))) → Both (suc m * 2 ^ k) 1
  unfolding Both
  large_both m k f =
      let a = suc m * 2 ^ k in
      let v : HasValue (round binary64 s a 1) s a 1 = subst (λ (z : Float). HasValue z s a 1) (large_is s m k f) (refl, refl) in
      (subst (λ (n : ℕ). HasValue (round binary64 s n 1) s n 1) (sym (div-one a)) v, subst (λ (n : ℕ). HasValue (round binary64 s n 1) s n 1) (sym (raised_one a)) v)

  both : (m : ℕ) (e : ℤ) → T (fits binary64 (fin s m e)) → Both (m * up e) (down e)
  both m e f = go m e f (dec_le (2 ^ 53 * down e) (m * up e))
    where
      go : (m : ℕ) (e : ℤ) → T (fits binary64 (fin s m e)) → Dec (2 ^ 53 * down e ≤ m * up e) → Both (m * up e) (down e)
      go m e f (no l) = small_both (m * up e) (down e) (down_pos e) (lt_of_not-le l)
      go zero e f (yes l) = absurd (not-le_of_lt (mul-pos (lit< tt) (down_pos e)) (le_trans l (le_of_eq (zero-mul (up e)))))
      go (suc m) (pos k) f (yes l) = large_both m k f
      go (suc m) (negsuc k) f (yes l) = absurd (not-le_of_lt (fits-says s m (negsuc k) f).0 (le_trans (le_trans (le_of_eq (sym (mul-one (2 ^ 53)))) (native.Mathlib.Nat.mul-le-mul_left (2 ^ 53) (pow_pos (suc k)))) (le_trans l (le_of_eq (mul-one (suc m))))))

  pub cut_exact : (m : ℕ) (e : ℤ) → T (fits binary64 (fin s m e)) → HasValue (round binary64 s (ratio_floor (m * up e) (down e)) 1) s (ratio_floor (m * up e) (down e)) 1
  unfolding Both
  cut_exact m e f = (both m e f).0

  pub raised_exact : (m : ℕ) (e : ℤ) → T (fits binary64 (fin s m e)) → HasValue (round binary64 s (ratio_ceil (m * up e) (down e)) 1) s (ratio_ceil (m * up e) (down e)) 1
  unfolding Both
  raised_exact m e f = (both m e f).1

-- ---- the two functions

pub floor-value : (s : Bool) (m : ℕ) (e : ℤ) → T (fits binary64 (fin s m e)) → HasValue (floor_of (fin s m e)) s (cond s (ratio_ceil (m * up e) (down e)) (ratio_floor (m * up e) (down e))) 1
unfolding round_with
floor-value true m e f = raised_exact true m e f
floor-value false m e f = cut_exact false m e f

pub ceil-value : (s : Bool) (m : ℕ) (e : ℤ) → T (fits binary64 (fin s m e)) → HasValue (ceil_of (fin s m e)) s (cond s (ratio_floor (m * up e) (down e)) (ratio_ceil (m * up e) (down e))) 1
unfolding round_with
ceil-value true m e f = cut_exact true m e f
ceil-value false m e f = raised_exact false m e f

-- ---- x's magnitude is a / c, and that of its floor is a whole number

abbrev pub floor_to : Bool → ℕ → ℕ → ℕ
floor_to s a c = cond s (ratio_ceil a c) (ratio_floor a c)

floor-at-most : (s : Bool) (a c : ℕ) → 0 < c → AtMost s (floor_to s a c * c) s a
floor-at-most false a c p = (cut_law a c p).0
floor-at-most true a c p = (raised_law a c p).0

floor_largest : (t : Bool) (j : ℕ) (s : Bool) (a c : ℕ) → 0 < c → AtMost t (j * c) s a → AtMost t j s (floor_to s a c)
floor_largest false j false a c p h = (le-div_iff_mul-le p).1 h
floor_largest false j true a c p h = go (floor-of_none a c p (rest (j * c) a h)) (native.Mathlib.Nat.eq_of_mul-eq-mul_right c p j 0 (first (j * c) a h ∙ sym (zero-mul c)))
  where
    rest : (u v : ℕ) → u + v ≡ 0 → v ≡ 0
    rest u v h = omega arith

    first : (u v : ℕ) → u + v ≡ 0 → u ≡ 0
    first u v h = omega arith

    floor-of_none : (a c : ℕ) → 0 < c → a ≡ 0 → ratio_ceil a c ≡ 0
    floor-of_none a c p h = ap (λ (z : ℕ). ratio_ceil z c) h ∙ native.Mathlib.Nat.div-eq_of_lt (less c p)
      where
        less : (c : ℕ) → 0 < c → 0 + c - 1 < c
        less c p = omega arith

    go : ratio_ceil a c ≡ 0 → j ≡ 0 → j + ratio_ceil a c ≡ 0
    go u v = rw (u, v)
floor_largest true j false a c p h = tt
floor_largest true j true a c p h = raised_most a c j p h
  where
    raised_most : (a c j : ℕ) → 0 < c → a ≤ j * c → ratio_ceil a c ≤ j
    raised_most a c j p h = native.Mathlib.Nat.le_of_suc-le-suc ((native.Mathlib.Nat.div-lt_iff_lt-mul p).1 (lt_of_lt_of_le (go (j * c) h) (le_of_eq (sym (native.Mathlib.Nat.suc-mul j c)))))
      where
        go : (y : ℕ) → a ≤ y → a + c - 1 < y + c
        go y l = omega arith

-- ---- floor: at most x, and the largest such whole number

pub at-most-x : (s : Bool) (m : ℕ) (e : ℤ) (r : Float) → HasValue r s (floor_to s (m * up e) (down e)) 1 → T (r ≼ fin s m e)
unfolding le lt eq
at-most-x s m e nan h = absurd h
at-most-x s m e (inf t) h = absurd h
at-most-x s m e (fin t n d) h =
    let a = m * up e in
    let c = down e in
    let k = floor_to s a c in
    let same : k * c * down d ≡ n * up d * c = mul_right_comm k c (down d) ∙ ap (λ (z : ℕ). z * c) (sym h.1 ∙ mul-one (n * up d)) in
    test t (n * up d * c) s (a * down d)
    (subst (λ (u : Bool). AtMost u (n * up d * c) s (a * down d)) (sym h.0)
    (subst (λ (z : ℕ). AtMost s z s (a * down d)) same (scale s (k * c) s a (down d) (floor-at-most s a c (down_pos e)))))

pub largest_whole : (s : Bool) (m : ℕ) (e : ℤ) (r : Float) → HasValue r s (floor_to s (m * up e) (down e)) 1 → (y : Float) (v : Bool) (j : ℕ) → HasValue y v j 1 → T (y ≼ fin s m e) → T (y ≼ r)
unfolding le lt eq
largest_whole s m e nan h y v j w l = absurd h
largest_whole s m e (inf t) h y v j w l = absurd h
largest_whole s m e (fin t n d) h nan v j w l = absurd w
largest_whole s m e (fin t n d) h (inf u) v j w l = absurd w
largest_whole s m e (fin t n d) h (fin u p g) v j w l =
    let a = m * up e in
    let c = down e in
    let k = floor_to s a c in
    let y_is : p * up g ≡ j * down g = sym (mul-one (p * up g)) ∙ w.1 in
    let r-is : n * up d ≡ k * down d = sym (mul-one (n * up d)) ∙ h.1 in
    let crossed : p * up g * c ≡ j * c * down g = ap (λ (z : ℕ). z * c) y_is ∙ mul_right_comm j (down g) c in
    let lower : AtMost u (j * c) s a = cancel u (j * c) s a (down g) (down_pos g) (subst (λ (z : ℕ). AtMost u z s (a * down g)) crossed (tested u (p * up g * c) s (a * down g) l)) in
    let over : AtMost u (j * (down g * down d)) s (k * (down g * down d)) = scale u j s k (down g * down d) (floor_largest u j s a c (down_pos e) lower) in
    let left : j * (down g * down d) ≡ p * up g * down d = sym (mul_assoc j (down g) (down d)) ∙ ap (λ (z : ℕ). z * down d) (sym y_is) in
    let right : k * (down g * down d) ≡ n * up d * down g = ap (λ (z : ℕ). k * z) (mul_comm (down g) (down d)) ∙ sym (mul_assoc k (down d) (down g)) ∙ ap (λ (z : ℕ). z * down g) (sym r-is) in
    test u (p * up g * down d) t (n * up d * down g)
    (subst (λ (v : Bool). AtMost u (p * up g * down d) v (n * up d * down g)) (sym h.0)
    (subst (λ (z : ℕ). AtMost u z s (n * up d * down g)) left (subst (λ (z : ℕ). AtMost u (j * (down g * down d)) s z) right over)))

pub floor-fits : (s : Bool) (m : ℕ) (e : ℤ) → T (fits binary64 (floor_of (fin s m e)))
unfolding round_with
floor-fits true m e = round-fits binary64 true (floor_to true (m * up e) (down e)) 1
floor-fits false m e = round-fits binary64 false (floor_to false (m * up e) (down e)) 1
