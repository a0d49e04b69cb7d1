-- A whole number w that is at most x, while x less w is below 1, is x without its fraction: the test by which `split_whole` takes a guess. The difference is rounded, but rounding keeps the order, so that of 1 or more it
-- stays 1 or more. Assumes nothing.
use Rattle.std.proofs.Common.{◌≡◌, ℕ, ◌+◌, ◌-◌, ◌*◌, ◌/◌, ◌^◌, ◌<◌, ◌≤◌, min, Bool, true, false, cond, ◌&&◌, T, ltb, sym, refl, ap, ◌∙◌, subst, true≢false, le_of_lt, mul-le-mul_right, div-lt_iff_lt-mul, mul-pos, le-div_iff_mul-le, mul-one, mul_right_comm, le_of_mul-le-mul_right, arith, lit<, ltb-false, ltb-true, le-ltb}
use lib.Ieee.{Float, nan, inf, fin, binary64, up, down, round, neg, sum, add, sub, lt, eq, le, fits, of_bits, of_int, to_unsigned}
use lib.Ieee.Bits.{is_true}
use lib.Ieee.Exact.{HasValue}
use lib.Ieee.Back.{round_whole}
use lib.Ieee.Order.{round_mono}
use lib.Ieee.Fits.{down_pos, add-fits}
use Rattle.ieee.specs.Floats.{◌⊖◌, ◌⊗◌, ◌≺◌, ◌≼◌, f0, f1, float}
use Rattle.std.specs.Float.{float_is_finite}
use Rattle.ieee.specs.Parts.{is_finite}
use Rattle.ieee_whole.specs.Whole.{split_whole, if_between, split_between}
use Rattle.ieee_whole.specs.declared.Split.{Split}
use Rattle.std.specs.Prelude.{Option, Some, None, is_some}
use Rattle.std.specs.Option.{unwrap_or}
use Rattle.ieee.proofs.Order.{at_most, gone, zeros, not_more, else_more}
use Rattle.ieee.proofs.Magnitudes.{Signed, round_signed}
use Rattle.ieee.proofs.Squares.{square_below}

-- a whole number below 2 to the 53 is a float of that value
pub float_value : (n : ℕ) → n < 2 ^ 53 → HasValue (float n) false n 1
unfolding of_int
float_value n h = round_whole binary64 false n (le_of_lt h)

pub float-finite : (n : ℕ) → n < 2 ^ 53 → is_finite (float n) ≡ true
unfolding float_is_finite
float-finite n h = of-value (float n) (float_value n h)
  where
    of-value : (y : Float) → HasValue y false n 1 → is_finite y ≡ true
    of-value nan v = absurd v
    of-value (inf s) v = absurd v
    of-value (fin s m e) v = refl

difference : (p q c : ℕ) → q ≤ p → sum binary64 false p true q c ≡ round binary64 false (p - q) c
unfolding sum
difference p q c h = rw (le-ltb p q h)

one : round binary64 false 1 1 ≡ f1
unfolding round of_bits
one = refl

-- a difference of 1 or more
not_below_one : (p q c : ℕ) → 0 < c → c + q ≤ p → (round binary64 false (p - q) c ≺ f1) ≡ false
not_below_one p q c pos h =
    not_more f1 (round binary64 false (p - q) c)
    (is_true (f1 ≼ round binary64 false (p - q) c)
    (subst (λ (u : Float). T (u ≼ round binary64 false (p - q) c)) one (round_mono binary64 1 1 (p - q) c (lit< tt) pos (far (p - q) (omega arith)))))
  where
    far : (r : ℕ) → c ≤ r → 1 * c ≤ r * 1
    far r h = omega arith

-- w of 1, from w units of d up to w + 1 of them
quotient : (a d w : ℕ) → 0 < d → w * d ≤ a → a < d + w * d → a / d ≡ w
quotient a d w pos h g = close (a / d) ((le-div_iff_mul-le pos).1 h) ((div-lt_iff_lt-mul pos).1 (over g))
  where
    over : a < d + w * d → a < (1 + w) * d
    over g = omega arith

    close : (q : ℕ) → w ≤ q → q < 1 + w → q ≡ w
    close q l m = omega arith

-- the same of a y that has w's value
held : (w : ℕ) (y x : Float) → w < 2 ^ 32 → HasValue y false w 1 → (y ≼ x) ≡ true → ((x ⊖ y) ≺ f1) ≡ true → w ≡ to_unsigned 32 x
unfolding neg add sub lt eq le of_bits to_unsigned
held w nan x small v h g = absurd v
held w (inf s) x small v h g = absurd v
held w (fin true k d) x small v h g = absurd (true≢false v.0)
held w (fin false k d) nan small v h g = absurd (true≢false (sym h))
held w (fin false k d) (inf true) small v h g = absurd (true≢false (sym h))
held w (fin false k d) (inf false) small v h g = absurd (true≢false (sym g))
held w (fin false k d) (fin true m e) small v h g =
    let z = zeros (k * up d * down e) (m * up e * down d) h in
    gone w (down d) (down_pos d) (none (k * up d) (w * down d) v.1 (gone (k * up d) (down e) (down_pos e) (less (m * up e * down d) (k * up d * down e) z)))
  where
    less : (a b : ℕ) → a + b ≤ 0 → b ≤ 0
    less a b h = omega arith

    none : (a b : ℕ) → a * 1 ≡ b → a ≡ 0 → b ≤ 0
    none a b p q = omega arith
held w (fin false k d) (fin false m e) small v h g =
    let p = m * up e * down d in
    let q = k * up d * down e in
    let c = down e * down d in
    let low = at_most q p q p (λ i. i) h in
    let whole : q ≡ w * down e * down d = ap (λ (i : ℕ). i * down e) (sym (mul-one (k * up d)) ∙ v.1) ∙ mul_right_comm w (down d) (down e) in
    sym (capped (m * up e / down e)
    (quotient (m * up e) (down e) w (down_pos e)
    (le_of_mul-le-mul_right (subst (λ (i : ℕ). i ≤ p) whole low) (down_pos d))
    (under (ltb (m * up e) (down e + w * down e)) refl whole low)))
  where
    capped : (a : ℕ) → a ≡ w → min a (2 ^ 32 - 1) ≡ w
    capped a i = omega (arith, i, small)

    reach : k * up d * down e ≡ w * down e * down d → (down e + w * down e) * down d ≤ m * up e * down d → down e * down d + k * up d * down e ≤ m * up e * down d
    reach whole far = omega (arith, whole, far, native.Mathlib.Nat.add-mul (down e) (w * down e) (down d))

    under : (b : Bool) → ltb (m * up e) (down e + w * down e) ≡ b → k * up d * down e ≡ w * down e * down d → k * up d * down e ≤ m * up e * down d → m * up e < down e + w * down e
    under true hb whole low = ltb-true (m * up e) (down e + w * down e) hb
    under false hb whole low =
        let far : (down e + w * down e) * down d ≤ m * up e * down d = mul-le-mul_right (down d) (ltb-false (m * up e) (down e + w * down e) hb) in
        absurd (true≢false (sym g ∙ ap (λ (u : Float). u ≺ f1) (difference (m * up e * down d) (k * up d * down e) (down e * down d) low)
        ∙ not_below_one (m * up e * down d) (k * up d * down e) (down e * down d) (mul-pos (down_pos e) (down_pos d)) (reach whole far)))

pub accepted : (w : ℕ) (x : Float) → w < 2 ^ 32 → (float w ≼ x) ≡ true → ((x ⊖ float w) ≺ f1) ≡ true → w ≡ to_unsigned 32 x
accepted w x small h g = held w (float w) x small (float_value w (omega (arith, small))) h g

-- x split at a whole number that is its whole part
pub split_at : {w : ℕ} (x : Float) → w ≡ to_unsigned 32 x → record { whole = w; left = x ⊖ float w } ≡ split_whole x
split_at x h = ap at h
  where
    at : ℕ → Split
    at k = record { whole = k; left = x ⊖ float k }

-- ---- a guess of which x leaves something whose square is below it

-- the other way round a difference is negative
other : (p q c : ℕ) → ltb p q ≡ true → sum binary64 false p true q c ≡ round binary64 true (q - p) c
unfolding sum
other p q c h = rw h

-- what is rounded with the sign - is not above 0
not_above : (a c : ℕ) → (f0 ≺ round binary64 true a c) ≡ false
unfolding lt of_bits
not_above a c = by (round binary64 true a c) (round_signed binary64 true a c)
  where
    by : (z : Float) → Signed true z → (f0 ≺ z) ≡ false
    by nan h = absurd h
    by (inf true) h = refl
    by (inf false) h = absurd (true≢false (sym h))
    by (fin true n d) h = refl
    by (fin false n d) h = absurd (true≢false (sym h))

-- a y of w's value that leaves something above 0 of x is at most x
leaves : (w : ℕ) (y x : Float) → HasValue y false w 1 → (f0 ≺ (x ⊖ y)) ≡ true → (y ≼ x) ≡ true
unfolding neg sum add sub lt eq le of_bits float_is_finite
leaves w nan x v h = absurd v
leaves w (inf s) x v h = absurd v
leaves w (fin true k d) x v h = absurd (true≢false v.0)
leaves w (fin false k d) nan v h = absurd (true≢false (sym h))
leaves w (fin false k d) (inf true) v h = absurd (true≢false (sym h))
leaves w (fin false k d) (inf false) v h = refl
leaves w (fin false k d) (fin true m e) v h = absurd (true≢false (sym h ∙ not_above (m * up e * down d + k * up d * down e) (down e * down d)))
leaves w (fin false k d) (fin false m e) v h = by (fin false k d ≼ fin false m e) refl
  where
    by : (b : Bool) → (fin false k d ≼ fin false m e) ≡ b → (fin false k d ≼ fin false m e) ≡ true
    by true hb = hb
    by false hb =
        let less = else_more (fin false k d) (fin false m e) refl refl hb in
        absurd (true≢false (sym h ∙ ap (λ (u : Float). f0 ≺ u) (other (m * up e * down d) (k * up d * down e) (down e * down d) less) ∙ not_above (k * up d * down e - m * up e * down d) (down e * down d)))

between : (s : Split) → (f0 ≺ s.left) ≡ true → (s.left ≺ f1) ≡ true → Some s ≡ if_between s
between s h g = rw (h, g)

left-fits : (w : ℕ) (x : Float) → T (fits binary64 (x ⊖ float w))
unfolding sub
left-fits w x = add-fits binary64 x (neg (float w))

pub between_at : (w : ℕ) (x : Float) → w < 2 ^ 32 → ((x ⊖ float w) ⊗ (x ⊖ float w) ≺ (x ⊖ float w)) ≡ true → Some (record { whole = w; left = x ⊖ float w }) ≡ split_between x
between_at w x small h =
    let amid = square_below (x ⊖ float w) (left-fits w x) h in
    between (record { whole = w; left = x ⊖ float w }) amid.0 amid.1
    ∙ ap if_between (split_at x (accepted w x small (leaves w (float w) x (float_value w (omega (arith, small))) amid.0) amid.1))

-- ---- what a split of `split_between` is

pub wholes_are : (x : Float) {a : Split} → Some a ≡ split_between x → (a ≡ split_whole x) × ((f0 ≺ a.left) ≡ true)
wholes_are x {a} h = by (f0 ≺ (split_whole x).left && (split_whole x).left ≺ f1) refl h
  where
    first : (b g : Bool) → (b && g) ≡ true → b ≡ true
    first true g k = refl
    first false g k = k

    by : (b : Bool) → (f0 ≺ (split_whole x).left && (split_whole x).left ≺ f1) ≡ b → Some a ≡ cond b (Some (split_whole x)) None → (a ≡ split_whole x) × ((f0 ≺ a.left) ≡ true)
    by true e k =
        let same = ap (λ (t : Option Split). unwrap_or t a) k in
        (same, ap (λ (s : Split). f0 ≺ s.left) same ∙ first (f0 ≺ (split_whole x).left) ((split_whole x).left ≺ f1) e)
    by false e k = absurd (true≢false (ap is_some k))
