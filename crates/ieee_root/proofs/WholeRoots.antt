-- Square roots of whole numbers, and what `root_units` makes of the nearest one. Assumes nothing.
use mathlib.Core.Path.{◌≡◌, refl, sym, ap, ◌∙◌, subst}
use mathlib.Core.Bool.{Bool, true, false, not, cond}
use Prim.Native.Nat.{ℕ, zero, suc, ◌+◌, ◌-◌, ◌*◌, ◌/◌, ◌^◌, ◌≤◌, ◌<◌, compare, Ordering}
use native.Mathlib.Nat.{le_trans, le_of_eq, le_of_lt, lt_of_lt_of_le, lt_of_le_of_lt, lt_of_not-le, not-le_of_lt, lt_irrefl, le_antisymm, zero-add, mul_comm, mul_assoc, mul_left_comm, mul-add, add-mul, mul-le-mul, mul-le-mul_left, mul-le-mul_right, mul-lt-mul_of_pos_right, mul-div_cancel, pow-succ'}
use native.Mathlib.Numerals.{add-one}
use native.Mathlib.Decide.{dec_le}
use native.Mathlib.Omega.{arith}
use lib.Dec.{T, leb, ltb, eqb, is_le, compare_is_eq, leb→le, lt→ltb, nleb→lt, eqb→eq, eqb_refl, lit≤}
use lib.Pow.{pow_pos, pow_mono, pow-add, shl_lt, shl-shr}
use lib.Arith.{lt_of_le-ne}
use lib.Ieee.{Float, nan, inf, fin, binary64, down, size, nearest, odd, units, fits, to_bits, of_bits}
use lib.Ieee.Digits.{size-lt, size-le}
use lib.Ieee.Exact.{HasValue, odd_sign}
use lib.Ieee.Fits.{down_pos, odd-fits}
use lib.Ieee.Bits.{of_bits-to_bits}
use Rattle.ieee_root.specs.Root.{root_by, root_units, NearRoot}

-- ---- squares

pub square_twice : (q : ℕ) → 2 * q * (2 * q) ≡ 4 * (q * q)
square_twice q = simp (mul_assoc, mul_comm, mul_left_comm) (omega arith)

pub square_next : (q : ℕ) → (q + 1) * (q + 1) ≡ q * q + (2 * q + 1)
square_next q = omega (arith, add-mul q 1 (q + 1), mul-add q q 1)

pub square-middle : (q : ℕ) → (2 * q + 1) * (2 * q + 1) ≡ 4 * (q * q) + (4 * q + 1)
square-middle q = omega (arith, square_next (2 * q), square_twice q)

pub square_mono : {a b : ℕ} → a ≤ b → a * a ≤ b * b
square_mono h = mul-le-mul h h

-- q is the largest number whose square is at most n
abbrev pub Floor : ℕ → ℕ → Type 0
Floor n q = (q * q ≤ n) × (n < (q + 1) * (q + 1))

floor-le : (n p q : ℕ) → Floor n p → Floor n q → p ≤ q
floor-le n p q P Q = go (dec_le p q)
  where
    go : Dec (p ≤ q) → p ≤ q
    go (yes h) = h
    go (no f) = absurd (not-le_of_lt Q.1 (le_trans (square_mono (le_trans (le_of_eq (add-one q)) (lt_of_not-le f))) P.0))

pub floor_unique : (n p q : ℕ) → Floor n p → Floor n q → p ≡ q
floor_unique n p q P Q = le_antisymm (floor-le n p q P Q) (floor-le n q p Q P)

-- ---- `root_by` is that number

quarter : (n d p : ℕ) → n < 4 * p → n / 4 < p
quarter n d p h = omega arith

low_step : (n s : ℕ) → s * s ≤ n / 4 → 2 * s * (2 * s) ≤ n
low_step n s h = omega (arith, square_twice s)

high-step : (n s : ℕ) → n / 4 < (s + 1) * (s + 1) → n < (2 * s + 1 + 1) * (2 * s + 1 + 1)
high-step n s h = omega (arith, square_next s, square_next (2 * s + 1), square_next (2 * s), square_twice s)

step : (b : Bool) (n s : ℕ) → (T b → (2 * s + 1) * (2 * s + 1) ≤ n) → (T (not b) → n < (2 * s + 1) * (2 * s + 1)) → Floor (n / 4) s → Floor n (cond b (2 * s + 1) (2 * s))
step true n s y f i = (y tt, high-step n s i.1)
step false n s y f i = (low_step n s i.0, f tt)

pub root_by-is : (d n : ℕ) → n < 4 ^ d → Floor n (root_by d n)
unfolding root_by
root_by-is zero n h = (omega arith, omega arith)
root_by-is (suc d) n h =
    let s = root_by d (n / 4) in
    let t = (2 * s + 1) * (2 * s + 1) in
    step (leb t n) n s (leb→le t n) (nleb→lt t n) (root_by-is d (n / 4) (quarter n d (4 ^ d) (lt_of_lt_of_le h (le_of_eq (pow-succ' 4 d)))))

-- ---- the nearest number is the root cut to a whole number, or one more

pub data Nearest (n q r : ℕ) : Type 0 where
  here : q ≡ r → n ≤ q * q + q → Nearest n q r
  next : suc q ≡ r → q * q + q < n → Nearest n q r

pub nearest-of : (n q r : ℕ) → Floor n q → NearRoot n r → Nearest n q r
nearest-of n q r F N = go (dec_le (r * r) n)
  where
    below : (r : ℕ) → NearRoot n r → n < r * r → (p : ℕ) × (suc p ≡ r) × (p * p + p < n)
    below zero N l = absurd (none l)
      where
        none : n < 0 * 0 → ⊥
        none u = omega arith
    below (suc p) N l = (p, refl, room (suc p * suc p) (ap (λ (z : ℕ). z * z) (sym (add-one p)) ∙ square_next p) N.low)
      where
        room : (z : ℕ) → z ≡ p * p + (2 * p + 1) → z < n + suc p → p * p + p < n
        room z e u = omega arith

    go : Dec (r * r ≤ n) → Nearest n q r
    go (yes h) =
        let e : q ≡ r = floor_unique n q r F (h, top) in
        here e (subst (λ (z : ℕ). n ≤ z * z + z) (sym e) N.high)
      where
        top : n < (r + 1) * (r + 1)
        top = omega (arith, square_next r, N.high)
    go (no f) =
        let l : n < r * r = lt_of_not-le f in
        let b = below r N l in
        let e : q ≡ b.0 = floor_unique n q b.0 F (omega (arith, b.2), subst (λ (z : ℕ). n < z * z) (sym b.1 ∙ sym (add-one b.0)) l) in
        next (ap suc e ∙ b.1) (subst (λ (z : ℕ). z * z + z < n) (sym e) b.2)

-- ---- what `compare` says

abbrev Cmp : Ordering → ℕ → ℕ → Type 0
Cmp Ordering.lt a b = a < b
Cmp Ordering.eq a b = a ≡ b
Cmp Ordering.gt a b = b < a

cmp : (a b : ℕ) → Cmp (compare a b) a b
cmp a b = go (compare a b) (leb→le a b) (nleb→lt a b) (eqb→eq a b) (λ (e : a ≡ b). subst (λ (x : ℕ). T (eqb a x)) e (eqb_refl a))
  where
    go : (o : Ordering) → (T (is_le o) → a ≤ b) → (T (not (is_le o)) → b < a) → (T (compare_is_eq o) → a ≡ b) → (a ≡ b → T (compare_is_eq o)) → Cmp o a b
    go Ordering.lt h k e n = lt_of_le-ne (h tt) n
    go Ordering.eq h k e n = e tt
    go Ordering.gt h k e n = k tt

stay : (o : Ordering) (a b q : ℕ) → Cmp o a b → a < b → nearest q o ≡ q
stay Ordering.lt a b q c h = refl
stay Ordering.eq a b q c h = absurd (lt_irrefl b (subst (λ (z : ℕ). z < b) c h))
stay Ordering.gt a b q c h = absurd (not-le_of_lt h (le_of_lt c))

move : (o : Ordering) (a b q : ℕ) → Cmp o a b → b < a → nearest q o ≡ suc q
move Ordering.gt a b q c h = refl
move Ordering.eq a b q c h = absurd (lt_irrefl b (subst (λ (z : ℕ). b < z) c h))
move Ordering.lt a b q c h = absurd (not-le_of_lt h (le_of_lt c))

chosen : (n c q r : ℕ) → 0 < c → Nearest n q r → nearest q (compare (4 * (n * c)) ((2 * q + 1) * (2 * q + 1) * c)) ≡ r
chosen n c q r p (here e h) =
    stay (compare (4 * (n * c)) ((2 * q + 1) * (2 * q + 1) * c)) (4 * (n * c)) ((2 * q + 1) * (2 * q + 1) * c) q (cmp (4 * (n * c)) ((2 * q + 1) * (2 * q + 1) * c))
    (lt_of_le_of_lt (le_of_eq (sym (mul_assoc 4 n c))) (mul-lt-mul_of_pos_right (omega (arith, square-middle q)) p))
    ∙ e
chosen n c q r p (next e h) =
    move (compare (4 * (n * c)) ((2 * q + 1) * (2 * q + 1) * c)) (4 * (n * c)) ((2 * q + 1) * (2 * q + 1) * c) q (cmp (4 * (n * c)) ((2 * q + 1) * (2 * q + 1) * c))
    (lt_of_lt_of_le (mul-lt-mul_of_pos_right (omega (arith, square-middle q)) p) (le_of_eq (mul_assoc 4 n c)))
    ∙ e

-- ---- how many digits a shifted number has

size_ge : (a p j : ℕ) → 2 ^ p ≤ a → p + j < size (a * 2 ^ j)
size_ge a p j h =
    lt_of_not-le (λ (g : size (a * 2 ^ j) ≤ p + j).
    lt_irrefl (a * 2 ^ j) (lt_of_lt_of_le (size-lt (a * 2 ^ j)) (le_trans (pow_mono g) (le_trans (le_of_eq (pow-add 2 p j)) (mul-le-mul_right (2 ^ j) h)))))

size_top : (a p j : ℕ) → a < 2 ^ p → size (a * 2 ^ j) ≤ p + j
size_top a p j h = size-le (a * 2 ^ j) (p + j) (shl_lt p j h)

drop-is : (n k : ℕ) → 2 ^ 104 ≤ n → n < 2 ^ 106 → suc (size (n * 2 ^ (2 * k))) / 2 - 53 ≡ k
drop-is n k l h = go (size (n * 2 ^ (2 * k))) (size_ge n 104 (2 * k) l) (size_top n 106 (2 * k) h)
  where
    go : (s : ℕ) → 104 + 2 * k < s → s ≤ 106 + 2 * k → suc s / 2 - 53 ≡ k
    go s a b = omega arith

-- ---- `root_units` of n * 4 ^ k, for an n whose root has 53 digits

abbrev cast_at : ℕ → ℕ → ℕ → Float
cast_at w k q = units binary64 false (nearest q (compare (4 * w) ((2 * q + 1) * (2 * q + 1) * 2 ^ (2 * k)))) k

root_units-is : (w : ℕ) → root_units binary64 w ≡ cast_at w (suc (size w) / 2 - 53) (root_by 53 (w / 2 ^ (2 * (suc (size w) / 2 - 53))))
unfolding root_units
root_units-is w = refl

pub root-units : (n k r : ℕ) → 2 ^ 104 ≤ n → n < 2 ^ 106 → NearRoot n r → root_units binary64 (n * 2 ^ (2 * k)) ≡ units binary64 false r k
root-units n k r l h N =
    let w = n * 2 ^ (2 * k) in
    let q = root_by 53 n in
    root_units-is w
    ∙ ap (λ (j : ℕ). cast_at w j (root_by 53 (w / 2 ^ (2 * j)))) (drop-is n k l h)
    ∙ ap (λ (z : ℕ). cast_at w k (root_by 53 z)) (shl-shr n (2 * k))
    ∙ ap (λ (z : ℕ). units binary64 false z k) (chosen n (2 ^ (2 * k)) q r (pow_pos (2 * k)) (nearest-of n q r (root_by-is 53 n h) N))

-- ---- such a root's bounds

pub near_low : (n r : ℕ) → 2 ^ 104 ≤ n → NearRoot n r → 2 ^ 52 ≤ r
near_low n r l N = go (dec_le (2 ^ 52) r)
  where
    go : Dec (2 ^ 52 ≤ r) → 2 ^ 52 ≤ r
    go (yes h) = h
    go (no f) =
        let s : r ≤ 2 ^ 52 - 1 = lib.Pow.le_ones 52 (lt_of_not-le f) in
        let t : r * r ≤ (2 ^ 52 - 1) * (2 ^ 52 - 1) = square_mono s in
        absurd (omega (arith, N.high))

pub near_high : (n r : ℕ) → n ≤ (2 ^ 54 - 2) * 2 ^ 52 → NearRoot n r → r < 2 ^ 53
near_high n r l N = go (dec_le (2 ^ 53) r)
  where
    go : Dec (2 ^ 53 ≤ r) → r < 2 ^ 53
    go (no f) = lt_of_not-le f
    go (yes h) =
        let c : ℕ = 2 ^ 53 - 1 in
        absurd (none (c * r) (r * r) (le_trans (le_of_eq (sym (again r))) (mul-le-mul_right r h)) (le_trans l (mul-le-mul_left c h)) N.low)
      where
        again : (r : ℕ) → 9007199254740992 * r ≡ 9007199254740991 * r + r
        again r = omega arith

        none : (a b : ℕ) → a + r ≤ b → n ≤ a → b < n + r → ⊥
        none a b u v w = omega arith

-- ---- a value's pattern

to_bits-at : (v : Float) (n : ℕ) → HasValue v false n (2 ^ 1074) → to_bits binary64 v ≡ (size n - 53) * 2 ^ 52 + n / 2 ^ (size n - 53)
unfolding to_bits
to_bits-at nan n h = absurd h
to_bits-at (inf s) n h = absurd h
to_bits-at (fin true m e) n h = absurd (mathlib.Core.Bool.true≢false h.0)
to_bits-at (fin false m e) n h =
    ap (λ (z : ℕ). 0 + (size z - 53) * 2 ^ 52 + z / 2 ^ (size z - 53)) (ap (λ (z : ℕ). z / down e) h.1 ∙ mul-div_cancel n (down_pos e))
    ∙ ap (λ (z : ℕ). z + n / 2 ^ (size n - 53)) (zero-add ((size n - 53) * 2 ^ 52))

cond_yes : (b : Bool) (x y : Float) → T b → cond b x y ≡ x
cond_yes true x y t = refl
cond_yes false x y t = absurd t

units_odd : (r k : ℕ) → r * 2 ^ k < 2 ^ (1074 + 1024) → units binary64 false r k ≡ odd 54 false r k 1074
unfolding units
units_odd r k h = cond_yes (ltb (r * 2 ^ k) (2 ^ (1074 + 1024))) (odd 54 false r k 1074) (inf false) (lt→ltb (r * 2 ^ k) (2 ^ (1074 + 1024)) h)

module _ (r k : ℕ) (l : 2 ^ 52 ≤ r) (h : r < 2 ^ 53) (K : k < 2046) where
  in_range : r * 2 ^ k < 2 ^ (1074 + 1024)
  in_range = lt_of_lt_of_le (shl_lt 53 k h) (pow_mono (room k K))
    where
      room : (k : ℕ) → k < 2046 → 53 + k ≤ 1074 + 1024
      room k K = omega arith

  is : units binary64 false r k ≡ odd 54 false r k 1074
  is = units_odd r k in_range

  pub units-value : HasValue (units binary64 false r k) false (r * 2 ^ k) (2 ^ 1074)
  units-value = subst (λ (z : Float). HasValue z false (r * 2 ^ k) (2 ^ 1074)) (sym is) (odd_sign 54 false r k 1074)

  pub units-fits : T (fits binary64 (units binary64 false r k))
  units-fits = subst (λ (z : Float). T (fits binary64 z)) (sym is) (odd-fits binary64 54 false r k (lt_of_lt_of_le h (lit≤ tt)) (le_of_lt h) in_range)

  drop : size (r * 2 ^ k) - 53 ≡ k
  drop = go (size (r * 2 ^ k)) (size_ge r 52 k l) (size_top r 53 k h)
    where
      go : (s : ℕ) → 52 + k < s → s ≤ 53 + k → s - 53 ≡ k
      go s a b = omega arith

  pub pattern_is : of_bits binary64 (k * 2 ^ 52 + r) ≡ units binary64 false r k
  pattern_is =
      ap (of_bits binary64)
      (sym (to_bits-at (units binary64 false r k) (r * 2 ^ k) units-value ∙ ap (λ (j : ℕ). j * 2 ^ 52 + r * 2 ^ k / 2 ^ j) drop ∙ ap (λ (z : ℕ). k * 2 ^ 52 + z) (shl-shr r k)))
      ∙ of_bits-to_bits binary64 (units binary64 false r k) units-fits
