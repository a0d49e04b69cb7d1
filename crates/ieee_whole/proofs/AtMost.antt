-- Rust's `<=` on finite values as a fact of their magnitudes, by the signs of the two, and what negation does to it. Assumes nothing.
use Rattle.std.proofs.Common.{◌≡◌, ℕ, zero, suc, ◌+◌, ◌*◌, ◌<◌, ◌≤◌, Bool, true, false, not, ◌||◌, T, eqb, ltb, ◌⊎◌, sym, refl, ap, ◌∙◌, inl, inr, le_of_eq, le_of_lt, mul-le-mul_right, eq-or-lt_of_le, zero-mul, arith, eqb→eq, ltb→lt, lt→ltb}
use lib.Ieee.{Float, nan, inf, fin, up, down, neg, below, level, lt, eq, le}
use lib.Ieee.Fits.{eq→eqb, and_i, and_l, and_r}
use Rattle.prelude.proofs.Tests.{or_left, or_right}
use Rattle.ieee.specs.Floats.{◌≼◌}

-- ±a is at most ±b
abbrev pub AtMost : Bool → ℕ → Bool → ℕ → Type 0
AtMost false a false b = a ≤ b
AtMost false a true b = a + b ≡ 0
AtMost true a false b = T true
AtMost true a true b = b ≤ a

or_elim : (a b : Bool) {P : Type 0} → T (a || b) → (T a → P) → (T b → P) → P
or_elim true b t f g = f tt
or_elim false b t f g = g t

pub tested : (s : Bool) (a : ℕ) (t : Bool) (b : ℕ) → T (below s a t b || level s a t b) → AtMost s a t b
tested false a false b h = or_elim (ltb a b) (level false a false b) h (λ l. le_of_lt (ltb→lt a b l)) (λ l. le_of_eq (eqb→eq a b (and_l (eqb a b) true l)))
tested false a true b h = go (eqb→eq a b (and_l (eqb a b) (eqb a 0) h)) (eqb→eq a 0 (and_r (eqb a b) (eqb a 0) h))
  where
    go : a ≡ b → a ≡ 0 → a + b ≡ 0
    go p q = omega arith
tested true a false b h = tt
tested true a true b h = or_elim (ltb b a) (level true a true b) h (λ l. le_of_lt (ltb→lt b a l)) (λ l. le_of_eq (sym (eqb→eq a b (and_l (eqb a b) true l))))

pub test : (s : Bool) (a : ℕ) (t : Bool) (b : ℕ) → AtMost s a t b → T (below s a t b || level s a t b)
test false a false b h = go (eq-or-lt_of_le h)
  where
    go : (a ≡ b) ⊎ (a < b) → T (below false a false b || level false a false b)
    go (inl e) = or_right (ltb a b) (level false a false b) (and_i (eqb a b) true (eq→eqb e) tt)
    go (inr l) = or_left (ltb a b) (level false a false b) (lt→ltb a b l)
test false a true b h = and_i (eqb a b) (eqb a 0) (eq→eqb (same a b h)) (eq→eqb (none a b h))
  where
    same : (a b : ℕ) → a + b ≡ 0 → a ≡ b
    same a b h = omega arith

    none : (a b : ℕ) → a + b ≡ 0 → a ≡ 0
    none a b h = omega arith
test true zero false zero h = tt
test true zero false (suc b) h = or_left (ltb 0 (0 + suc b)) (level true 0 false (suc b)) (lt→ltb 0 (0 + suc b) (omega arith))
test true (suc a) false b h = or_left (ltb 0 (suc a + b)) (level true (suc a) false b) (lt→ltb 0 (suc a + b) (omega arith))
test true a true b h = go (eq-or-lt_of_le h)
  where
    go : (b ≡ a) ⊎ (b < a) → T (below true a true b || level true a true b)
    go (inl e) = or_right (ltb b a) (level true a true b) (and_i (eqb a b) true (eq→eqb (sym e)) tt)
    go (inr l) = or_left (ltb b a) (level true a true b) (lt→ltb b a l)

pub scale : (s : Bool) (a : ℕ) (t : Bool) (b k : ℕ) → AtMost s a t b → AtMost s (a * k) t (b * k)
scale false a false b k h = mul-le-mul_right k h
scale false a true b k h = sym (native.Mathlib.Nat.add-mul a b k) ∙ ap (λ (z : ℕ). z * k) h ∙ zero-mul k
scale true a false b k h = tt
scale true a true b k h = mul-le-mul_right k h

pub cancel : (s : Bool) (a : ℕ) (t : Bool) (b k : ℕ) → 0 < k → AtMost s (a * k) t (b * k) → AtMost s a t b
cancel false a false b k p h = native.Mathlib.Nat.le_of_mul-le-mul_right h p
cancel false a true b k p h = native.Mathlib.Nat.eq_of_mul-eq-mul_right k p (a + b) 0 (native.Mathlib.Nat.add-mul a b k ∙ h ∙ sym (zero-mul k))
cancel true a false b k p h = tt
cancel true a true b k p h = native.Mathlib.Nat.le_of_mul-le-mul_right h p

-- ---- negation

mirror : (s : Bool) (a : ℕ) (t : Bool) (b : ℕ) → AtMost s a t b → AtMost (not t) b (not s) a
mirror false a false b h = h
mirror false a true b h = native.Mathlib.Nat.add_comm b a ∙ h
mirror true a false b h = tt
mirror true a true b h = h

pub neg-at-most : (x y : Float) → T (x ≼ y) → T (neg y ≼ neg x)
unfolding le lt eq neg
neg-at-most nan y h = absurd h
neg-at-most (inf s) nan h = absurd h
neg-at-most (inf true) (inf true) h = tt
neg-at-most (inf true) (inf false) h = tt
neg-at-most (inf false) (inf true) h = absurd h
neg-at-most (inf false) (inf false) h = tt
neg-at-most (inf true) (fin t n d) h = tt
neg-at-most (inf false) (fin t n d) h = absurd h
neg-at-most (fin s m e) nan h = absurd h
neg-at-most (fin s m e) (inf true) h = absurd h
neg-at-most (fin s m e) (inf false) h = tt
neg-at-most (fin s m e) (fin t n d) h =
    let a = m * up e * down d in
    let b = n * up d * down e in
    test (not t) b (not s) a (mirror s a t b (tested s a t b h))

pub neg-neg : (x : Float) → neg (neg x) ≡ x
unfolding neg
neg-neg nan = refl
neg-neg (inf true) = refl
neg-neg (inf false) = refl
neg-neg (fin true m e) = refl
neg-neg (fin false m e) = refl
