-- The sum of a list is the sum of its terms by index, and where all of a list pass a test each does: for every length. Assumes nothing.
use mathlib.Core.Path.{◌≡◌, refl, sym, ap, ◌∙◌}
use Prim.Native.Nat.{ℕ, zero, suc, ◌<◌}
use native.Mathlib.Nat.{eq-or-lt_of_le}
use native.Mathlib.Omega.{arith}
use mathlib.Core.Bool.{Bool, true, false, ◌&&◌}
use mathlib.Core.List.{List, [], ◌∷◌}
use mathlib.Core.Logic.{⊎_elim}
use lib.ListN.{length}
use lib.Ieee.{Float}
use Rattle.std.specs.Prelude.{fold}
use Rattle.std.specs.List.{list_all}
use Rattle.std.proofs.lemmas.Bool.{and_parts}
use Rattle.ieee.specs.Floats.{◌⊕◌, f0}
use Rattle.ieee.specs.Parts.{is_finite}
use Rattle.float_lists.specs.Sums.{at, finite, sum_to, total}

-- ---- the sum

-- n terms, from t on
sum_onto : Float → ℕ → (ℕ → Float) → Float
sum_onto t zero f = t
sum_onto t (suc n) f = sum_onto t n f ⊕ f n

onto_none : (n : ℕ) (f : ℕ → Float) → sum_onto f0 n f ≡ sum_to n f
unfolding sum_onto
onto_none zero f = refl
onto_none (suc n) f = ap (λ (t : Float). t ⊕ f n) (onto_none n f)

onto_first : (t : Float) (n : ℕ) (f : ℕ → Float) → sum_onto (t ⊕ f 0) n (λ k. f (suc k)) ≡ sum_onto t (suc n) f
unfolding sum_onto
onto_first t zero f = refl
onto_first t (suc n) f = ap (λ (s : Float). s ⊕ f (suc n)) (onto_first t n f)

fold-onto : (t : Float) (xs : List Float) → fold (λ (s x : Float). s ⊕ x) t xs ≡ sum_onto t (length xs) (at xs)
unfolding sum_onto
fold-onto t [] = refl
fold-onto t (x ∷ xs) = fold-onto (t ⊕ x) xs ∙ onto_first t (length xs) (at (x ∷ xs))

pub total-sum_to : (xs : List Float) → total xs ≡ sum_to (length xs) (at xs)
total-sum_to xs = fold-onto f0 xs ∙ onto_none (length xs) (at xs)

-- ---- all of n

-- whether the first n are so
abbrev pub all_to : ℕ → (ℕ → Bool) → Bool
all_to zero f = true
all_to (suc n) f = all_to n f && f n

-- all of n are so, and so is each
pub all_each : (n : ℕ) (f : ℕ → Bool) (i : ℕ) → i < n → all_to n f ≡ true → f i ≡ true
all_each zero f i l h = absurd (omega arith)
all_each (suc n) f i l h =
    let parts = and_parts (all_to n f) (f n) h in
    ⊎_elim (λ (e : i ≡ n). ap f e ∙ parts.1) (λ (k : i < n). all_each n f i k parts.0) (eq-or-lt_of_le (omega arith))

-- ---- all of a list

to_first : (n : ℕ) (f : ℕ → Bool) → (f 0 && all_to n (λ k. f (suc k))) ≡ all_to (suc n) f
to_first zero f = go (f 0)
  where
    go : (b : Bool) → (b && true) ≡ (true && b)
    go true = refl
    go false = refl
to_first (suc n) f = go (f 0) (all_to n (λ k. f (suc k))) (f (suc n)) ∙ ap (λ (b : Bool). b && f (suc n)) (to_first n f)
  where
    go : (a b c : Bool) → (a && (b && c)) ≡ ((a && b) && c)
    go true b c = refl
    go false b c = refl

-- a test of all of a list is one of each by index
pub all-all_to : (p : Float → Bool) (xs : List Float) → list_all p xs ≡ all_to (length xs) (λ i. p (at xs i))
all-all_to p [] = refl
all-all_to p (x ∷ xs) = ap (λ (b : Bool). p x && b) (all-all_to p xs) ∙ to_first (length xs) (λ i. p (at (x ∷ xs) i))

-- so where all of a list pass a test, each does
pub each_passes : (p : Float → Bool) (xs : List Float) (i : ℕ) → i < length xs → list_all p xs ≡ true → p (at xs i) ≡ true
each_passes p xs i l h = all_each (length xs) (λ k. p (at xs k)) i l (sym (all-all_to p xs) ∙ h)

pub each_finite : (xs : List Float) (i : ℕ) → i < length xs → finite xs ≡ true → is_finite (at xs i) ≡ true
each_finite = each_passes is_finite
