-- What a table holds, by induction on its length. Assumes nothing.
use mathlib.Core.Path.{◌≡◌, refl, sym, ap, ◌∙◌, subst}
use mathlib.Core.Bool.{Bool, true, ◌&&◌}
use Prim.Native.Nat.{ℕ, zero, suc, ◌+◌, ◌<◌, suc-le-suc}
use native.Mathlib.Nat.{not-suc-le-zero, le_of_suc-le-suc, zero-lt-suc, zero-add, add-zero, add-suc, suc-add}
use mathlib.Core.List.{List, [], ◌∷◌}
use lib.Dec.{T}
use lib.Ieee.Fits.{and_l, and_r}
use lib.ListN.{get_or, length}
use Rattle.prelude.specs.Prelude.{table}

pub length-table : (n : ℕ) (f : ℕ → ℕ) → length (table n f) ≡ n
length-table zero f = refl
length-table (suc n) f = ap suc (length-table n (λ k. f (suc k)))

pub get_or-table : (n : ℕ) (f : ℕ → ℕ) (i d : ℕ) → i < n → get_or (table n f) i d ≡ f i
get_or-table zero f i d h = absurd (not-suc-le-zero h)
get_or-table (suc n) f zero d h = refl
get_or-table (suc n) f (suc i) d h = get_or-table n (λ k. f (suc k)) i d (le_of_suc-le-suc h)

pub table_ext : (n : ℕ) (f g : ℕ → ℕ) → ((i : ℕ) → i < n → f i ≡ g i) → table n f ≡ table n g
table_ext zero f g h = refl
table_ext (suc n) f g h = λ j. h zero (zero-lt-suc n) j ∷ table_ext n (λ k. f (suc k)) (λ k. g (suc k)) (λ i b. h (suc i) (suc-le-suc b)) j

-- ---- a rule of two neighbours, proved of every two by one test that is computed over the whole list

-- the test passes at each two neighbours and the place of the first, counted from i
abbrev pub neighbours : (ℕ → ℕ → ℕ → Bool) → ℕ → List ℕ → Bool
neighbours f i [] = true
neighbours f i (a ∷ []) = true
neighbours f i (a ∷ b ∷ xs) = f i a b && neighbours f (suc i) (b ∷ xs)

neighbours_from : (f : ℕ → ℕ → ℕ → Bool) (xs : List ℕ) (i : ℕ) → T (neighbours f i xs) → (k : ℕ) → suc k < length xs → T (f (i + k) (get_or xs k 0) (get_or xs (suc k) 0))
neighbours_from f [] i t k h = absurd (not-suc-le-zero h)
neighbours_from f (a ∷ []) i t k h = absurd (not-suc-le-zero (le_of_suc-le-suc h))
neighbours_from f (a ∷ b ∷ xs) i t zero h = rw add-zero (and_l (f i a b) (neighbours f (suc i) (b ∷ xs)) t)
neighbours_from f (a ∷ b ∷ xs) i t (suc k) h =
    subst (λ (m : ℕ). T (f m (get_or (b ∷ xs) k 0) (get_or (b ∷ xs) (suc k) 0))) (suc-add i k ∙ sym (add-suc i k))
    (neighbours_from f (b ∷ xs) (suc i) (and_r (f i a b) (neighbours f (suc i) (b ∷ xs)) t) k (le_of_suc-le-suc h))

pub neighbours_at : (f : ℕ → ℕ → ℕ → Bool) (xs : List ℕ) → T (neighbours f 0 xs) → (k : ℕ) → suc k < length xs → T (f k (get_or xs k 0) (get_or xs (suc k) 0))
neighbours_at f xs t k h = subst (λ (m : ℕ). T (f m (get_or xs k 0) (get_or xs (suc k) 0))) (zero-add k) (neighbours_from f xs 0 t k h)
