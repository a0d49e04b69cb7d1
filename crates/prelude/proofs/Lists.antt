-- What holds of each element of a list, by induction on the list; lists of four; and how many are left of a list that is gone through by index. Assumes nothing.
use mathlib.Core.Path.{◌≡◌, sym, ◌∙◌}
use Prim.Native.Nat.{ℕ, zero, suc, ◌+◌, ◌-◌, ◌<◌}
use native.Mathlib.Omega.{arith}
use mathlib.Core.List.{List, [], ◌∷◌, ◌++◌, map}
use lib.ListN.{length, get_or, set, length-map, length-set}

-- ---- each element has a property

abbrev pub Each : {A : Type 0} → (A → Type 0) → List A → Type 0
Each P [] = Unit {0}
Each P (x ∷ xs) = P x × Each P xs

pub each_both : {A : Type 0} (P : A → Type 0) (s t : List A) → Each P (s ++ t) → Each P s × Each P t
each_both P [] t h = (tt, h)
each_both P (x ∷ s) t h = let r = each_both P s t h.1 in ((h.0, r.0), r.1)

pub each_append : {A : Type 0} (P : A → Type 0) (s t : List A) → Each P s → Each P t → Each P (s ++ t)
each_append P [] t hs ht = ht
each_append P (x ∷ s) t hs ht = (hs.0, each_append P s t hs.1 ht)

-- by its place
pub each_at : {A : Type 0} (P : A → Type 0) (xs : List A) (k : ℕ) (d : A) → Each P xs → k < length xs → P (get_or xs k d)
each_at P [] k d e h = absurd (omega arith)
each_at P (x ∷ xs) zero d e h = e.0
each_at P (x ∷ xs) (suc k) d e h = each_at P xs k d e.1 (omega arith)

pub each_of : {A : Type 0} (P : A → Type 0) (xs : List A) (d : A) → ((k : ℕ) → k < length xs → P (get_or xs k d)) → Each P xs
each_of P [] d f = tt
each_of P (x ∷ xs) d f = (f 0 (omega arith), each_of P xs d (λ k h. f (suc k) (omega arith)))

-- what follows of an element follows of each
pub each_weaker : {A : Type 0} (P Q : A → Type 0) (xs : List A) → ((x : A) → P x → Q x) → Each P xs → Each Q xs
each_weaker P Q [] f e = tt
each_weaker P Q (x ∷ xs) f e = (f x e.0, each_weaker P Q xs f e.1)

-- a step that leaves the property
pub each_made : {A B : Type 0} (P : B → Type 0) (f : A → B) (xs : List A) → ((x : A) → P (f x)) → Each P (map f xs)
each_made P f [] h = tt
each_made P f (x ∷ xs) h = (h x, each_made P f xs h)

-- one of them put anew
pub each_set : {A : Type 0} (P : A → Type 0) (xs : List A) (i : ℕ) (x : A) → Each P xs → P x → Each P (set xs i x)
each_set P [] i x e h = tt
each_set P (y ∷ ys) zero x e h = (h, e.1)
each_set P (y ∷ ys) (suc i) x e h = (e.0, each_set P ys i x e.1 h)

-- ---- lists of four

-- four, each with a property
pub record Four {A : Type 0} (P : A → Type 0) (l : List A) : Type 0 where
  pub four : length l ≡ 4
  pub each : Each P l

pub four-set : {A : Type 0} (P : A → Type 0) (l : List A) (i : ℕ) (x : A) → Four P l → P x → Four P (set l i x)
four-set P l i x f h = record { four = length-set l i x ∙ f.four; each = each_set P l i x f.each h }

-- a list of four, taken apart
pub by-four : {A : Type 0} (P : List A → Type 0) → ((a b c d : A) → P (a ∷ b ∷ c ∷ d ∷ [])) → (l : List A) → length l ≡ 4 → P l
by-four P f [] h = absurd (omega arith)
by-four P f (a ∷ []) h = absurd (omega arith)
by-four P f (a ∷ b ∷ []) h = absurd (omega arith)
by-four P f (a ∷ b ∷ c ∷ []) h = absurd (omega arith)
by-four P f (a ∷ b ∷ c ∷ d ∷ []) h = f a b c d
by-four P f (a ∷ b ∷ c ∷ d ∷ e ∷ l) h = absurd (omega arith)

-- ---- lengths

-- an array's length, as a field of a struct tells it
pub length_mapped : {A B : Type 0} (f : A → B) (l : List A) (n : ℕ) → length (map f l) ≡ n → length l ≡ n
length_mapped f l n e = sym (length-map l f) ∙ e

-- behind place i of n, one less is left than from it on
pub one_less : (n i : ℕ) → i < n → n - i ≡ suc (n - (i + 1))
one_less n i h = omega arith
