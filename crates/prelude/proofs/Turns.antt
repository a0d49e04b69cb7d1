-- What a loop over an array has done after k turns: each of the first k elements of ys stands in R to that of xs. Assumes nothing.
use mathlib.Core.Path.{◌≡◌, sym, subst}
use Prim.Native.Nat.{ℕ, ◌+◌, ◌≤◌, ◌<◌}
use native.Mathlib.Nat.{not-suc-le-zero, lt_of_not-le, lt_irrefl}
use native.Mathlib.Decide.{dec_le}
use native.Mathlib.Omega.{arith}
use mathlib.Core.List.{List}
use lib.ListN.{get_or, set, length}
use Rattle.std.proofs.lemmas.List.{get_or_default}
use lib.Seq.{get_or-set_same, get_or-set_other}

module _ {A B : Type 0} (R : A → B → Type 0) where
  abbrev pub Done : ℕ → List A → List B → Type 0
  Done k xs ys = (i : ℕ) (x : A) (y : B) → i < k → R (get_or xs i x) (get_or ys i y)

  pub none_done : (xs : List A) (ys : List B) → Done 0 xs ys
  none_done xs ys i x y h = absurd (not-suc-le-zero h)

  -- one more turn; the element of xs may be read with any default
  pub one_done : (k : ℕ) (xs : List A) (ys : List B) (d : A) {b : B} → k < length xs → k < length ys → Done k xs ys → R (get_or xs k d) b → Done (k + 1) xs (set ys k b)
  one_done k xs ys d {b} lx ly before now i x y h = go (dec_le k i)
    where
      last : i ≡ k → R (get_or xs i x) (get_or (set ys k b) i y)
      last e =
          subst (λ (j : ℕ). R (get_or xs j x) (get_or (set ys k b) j y)) (sym e)
          (subst (R (get_or xs k x)) (sym (get_or-set_same ys k b y ly)) (subst (λ (z : A). R z b) (get_or_default xs k d x lx) now))

      other : i < k → R (get_or xs i x) (get_or (set ys k b) i y)
      other l = subst (R (get_or xs i x)) (sym (get_or-set_other ys k i b y (λ e. lt_irrefl i (subst (λ (j : ℕ). i < j) (sym e) l)))) (before i x y l)

      go : Dec (k ≤ i) → R (get_or xs i x) (get_or (set ys k b) i y)
      go (yes g) = last (omega arith)
      go (no g) = other (lt_of_not-le g)
