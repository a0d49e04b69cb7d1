-- The inliers, moved to the front of their list: after each turn it holds those so far. Assumes nothing.
use mathlib.Core.Path.{◌≡◌, refl, ap, sym, ◌∙◌}
use Prim.Native.Nat.{ℕ, suc, ◌+◌, ◌<◌, ◌≤◌}
use native.Mathlib.Numerals.{add-one}
use native.Mathlib.Omega.{arith}
use mathlib.Core.Bool.{Bool, true, false}
use mathlib.Core.List.{List, [], ◌∷◌, ◌++◌, append-nil}
use lib.ListN.{length, length-set, take, drop, set}
use lib.Seq.{take-suc, take-suc-set, take-set-le, take_all, length-take-le}
use Rattle.std.proofs.lemmas.List.{drop-drop, drop-set-lt, get_or-drop}
use lib.Ieee.{Float, nan}
use Rattle.prelude.specs.Prelude.{when◌then◌else◌}
use Rattle.ieee.specs.Floats.{◌≼◌}
use Rattle.float_lists.specs.Sums.{at}
use Rattle.fit.specs.Fit.{inliers}
use Rattle.fit.specs.Lent.{Compacted}

inliers_snoc : (most : Float) (rs xs : List Float) (r x : Float) → length rs ≡ length xs →
    inliers most (rs ++ r ∷ []) (xs ++ x ∷ []) ≡ inliers most rs xs ++ (when r ≼ most then x ∷ [] else [])
unfolding inliers
inliers_snoc most [] [] r x e = refl
inliers_snoc most [] (y ∷ ys) r x e = absurd (omega arith)
inliers_snoc most (q ∷ qs) [] r x e = absurd (omega arith)
inliers_snoc most (q ∷ qs) (y ∷ ys) r x e = by (q ≼ most) (inliers_snoc most qs ys r x (omega arith))
  where
    by : (b : Bool) → inliers most (qs ++ r ∷ []) (ys ++ x ∷ []) ≡ inliers most qs ys ++ (when r ≼ most then x ∷ [] else []) →
        (when b then y ∷ inliers most (qs ++ r ∷ []) (ys ++ x ∷ []) else inliers most (qs ++ r ∷ []) (ys ++ x ∷ []))
        ≡ (when b then y ∷ inliers most qs ys else inliers most qs ys) ++ (when r ≼ most then x ∷ [] else [])
    by true i = ap (λ (l : List Float). y ∷ l) i
    by false i = i

inliers_none : (most : Float) → [] ≡ inliers {A = Float} most [] []
unfolding inliers
inliers_none most = refl

-- moved to the front in place: the first k are the inliers of the first i, and from i on the list is as it was
pub record Kept (most : Float) (rs xs out : List Float) (k i : ℕ) : Type 0 where
  pub few : k ≤ i
  pub room : length out ≡ length xs
  pub front : take k out ≡ inliers most (take i rs) (take i xs)
  pub rest : drop i out ≡ drop i xs

pub kept_none : (most : Float) (rs xs : List Float) → Kept most rs xs xs 0 0
kept_none most rs xs = record { few = omega arith; room = refl; front = inliers_none most; rest = refl }

module _ (most : Float) (rs xs out : List Float) (k i : ℕ) (hr : i < length rs) (hx : i < length xs) (had : Kept most rs xs out k i) where
  -- value i is still where it was
  here : at out i ≡ at xs i
  here =
      let same : i + 0 ≡ i = omega arith in
      ap (at out) (sym same) ∙ sym (get_or-drop i out 0 nan) ∙ ap (λ (l : List Float). at l 0) had.rest ∙ get_or-drop i xs 0 nan ∙ ap (at xs) same

  inliers_next : inliers most (take (i + 1) rs) (take (i + 1) xs) ≡ take k out ++ (when at rs i ≼ most then at out i ∷ [] else [])
  inliers_next =
      rw (add-one i, take-suc rs i nan hr, take-suc xs i nan hx, inliers_snoc most (take i rs) (take i xs) (at rs i) (at xs i) (length-take-le i rs (omega arith) ∙ sym (length-take-le i xs (omega arith))), had.front, here)

  rest_next : drop (i + 1) (set out k (at out i)) ≡ drop (i + 1) xs
  rest_next =
      drop-set-lt (i + 1) out k (at out i) (omega (arith, had.few))
      ∙ sym (drop-drop 1 i out) ∙ ap (drop 1) had.rest ∙ drop-drop 1 i xs

  pub inlier_kept : (at rs i ≼ most) ≡ true → Kept most rs xs (set out k (at out i)) (k + 1) (i + 1)
  inlier_kept t = record {
    few = omega (arith, had.few);
    room = length-set out k (at out i) ∙ had.room;
    front = rw (inliers_next, t, add-one k, take-suc-set out k (at out i) (omega (arith, had.few, had.room)));
    rest = rest_next;
  }

  pub outlier_passed : (at rs i ≼ most) ≡ false → Kept most rs xs (set out k (at out i)) k (i + 1)
  outlier_passed t = record {
    few = omega (arith, had.few);
    room = length-set out k (at out i) ∙ had.room;
    front = rw (inliers_next, t, append-nil, take-set-le k out k (at out i) (omega arith));
    rest = rest_next;
  }

-- behind the last turn they are all
pub kept_all : (most : Float) (rs xs out : List Float) (k i : ℕ) → length rs ≡ length xs → i ≡ length xs → Kept most rs xs out k i → Compacted most rs xs out k
kept_all most rs xs out k i e end had = record {
  few = omega (arith, had.few);
  front = had.front ∙ rw (take_all i rs (omega arith), take_all i xs (omega arith));
}

pub inliers_fewer : {A : Type 0} (most : Float) (rs : List Float) (xs : List A) → length (inliers most rs xs) ≤ length xs
unfolding inliers
inliers_fewer most [] xs = omega arith
inliers_fewer most (r ∷ rs) [] = omega arith
inliers_fewer most (r ∷ rs) (x ∷ xs) = by (r ≼ most) (inliers_fewer most rs xs)
  where
    by : (b : Bool) → length (inliers most rs xs) ≤ length xs → length (when b then x ∷ inliers most rs xs else inliers most rs xs) ≤ suc (length xs)
    by true i = omega arith
    by false i = omega arith
