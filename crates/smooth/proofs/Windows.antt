-- Sums of a scan's fronts and of its windows: a front of one record more has one height more, a
-- window is what one front has beside another, and no sum of it is larger than that of so many
-- largest heights. Assumes nothing.
use mathlib.Core.Path.{◌≡◌, refl, ap, ◌∙◌}
use mathlib.Core.List.{List}
use Rattle.std.proofs.Common.{inl, inr}
use Prim.Native.Nat.{ℕ, ◌+◌, ◌-◌, ◌*◌, ◌<◌, ◌≤◌, min}
use native.Mathlib.Omega.{arith}
use lib.ListN.{length, get_or, take, replicate}
use Rattle.std.specs.List.{sum}
use Rattle.std.proofs.lemmas.Bool.{cases_lt}
use Rattle.std.proofs.lemmas.List.{take_all, take-take, length-take, length-drop, get_or_past, get_or-take, get_or-drop, get_or-replicate, get_or_append_left, get_or-append_right}
use Rattle.std.proofs.lemmas.List.Elements.{All-from_get_or}
use Rattle.std.proofs.lemmas.List.Sums.{sum_by_more, sum_by-take-drop, sum_by-take-le, sum_by-le}
use Rattle.std.proofs.lemmas.Slice.{between_is}
use Rattle.smooth.specs.Smooth.{window}
use Rattle.smooth.specs.Walks.{behind}

-- ---- fronts; behind the end a record counts as 0

pub sum_more : (l : List ℕ) (k : ℕ) → sum (take (k + 1) l) ≡ sum (take k l) + get_or l k 0
sum_more l k =
    elim (cases_lt k (length l)) [
      | inl h ↦ sum_by_more (λ x. x) l k 0 h
      | inr h ↦ rw (take_all (k + 1) l (omega arith), take_all k l h, get_or_past l k 0 h) (omega arith)
    ]

pub front_le : (l : List ℕ) (a b : ℕ) → a ≤ b → sum (take a l) ≤ sum (take b l)
front_le l a b h = omega (arith, sum_by-take-le (λ x. x) (take b l) a, ap sum (take-take a b l h))

pub zero_behind : (l : List ℕ) (j : ℕ) → j < 16 → behind l j ≡ 0
unfolding behind
zero_behind l j h = get_or_append_left (replicate 16 0) l 0 j h ∙ get_or-replicate 16 j 0 0 h

pub behind_at : (l : List ℕ) (i : ℕ) → behind l (i + 16) ≡ get_or l i 0
unfolding behind
behind_at l i =
    let place : i + 16 - 16 ≡ i = omega arith in
    rw (get_or-append_right (replicate 16 0) l 16 (i + 16) 0 refl (omega arith), place)

pub behind_more : (l : List ℕ) (reach i : ℕ) → reach ≤ 15 → sum (take (i + 1 - reach) l) ≡ sum (take (i - reach) l) + behind l (i + 16 - reach)
behind_more l reach i few =
    elim (cases_lt i reach) [
      | inl h ↦
          let now : i - reach ≡ 0 = omega arith in
          let next : i + 1 - reach ≡ 0 = omega arith in
          rw (now, next, zero_behind l (i + 16 - reach) (omega arith)) (omega arith)
      | inr h ↦
          let next : i + 1 - reach ≡ i - reach + 1 = omega arith in
          let place : i + 16 - reach ≡ i - reach + 16 = omega arith in
          rw (next, place, behind_at l (i - reach)) (sum_more l (i - reach))
    ]

-- ---- windows

module _ (reach i : ℕ) (l : List ℕ) where
  pub window_sum : sum (window reach i l) + sum (take (i - reach) l) ≡ sum (take (i + reach + 1) l)
  window_sum =
      let front : take (i - reach) (take (i + reach + 1) l) ≡ take (i - reach) l = take-take (i - reach) (i + reach + 1) l (omega arith) in
      omega (arith, sum_by-take-drop (λ x. x) (take (i + reach + 1) l) (i - reach), ap sum front, ap sum (between_is l (i - reach) (i + reach + 1)))

  pub window_length : length (window reach i l) ≡ min (i + reach + 1) (length l) - (i - reach)
  window_length = rw (between_is l (i - reach) (i + reach + 1), length-drop (i - reach) (take (i + reach + 1) l), length-take (i + reach + 1) l)

  pub window_most : ((k : ℕ) → get_or l k 0 ≤ 65535) → sum (window reach i l) ≤ 65535 * length (window reach i l)
  window_most small =
      omega (arith, sum_by-le (λ x. x) 65535 (window reach i l) (All-from_get_or (λ x. x ≤ 65535) (window reach i l) 0 (λ k h. each k (omega (arith, window_length)))))
    where
      each : (k : ℕ) → i - reach + k < i + reach + 1 → get_or (window reach i l) k 0 ≤ 65535
      each k h =
          rw (between_is l (i - reach) (i + reach + 1), get_or-drop (i - reach) (take (i + reach + 1) l) k 0, get_or-take (i + reach + 1) l (i - reach + k) 0 h) (small (i - reach + k))
