-- Every k-th of a list, up to a limit. Behind one that is taken k - 1 are passed over, and what is left is decimated like the whole; so those
-- taken can be sought one by one, until none is left or the limit is reached. Assumes nothing.
use mathlib.Core.Path.{◌≡◌, refl, sym, ap, ◌∙◌}
use Prim.Native.Nat.{ℕ, zero, suc, ◌+◌, ◌-◌, ◌/◌, ◌%◌, ◌≤◌, ◌<◌, min}
use native.Mathlib.Nat.{suc-add, zero-mod, mod-one, mod-eq_of_lt, add-mod_right, le-div_iff_mul-le}
use native.Mathlib.Omega.{arith}
use mathlib.Core.List.{List, [], ◌∷◌}
use lib.ListN.{length, take, drop}
use lib.Seq.{take_all, take-nil}
use borrow.Author.Tests.{lt-ltb, le-ltb, ne_eqb}
use Rattle.consts.specs.Consts.{max_edge_points}
use Rattle.consts.specs.declared.Settings.{Settings}
use Rattle.grid.specs.declared.LabelEdge.{LabelEdge}
use Rattle.grid.specs.Grids.{Grid}
use Rattle.probes.specs.Probes.{every_from, decimated, candidates}
use Rattle.probes.specs.Places.{probe_at, onward, coming, Counted, Thins, Sought}
use Rattle.probes.specs.declared.Probe.{Probe}
use Rattle.probes.proofs.Candidates.{onward-all}

-- ---- every k-th

every_one : (i : ℕ) (xs : List Probe) → every_from 1 i xs ≡ xs
unfolding every_from
every_one i [] = refl
every_one i (x ∷ xs) = rw (mod-one i, every_one (suc i) xs)

-- counted on from k, as from 0
every_again : (k i : ℕ) (xs : List Probe) → every_from k (i + k) xs ≡ every_from k i xs
unfolding every_from
every_again k i [] = refl
every_again k i (x ∷ xs) = rw (add-mod_right i k, ← suc-add i k, every_again k (suc i) xs)

-- none is taken before k
every_over : (k i d : ℕ) (xs : List Probe) → 0 < i → i + d ≡ k → every_from k i xs ≡ every_from k 0 (drop d xs)
unfolding every_from
every_over k i zero xs p h = let whole : i ≡ 0 + k = omega arith in rw whole (every_again k 0 xs)
every_over k i (suc d) [] p h = refl
every_over k i (suc d) (x ∷ xs) p h =
    let same : i % k ≡ i = mod-eq_of_lt (omega arith) in
    rw (same, ne_eqb i 0 (λ z. omega arith)) (every_over k (suc i) d xs (omega arith) (omega arith))

-- the first is taken, and k - 1 are passed over
every_next : (k : ℕ) (x : Probe) (xs : List Probe) → 0 < k → every_from k 0 (x ∷ xs) ≡ x ∷ every_from k 0 (drop (k - 1) xs)
unfolding every_from
every_next k x xs p = rw zero-mod (ap (λ (l : List Probe). x ∷ l) (every_over k 1 (k - 1) xs (omega arith) (omega arith)))

-- ---- the decimation

pub thins_few : (n most : ℕ) → n ≤ most → Thins n most 1
thins_few n most l = record { some = omega arith; right = whole }
  where
    whole : (ps : List Probe) → length ps ≡ n → take most (every_from 1 0 ps) ≡ decimated most ps
    whole ps h =
        let fits : length ps ≤ most = omega arith in
        rw (every_one 0 ps, le-ltb most (length ps) fits) (take_all most ps fits)

pub thins_none : (n most : ℕ) → most < n → most ≡ 0 → Thins n most 1
thins_none n most l z = record { some = omega arith; right = none }
  where
    none : (ps : List Probe) → length ps ≡ n → take most (every_from 1 0 ps) ≡ decimated most ps
    none ps h =
        let some : most < length ps = omega arith in
        rw (lt-ltb most (length ps) some, z)

pub thins_many : (n most : ℕ) → most < n → 0 < most → Thins n most ((n + (most - 1)) / most)
thins_many n most l p = record { some = (le-div_iff_mul-le p).1 (omega arith); right = every }
  where
    every : (ps : List Probe) → length ps ≡ n → take most (every_from ((n + (most - 1)) / most) 0 ps) ≡ decimated most ps
    every ps h =
        let some : most < length ps = omega arith in
        rw (lt-ltb most (length ps) some, h)

-- ---- the probes that are still to come

module _ (s : Settings) (g : Grid) (e : LabelEdge) (k : ℕ) where
  -- from the start on they are every k-th candidate
  coming-all : (most : ℕ) → coming s g e k 0 0 most ≡ take most (every_from k 0 (candidates s g e))
  coming-all most = ap (λ (l : List Probe). take most (every_from k 0 l)) (onward-all s g e)

  -- the next candidate is the first of them, and the others come behind it
  pub coming-next : {at skip left there : ℕ} {p : Probe} → 0 < left → 0 < k → Sought s g e at skip there → p ≡ probe_at s g e there
      → coming s g e k at skip left ≡ p ∷ coming s g e k (there + 1) (k - 1) (left - 1)
  coming-next {at} {skip} {left} {there} {p} some step here is =
      let found : drop skip (onward s g e at) ≡ p ∷ onward s g e (there + 1) = rw is here.left in
      let one : left ≡ suc (left - 1) = omega arith in
      ap (take left) (ap (every_from k 0) found ∙ every_next k p (onward s g e (there + 1)) step)
      ∙ ap (λ (n : ℕ). take n (p ∷ every_from k 0 (drop (k - 1) (onward s g e (there + 1))))) one

  -- no candidate is left
  pub coming-none : (at skip left : ℕ) → drop skip (onward s g e at) ≡ [] → coming s g e k at skip left ≡ []
  unfolding every_from
  coming-none at skip left none = rw none (take-nil left)

-- ---- the selection

-- the candidates are counted, the decimation is theirs, and every k-th is to come
pub selected : (s : Settings) (g : Grid) (e : LabelEdge) (n most k : ℕ) → most ≡ min s.max_points_per_edge max_edge_points → Counted s g e n → Thins n most k
    → coming s g e k 0 0 most ≡ decimated (min s.max_points_per_edge max_edge_points) (candidates s g e)
selected s g e n most k h counted thins =
    coming-all s g e k most ∙ thins.right (candidates s g e) (sym counted.all) ∙ ap (λ (l : ℕ). decimated l (candidates s g e)) h
