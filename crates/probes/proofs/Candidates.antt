-- The candidates of an edge, place by place. Two places make a module, so what the places hold from the start on is what the modules hold.
-- Assumes nothing.
use mathlib.Core.Path.{◌≡◌, refl, sym, ap, ◌∙◌}
use Prim.Native.Nat.{ℕ, zero, suc, ◌+◌, ◌-◌, ◌*◌, ◌/◌, ◌%◌, ◌≤◌, ◌<◌}
use native.Mathlib.Nat.{sub-zero}
use native.Mathlib.Numerals.{add-one}
use native.Mathlib.Omega.{arith}
use mathlib.Core.Bool.{Bool, true, false, not, ◌&&◌}
use mathlib.Core.Logic.{◌⊎◌, inl, inr, ⊎_elim}
use mathlib.Core.List.{List, [], ◌∷◌, ◌++◌, append_assoc, append-nil}
use lib.ListN.{length, length-append, drop}
use lib.Seq.{drop-append-add, drop-nil}
use Rattle.prelude.specs.Prelude.{when◌then◌else◌}
use Rattle.consts.specs.declared.Settings.{Settings}
use Rattle.grid.specs.declared.LabelEdge.{LabelEdge}
use Rattle.grid.specs.Grids.{Grid, border_dark}
use Rattle.probes.specs.Probes.{near_end, module_candidates, candidates_from, candidates}
use Rattle.probes.specs.Places.{place_at, probe_at, is_candidate, candidate, candidates_of, onward, Sought}
use Rattle.probes.specs.declared.Probe.{Probe}

pair : (dark : Bool) (x y : List Probe) → (when dark then x else []) ++ (when dark then y else []) ≡ (when dark then x ++ y else [])
pair true x y = refl
pair false x y = refl

module _ (s : Settings) (g : Grid) (e : LabelEdge) where
  -- ---- modules

  two_places : (m : ℕ) → candidate s g e (2 * m) ++ candidate s g e (suc (2 * m)) ≡ module_candidates s g e m
  two_places m =
      let half : 2 * m / 2 ≡ m = omega arith in
      let even : 2 * m % 2 ≡ 0 = omega arith in
      let half_too : suc (2 * m) / 2 ≡ m = omega arith in
      let odd : suc (2 * m) % 2 ≡ 1 = omega arith in
      rw (half, even, half_too, odd) (pair (border_dark g e m) _ _)

  modules-places : (n m : ℕ) (got : List Probe) → candidates_from s g e n m got ≡ got ++ candidates_of s g e (2 * n) (2 * m)
  unfolding candidates_from candidates_of
  modules-places zero m got = sym (append-nil got)
  modules-places (suc n) m got =
      let two : 2 * suc n ≡ suc (suc (2 * n)) = omega arith in
      let next : 2 * suc m ≡ suc (suc (2 * m)) = omega arith in
      let left = candidates_of s g e (2 * n) (suc (suc (2 * m))) in
      modules-places n (suc m) (got ++ module_candidates s g e m)
      ∙ ap (λ (j : ℕ). (got ++ module_candidates s g e m) ++ candidates_of s g e (2 * n) j) next
      ∙ append_assoc got (module_candidates s g e m) left
      ∙ ap (λ (l : List Probe). got ++ (l ++ left)) (sym (two_places m))
      ∙ ap (λ (l : List Probe). got ++ l) (append_assoc (candidate s g e (2 * m)) (candidate s g e (suc (2 * m))) left)
      ∙ ap (λ (k : ℕ). got ++ candidates_of s g e k (2 * m)) (sym two)

  -- ---- places

  -- from the start on they are all
  pub onward-all : onward s g e 0 ≡ candidates s g e
  onward-all = rw sub-zero (sym (modules-places g.dim 0 []))

  pub onward_more : (j : ℕ) → j < 2 * g.dim → onward s g e j ≡ candidate s g e j ++ onward s g e (j + 1)
  unfolding candidates_of
  onward_more j l =
      let less : 2 * g.dim - j ≡ suc (2 * g.dim - (j + 1)) = omega arith in
      rw (less, add-one j)

  pub onward-end : (j : ℕ) → 2 * g.dim ≤ j → onward s g e j ≡ []
  unfolding candidates_of
  onward-end j l = let none : 2 * g.dim - j ≡ 0 = omega arith in rw none

  -- a place holds one or none
  one_or_none : (j : ℕ) → (candidate s g e j ≡ probe_at s g e j ∷ []) ⊎ (candidate s g e j ≡ [])
  one_or_none j = go (border_dark g e (j / 2)) (near_end s g.dim (place_at s j))
    where
      at : Bool → Bool → List Probe
      at dark near = when dark then (when near then [] else probe_at s g e j ∷ []) else []

      go : (dark near : Bool) → (at dark near ≡ probe_at s g e j ∷ []) ⊎ (at dark near ≡ [])
      go true true = inr refl
      go true false = inl refl
      go false near = inr refl

  -- as the test says
  candidate-counted : (j : ℕ) {b : Bool} → b ≡ is_candidate s g e j → (when b then 1 else 0) ≡ length (candidate s g e j)
  candidate-counted j h = rw h (go (border_dark g e (j / 2)) (near_end s g.dim (place_at s j)))
    where
      go : (dark near : Bool) → (when dark && not near then 1 else 0) ≡ length (when dark then (when near then [] else probe_at s g e j ∷ []) else [])
      go true true = refl
      go true false = refl
      go false near = refl

  pub counted_as : (j : ℕ) {b : Bool} {n : ℕ} → b ≡ is_candidate s g e j → (b ≡ true → n ≡ 1) → (b ≡ false → n ≡ 0) → n ≡ length (candidate s g e j)
  counted_as j {b} {n} h one none = go b refl
    where
      go : (t : Bool) → b ≡ t → n ≡ length (candidate s g e j)
      go true q = one q ∙ candidate-counted j (sym q ∙ h)
      go false q = none q ∙ candidate-counted j (sym q ∙ h)

  at_most_one : (j : ℕ) → length (candidate s g e j) ≤ 1
  at_most_one j = ⊎_elim (λ one. omega (arith, ap length one)) (λ none. omega (arith, ap length none)) (one_or_none j)

  pub at_most_two : (i j : ℕ) {first second : ℕ} → first ≡ length (candidate s g e i) → second ≡ length (candidate s g e j) → first + second ≤ 2
  at_most_two i j one two = omega (arith, at_most_one i, at_most_one j)

  -- a module is counted
  pub count_more : (m n : ℕ) {first second : ℕ} → m < g.dim → first ≡ length (candidate s g e (2 * m)) → second ≡ length (candidate s g e (2 * m + 1))
      → n + length (onward s g e (2 * m)) ≡ length (candidates s g e) → n + (first + second) + length (onward s g e (2 * (m + 1))) ≡ length (candidates s g e)
  count_more m n l one two had =
      let next : 2 * (m + 1) ≡ 2 * m + 1 + 1 = omega arith in
      let more = ap length (onward_more (2 * m) (omega arith)) ∙ length-append (candidate s g e (2 * m)) _ in
      let more-too = ap length (onward_more (2 * m + 1) (omega arith)) ∙ length-append (candidate s g e (2 * m + 1)) _ in
      rw next (omega (arith, more, more-too))

  -- ---- a candidate is sought

  module _ (from skip : ℕ) where
    -- a place is passed
    pub sought_on : (j : ℕ) {left here : ℕ} → j < 2 * g.dim → here ≡ length (candidate s g e j) → here ≤ left
        → drop left (onward s g e j) ≡ drop skip (onward s g e from) → drop (left - here) (onward s g e (j + 1)) ≡ drop skip (onward s g e from)
    sought_on j {left} {here} l is few had =
        let behind = onward s g e (j + 1) in
        let all : length (candidate s g e j) + (left - here) ≡ left = omega arith in
        sym (drop-append-add (candidate s g e j) behind (left - here))
        ∙ ap (λ (n : ℕ). drop n (candidate s g e j ++ behind)) all
        ∙ ap (drop left) (sym (onward_more j l))
        ∙ had

    -- one that is none, or one of those that are passed
    pub sought_past : (j left : ℕ) {b : Bool} → j < 2 * g.dim → b ≡ is_candidate s g e j → b ≡ false
        → drop left (onward s g e j) ≡ drop skip (onward s g e from) → drop left (onward s g e (j + 1)) ≡ drop skip (onward s g e from)
    sought_past j left l h isnt had = rw (← sub-zero left) (sought_on j l (candidate-counted j (sym isnt ∙ h)) (omega arith) had)

    pub sought_over : (j : ℕ) {left : ℕ} {b : Bool} → j < 2 * g.dim → b ≡ is_candidate s g e j → b ≡ true → 0 < left
        → drop left (onward s g e j) ≡ drop skip (onward s g e from) → drop (left - 1) (onward s g e (j + 1)) ≡ drop skip (onward s g e from)
    sought_over j l h is some had = sought_on j l (candidate-counted j (sym is ∙ h)) (omega arith) had

    pub sought_here : (j : ℕ) {left : ℕ} {b : Bool} → j < 2 * g.dim → b ≡ is_candidate s g e j → b ≡ true → left ≡ 0
        → drop left (onward s g e j) ≡ drop skip (onward s g e from) → Sought s g e from skip j
    sought_here j {left} {b} l h is none had =
        let some : 1 ≡ length (candidate s g e j) = candidate-counted j (sym is ∙ h) in
        let here : candidate s g e j ≡ probe_at s g e j ∷ [] = ⊎_elim (λ one. one) (λ nothing. absurd (omega (arith, some, ap length nothing))) (one_or_none j) in
        record {
          inside = l;
          left = sym had ∙ ap (λ (n : ℕ). drop n (onward s g e j)) none ∙ onward_more j l ∙ ap (λ (ps : List Probe). ps ++ onward s g e (j + 1)) here;
        }

    pub sought_none : (j left : ℕ) → 2 * g.dim ≤ j → drop left (onward s g e j) ≡ drop skip (onward s g e from) → drop skip (onward s g e from) ≡ []
    sought_none j left l had = sym had ∙ ap (drop left) (onward-end j l) ∙ drop-nil left
