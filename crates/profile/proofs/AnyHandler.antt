-- A profile and the passes of an edge point over any handler of samples, as steps of the tree that is left: the next sample is in, or it was rejected, or all seven are in;
-- a pass was rejected, or its profile has no peak, or it has found a point, or all three are done. Assumes nothing.
use mathlib.Core.Path.{◌≡◌, refl, sym, ap, ◌∙◌, subst}
use Prim.Native.Nat.{ℕ, suc, ◌+◌, ◌-◌, ◌≤◌, ◌<◌}
use native.Mathlib.Numerals.{add-one}
use native.Mathlib.Omega.{arith}
use mathlib.Core.List.{List, [], ◌∷◌, ◌++◌}
use Rattle.std.specs.Prelude.{Option, None, Some}
use lib.ListN.{length, take, set}
use lib.Seq.{take-suc-set, take_all}
use lib.Ieee.{Float}
use Rattle.prelude.proofs.Lists.{one_less}
use Rattle.ieee.specs.Floats.{◌⊖◌, float, f3}
use Rattle.consts.specs.declared.Settings.{Settings}
use Rattle.pixel.specs.declared.SourcePixel.{SourcePixel}
use Rattle.pixel.specs.declared.Direction.{Direction}
use Rattle.pixel.specs.declared.EdgePoint.{EdgePoint}
use Rattle.pixel.specs.Pixels.{edge_point}
use Rattle.sample_tree.specs.SampleTree.{SampleTree, done, one_sample, ◌>>=◌}
use Rattle.sample_tree.specs.Options.{on_some}
use Rattle.sample_tree.specs.Run.{Handler, Runs}
use Rattle.sample_tree.proofs.Steps as steps
use Rattle.sample_tree.proofs.Steps.{Leads, start, end, found_none}
use Rattle.peak.specs.declared.Peak.{Peak}
use Rattle.peak.specs.Peak.{peak}
use Rattle.aitken.specs.Aitken.{projection, aitken}
use Rattle.profile.specs.declared.Ray.{Ray}
use Rattle.profile.specs.Profile.{offset_along, sample_profile, profile, found, passed as come_to, pass, passes}

-- ---- the profile

module _ {S : Type 0} (ask : Handler S) (normal : Direction) (step : Float) (c : SourcePixel) where
  -- what is left of the profile after k samples
  abbrev pub Sampled : S → S → ℕ → List Float → Type 0
  Sampled first now k out = Leads ask (profile normal step c) first (sample_profile normal step c (7 - k) k (take k out)) now

  pub begun : (s : S) (out : List Float) → Sampled s s 0 out
  begun s out = start ask _ s

  rest : ℕ → List Float → Float → SampleTree (Option (List Float))
  rest k out v = sample_profile normal step c (7 - (k + 1)) (suc k) (take k out ++ v ∷ [])

  module _ {k : ℕ} (out : List Float) {first now after : S} {r : Option Float} {q : SourcePixel} (few : k < 7) (before : Sampled first now k out)
      (at : q ≡ offset_along normal step c (float k ⊖ f3)) (ran : Runs ask (one_sample q) r now after) where
    turn : Leads ask (profile normal step c) first (one_sample q >>= on_some (rest k out)) now
    unfolding sample_profile rest
    turn = rw at (subst (λ (n : ℕ). Leads ask (profile normal step c) first (sample_profile normal step c n k (take k out)) now) (one_less 7 k few) before)

    -- the next sample is in
    pub went_on : {v : Float} → length out ≡ 7 → r ≡ Some v → Sampled first after (k + 1) (set out k v)
    unfolding rest
    went_on {v} len is =
        let grown : take (k + 1) (set out k v) ≡ take k out ++ v ∷ [] = ap (λ (n : ℕ). take n (set out k v)) (add-one k) ∙ take-suc-set out k v (omega arith) in
        subst (λ (g : List Float). Leads ask (profile normal step c) first (sample_profile normal step c (7 - (k + 1)) (k + 1) g) after) (sym grown)
        (subst (λ (n : ℕ). Leads ask (profile normal step c) first (sample_profile normal step c (7 - (k + 1)) n (take k out ++ v ∷ [])) after) (sym (add-one k))
        (steps.found ask (one_sample q) (rest k out) turn ran is))

    -- it was rejected
    pub broke_off : r ≡ None → Runs ask (profile normal step c) None first after
    broke_off none = found_none ask (one_sample q) (rest k out) turn ran none

  -- all seven are in
  pub ended : {k : ℕ} (out : List Float) {first now : S} → 7 ≤ k → length out ≡ 7 → Sampled first now k out → Runs ask (profile normal step c) (Some out) first now
  unfolding sample_profile
  ended {k} out over len before =
      let none : 7 - k ≡ 0 = omega arith in
      let whole : take k out ≡ out = take_all k out (omega arith) in
      end ask (rw (none, whole) at before)

-- ---- the passes

module _ {S : Type 0} (ask : Handler S) (settings : Settings) (ray : Ray) (first : EdgePoint) where
  abbrev whole : SampleTree (Option EdgePoint)
  whole = passes settings ray 3 first []

  -- what is left after n passes
  abbrev pub Passed : S → S → ℕ → EdgePoint → List Float → Type 0
  Passed begin now n q xs = Leads ask (passes settings ray 3 first []) begin (passes settings ray (3 - n) q (take n xs)) now

  pub none_yet : (s : S) (xs : List Float) → Passed s s 0 first xs
  none_yet s xs = start ask _ s

  -- what follows the pass n
  onward : ℕ → List Float → EdgePoint → SampleTree (Option EdgePoint)
  onward n xs q = passes settings ray (3 - (n + 1)) q (take n xs ++ projection ray.normal q.pos ∷ [])

  -- what the peak of a profile comes to
  at_peak : SourcePixel → List Float → SampleTree (Option EdgePoint)
  at_peak c samples = done (come_to settings ray c samples)

  module _ {n : ℕ} (q : EdgePoint) (xs : List Float) {begin now : S} (few : n < 3) (before : Passed begin now n q xs) where
    one_left : Leads ask whole begin (pass settings ray q.pos >>= on_some (onward n xs)) now
    unfolding passes onward
    one_left = subst (λ (k : ℕ). Leads ask whole begin (passes settings ray k q (take n xs)) now) (one_less 3 n few) before

    -- a sample was rejected
    pub pass_broke : {after : S} → Runs ask (profile ray.normal ray.step q.pos) None now after → Runs ask whole None begin after
    unfolding at_peak
    pass_broke ran = found_none ask (pass settings ray q.pos) (onward n xs) one_left (found_none ask (profile ray.normal ray.step q.pos) (at_peak q.pos) (start ask _ now) ran refl) refl

    module _ {after : S} (samples : List Float) (ran : Runs ask (profile ray.normal ray.step q.pos) (Some samples) now after) {z : Option Peak}
        (is : z ≡ peak settings ray.inverted ray.inward_differs samples) where
      passed : Runs ask (pass settings ray q.pos) (found ray.normal ray.step q.pos z) now after
      unfolding at_peak
      passed = rw is (end ask (steps.found ask (profile ray.normal ray.step q.pos) (at_peak q.pos) (start ask _ now) ran refl))

      -- the profile has no peak
      pub no-peak : z ≡ None → Runs ask whole None begin after
      no-peak h = found_none ask (pass settings ray q.pos) (onward n xs) one_left passed (ap (found ray.normal ray.step q.pos) h)

      -- the pass has found a point, and its projection is in
      pub pass-done : {p : Peak} {c : SourcePixel} {x : Float} → length xs ≡ 3 → z ≡ Some p → c ≡ offset_along ray.normal ray.step q.pos p.offset → x ≡ projection ray.normal c
          → Passed begin after (n + 1) (edge_point c p.weight) (set xs n x)
      unfolding onward
      pass-done {p} {c} {x} len h hc hx =
          let point : found ray.normal ray.step q.pos z ≡ Some (edge_point c p.weight) = ap (found ray.normal ray.step q.pos) h ∙ ap (λ (y : SourcePixel). Some (edge_point y p.weight)) (sym hc) in
          let grown : take (n + 1) (set xs n x) ≡ take n xs ++ projection ray.normal c ∷ [] =
          ap (λ (k : ℕ). take k (set xs n x)) (add-one n) ∙ take-suc-set xs n x (omega arith) ∙ ap (λ (y : Float). take n xs ++ y ∷ []) hx in
          subst (λ (g : List Float). Leads ask whole begin (passes settings ray (3 - (n + 1)) (edge_point c p.weight) g) after) (sym grown)
          (steps.found ask (pass settings ray q.pos) (onward n xs) one_left passed point)

  -- all three are done
  pub all-passed : {n : ℕ} (q : EdgePoint) (xs : List Float) {begin now : S} {r : Option EdgePoint} → 3 ≤ n → length xs ≡ 3 → Passed begin now n q xs
      → r ≡ aitken ray.normal ray.step q xs → Runs ask whole r begin now
  unfolding passes
  all-passed {n} q xs over len before is =
      let none : 3 - n ≡ 0 = omega arith in
      let all : take n xs ≡ xs = take_all n xs (omega arith) in
      rw is (end ask (rw (none, all) at before))
