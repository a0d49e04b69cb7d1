-- A pass of an edge point, as a step of the tree that is left: a sample was rejected, or the profile has no peak, or the pass has found a point, or
-- all three are done. Each follows from the same law of every handler. Assumes nothing.
use mathlib.Core.Path.{◌≡◌}
use Prim.Native.Nat.{ℕ, ◌+◌, ◌-◌, ◌<◌}
use native.Mathlib.Omega.{arith}
use mathlib.Core.List.{List, []}
use Rattle.std.specs.Prelude.{Option, None, Some}
use lib.ListN.{length, take, set}
use lib.Ieee.{Float}
use Rattle.consts.specs.declared.Settings.{Settings}
use Rattle.pixel.specs.declared.SourcePixel.{SourcePixel}
use Rattle.pixel.specs.declared.EdgePoint.{EdgePoint}
use Rattle.pixel.specs.Pixels.{edge_point}
use Rattle.sample_tree.specs.SampleTree.{SampleTree}
use Rattle.sample_tree.specs.declared.Sampler.{Sampler}
use Rattle.sample_tree.specs.Samplers.{sampler_of, Samples}
use Rattle.sample_tree.proofs.Samplers.{Left, start, lifted, lifted_end, lifted_here}
use Rattle.peak.specs.declared.Peak.{Peak}
use Rattle.peak.specs.Peak.{peak}
use Rattle.aitken.specs.Aitken.{projection, aitken}
use Rattle.profile.specs.declared.Ray.{Ray}
use Rattle.profile.specs.Profile.{offset_along, profile, passes}
use Rattle.profile.proofs.AnyHandler as handler

module _ (settings : Settings) (ray : Ray) (first : EdgePoint) where
  abbrev whole : SampleTree (Option EdgePoint)
  whole = passes settings ray 3 first []

  -- what is left after n passes
  abbrev pub Passed : Sampler → Sampler → ℕ → EdgePoint → List Float → Type 0
  Passed start now n q xs = Left start now whole (passes settings ray (3 - n) q (take n xs))

  pub none_passed : {s : Sampler} (xs : List Float) → Passed s s 0 first xs
  none_passed xs = start

  module _ {n : ℕ} (q : EdgePoint) (xs : List Float) {begin now : Sampler} (l : n < 3) (before : Passed begin now n q xs) where
    -- a sample was rejected
    pub pass-rejected : {after : Sampler} → Samples now after (profile ray.normal ray.step q.pos) None → Samples begin after whole None
    pass-rejected ran = lifted_end before ran (λ b h. handler.pass_broke (sampler_of begin) settings ray first q xs l b h)

    module _ {after : Sampler} (samples : List Float) (ran : Samples now after (profile ray.normal ray.step q.pos) (Some samples)) {z : Option Peak}
        (is : z ≡ peak settings ray.inverted ray.inward_differs samples) where
      -- the profile has no peak
      pub no-peak : z ≡ None → Samples begin after whole None
      no-peak h = lifted_end before ran (λ b ran. handler.no-peak (sampler_of begin) settings ray first q xs l b samples ran is h)

      -- the pass has found a point, and its projection is in
      pub one_passed : {p : Peak} {c : SourcePixel} {x : Float} → length xs ≡ 3 → z ≡ Some p → c ≡ offset_along ray.normal ray.step q.pos p.offset → x ≡ projection ray.normal c
          → Passed begin after (n + 1) (edge_point c p.weight) (set xs n x)
      one_passed len h hc hx = lifted before ran (λ b ran. handler.pass-done (sampler_of begin) settings ray first q xs l b samples ran is len h hc hx)

  -- all three are done
  pub all_passed : {n : ℕ} (q : EdgePoint) (xs : List Float) {begin now : Sampler} {r : Option EdgePoint} → n ≡ 3 → length xs ≡ 3 → Passed begin now n q xs
      → r ≡ aitken ray.normal ray.step q xs → Samples begin now whole r
  all_passed q xs {begin} three len before is = lifted_here before (λ b. handler.all-passed (sampler_of begin) settings ray first q xs (omega arith) len b is)
