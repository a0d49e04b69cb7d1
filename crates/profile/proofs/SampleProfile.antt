-- A turn of the loop over the samples of a profile, as a step of the tree that is left: the next sample is in, or it was rejected, or all seven are in.
-- Each follows from the same law of every handler. Assumes nothing.
use mathlib.Core.Path.{◌≡◌, sym, ap, ◌∙◌}
use Prim.Native.Nat.{ℕ, ◌+◌, ◌-◌, ◌<◌}
use native.Mathlib.Omega.{arith}
use mathlib.Core.List.{List}
use Rattle.std.specs.Prelude.{Option, None, Some}
use lib.ListN.{length, take, set}
use lib.Ieee.{Float}
use Rattle.ieee.specs.Floats.{◌⊖◌, float, f3}
use Rattle.pixel.specs.declared.SourcePixel.{SourcePixel}
use Rattle.pixel.specs.declared.Direction.{Direction}
use Rattle.footprint.specs.declared.Scene.{Scene}
use Rattle.footprint.specs.Footprints.{carried_through}
use Rattle.sample_tree.specs.SampleTree.{one_sample}
use Rattle.sample_tree.specs.declared.Sampler.{Sampler}
use Rattle.sample_tree.specs.Samplers.{sampler_of, Samples, SampledAt}
use Rattle.sample_tree.proofs.Samplers.{Left, start, sampled, lifted, lifted_end, lifted_here}
use Rattle.profile.specs.Profile.{sample_profile, profile, offset_along}
use Rattle.profile.proofs.AnyHandler as handler

module _ (normal : Direction) (step : Float) (c : SourcePixel) where
  -- what is left of the profile after k samples
  abbrev pub Sampled : Sampler → Sampler → ℕ → List Float → Type 0
  Sampled first now k out = Left first now (profile normal step c) (sample_profile normal step c (7 - k) k (take k out))

  pub none_sampled : {s : Sampler} (out : List Float) → Sampled s s 0 out
  none_sampled out = start

  module _ {k : ℕ} (out : List Float) {first now after : Sampler} {r : Option Float} {q : SourcePixel} {at : Option SourcePixel} (l : k < 7) (before : Sampled first now k out)
      (place_is : q ≡ offset_along normal step c (float k ⊖ f3)) (carried_is : at ≡ carried_through first.scene.view q) (ran : SampledAt now after at r) where
    shown : Samples now after (one_sample q) r
    shown = sampled q (carried_is ∙ ap (λ (e : Scene). carried_through e.view q) (sym before.scene)) ran

    -- the next sample is in
    pub one_sampled : {v : Float} → length out ≡ 7 → r ≡ Some v → Sampled first after (k + 1) (set out k v)
    one_sampled len found_one = lifted before shown (λ b h. handler.went_on (sampler_of first) normal step c out l b place_is h len found_one)

    -- it was rejected
    pub sample-rejected : r ≡ None → Samples first after (profile normal step c) None
    sample-rejected none = lifted_end before shown (λ b h. handler.broke_off (sampler_of first) normal step c out l b place_is h none)

  -- all seven are in
  pub all_sampled : {k : ℕ} (out : List Float) {first now : Sampler} → k ≡ 7 → length out ≡ 7 → Sampled first now k out → Samples first now (profile normal step c) (Some out)
  all_sampled out {first} seven len before = lifted_here before (λ b. handler.ended (sampler_of first) normal step c out (omega arith) len b)
