-- How the promise of a function that is lent a sampler follows its code: a sample is taken or a callee runs a bound step, and what is left of the tree goes on
-- to its end, or stops where a step ended in nothing or in an error. A proof of such a function uses these laws alone, and never looks at pixels, sheets or counts.
-- `lifted` and its like say of the sampler what holds of every handler. Assumes nothing.
use mathlib.Core.Path.{◌≡◌, refl, ap, ◌∙◌, subst}
use Rattle.std.specs.Prelude.{Option, None, Some}
use Rattle.std.specs.Prelude.{Result, Ok, Err}
use lib.Ieee.{Float}
use Rattle.pixel.specs.declared.SourcePixel.{SourcePixel}
use Rattle.photograph.specs.Photographs.{photo, photo_of}
use Rattle.footprint.specs.declared.Footprint.{Footprint}
use Rattle.footprint.specs.Footprints.{point_footprint, carried_through}
use Rattle.footprint.proofs.Carried.{carried_seen}
use Rattle.sampling.specs.Marks.{buffers, ReadsSample}
use Rattle.sample_tree.specs.SampleTree.{SampleTree, done, one_sample, value, ◌>>=◌}
use Rattle.sample_tree.specs.Options.{on_some}
use Rattle.sample_tree.specs.Results.{on_ok}
use Rattle.sample_tree.specs.Run.{Handler, State, Runs}
use Rattle.sample_tree.specs.declared.Sampler.{Sampler}
use Rattle.sample_tree.specs.Samplers.{sampler_of, state_of, Samples, SampledAt}
use Rattle.sample_tree.proofs.Meaning.{ran-value}
use Rattle.sample_tree.proofs.Steps as steps
use Rattle.sample_tree.proofs.Steps.{Leads}

-- With the sampler as it was at `first`, t was begun; as it is at `now`, what is left of t is u.
pub record Left {A : Type 0} (first now : Sampler) (t u : SampleTree A) : Type 0 where
  pub photograph : now.photograph ≡ first.photograph
  pub scene : now.scene ≡ first.scene
  pub sheet : now.sheet.ghost_name ≡ first.sheet.ghost_name
  pub copy : now.copy.ghost_name ≡ first.copy.ghost_name
  pub leads : Leads (sampler_of first) t (state_of first) u (state_of now)

-- it samples as it did
same_sampler : (first now : Sampler) → now.photograph ≡ first.photograph → now.scene ≡ first.scene → sampler_of now ≡ sampler_of first
same_sampler first now hp hs = rw (hp, hs) refl

-- nothing is run yet
pub start : {A : Type 0} {s : Sampler} {t : SampleTree A} → Left s s t t
start = record { photograph = refl; scene = refl; sheet = refl; copy = refl; leads = steps.start _ _ _ }

-- ---- a law of every handler, said of the sampler: it samples as it did, and still has the same photograph, scene, sheet and copy

-- of what is left, with no call
module _ {A : Type 0} {first now : Sampler} {t v : SampleTree A} (left : Left first now t v) where
  pub lifted_here : {a : A} → (Leads (sampler_of first) t (state_of first) v (state_of now) → Runs (sampler_of first) t a (state_of first) (state_of now)) → Samples first now t a
  lifted_here law = record { photograph = left.photograph; scene = left.scene; sheet = left.sheet; copy = left.copy; runs = law left.leads }

-- the end
pub end : {A : Type 0} {first now : Sampler} {t : SampleTree A} {a : A} → Left first now t (done a) → Samples first now t a
end left = lifted_here left (λ l. steps.end _ l)

-- of what is left and of a call, after which t goes on, or ends
module _ {A B : Type 0} {first now after : Sampler} {t v : SampleTree A} {u : SampleTree B} {r : B} (left : Left first now t v) (ran : Samples now after u r) where
  pub lifted : {w : SampleTree A}
      → (Leads (sampler_of first) t (state_of first) v (state_of now) → Runs (sampler_of first) u r (state_of now) (state_of after) → Leads (sampler_of first) t (state_of first) w (state_of after))
      → Left first after t w
  lifted law = record {
    photograph = ran.photograph ∙ left.photograph;
    scene = ran.scene ∙ left.scene;
    sheet = ran.sheet ∙ left.sheet;
    copy = ran.copy ∙ left.copy;
    leads = law left.leads
        (subst (λ (ask : Handler State). Runs ask u r (state_of now) (state_of after)) (same_sampler first now left.photograph left.scene) ran.runs);
  }

  pub lifted_end : {a : A}
      → (Leads (sampler_of first) t (state_of first) v (state_of now) → Runs (sampler_of first) u r (state_of now) (state_of after) → Runs (sampler_of first) t a (state_of first) (state_of after))
      → Samples first after t a
  lifted_end law = end (lifted (λ l h. steps.at_end _ (law l h)))

-- ---- the laws of Steps, so said

module _ {A : Type 0} {first now : Sampler} {t : SampleTree A} {after : Sampler} where
  -- a call ran all that is left
  pub ended : {u : SampleTree A} {a : A} → Left first now t u → Samples now after u a → Samples first after t a
  ended left ran = lifted_end left ran (λ l h. steps.ended _ l h)

  -- a call ran a first step
  pub called : {B : Type 0} {r : B} (u : SampleTree B) (f : B → SampleTree A) → Left first now t (u >>= f) → Samples now after u r → Left first after t (f r)
  called u f left ran = lifted left ran (λ l h. steps.then _ l (steps.called _ u f h))

-- a sample at the place that the camera's steps carry q to is one at q
pub sampled : {before after : Sampler} (q : SourcePixel) {at : Option SourcePixel} {r : Option Float} → at ≡ carried_through before.scene.view q → SampledAt before after at r
    → Samples before after (one_sample q) r
sampled {before} {after} q {at} {r} is ran = record {
  photograph = ran.photograph;
  scene = ran.scene;
  sheet = ran.sheet;
  copy = ran.copy;
  runs = steps.shown before.scene (photo_of before.photograph) q
      (subst (λ (f : Footprint). ReadsSample (photo_of before.photograph) before.scene.width f r (buffers before.sheet.now before.copy.now) (buffers after.sheet.now after.copy.now))
      (ap (point_footprint before.scene.width before.scene.height) is ∙ carried_seen before.scene.width before.scene.height before.scene.view q) ran.reads) ran.counted;
}

-- a first step that found something, and one that found nothing
module _ {A B : Type 0} {first now after : Sampler} {t : SampleTree (Option A)} {r : Option B} (u : SampleTree (Option B)) (f : B → SampleTree (Option A))
    (left : Left first now t (u >>= on_some f)) (ran : Samples now after u r) where
  pub found : {b : B} → r ≡ Some b → Left first after t (f b)
  found is = lifted left ran (λ l h. steps.found _ u f l h is)

  pub found_none : r ≡ None → Samples first after t None
  found_none is = lifted_end left ran (λ l h. steps.found_none _ u f l h is)

-- a first step that ended well, and one that ended in an error
module _ {A B E : Type 0} {first now after : Sampler} {t : SampleTree (Result A E)} {r : Result B E} (u : SampleTree (Result B E)) (f : B → SampleTree (Result A E))
    (left : Left first now t (u >>= on_ok f)) (ran : Samples now after u r) where
  pub passed : {b : B} → r ≡ Ok b → Left first after t (f b)
  passed is = lifted left ran (λ l h. steps.passed _ u f l h is)

  pub failed : {e : E} → r ≡ Err e → Samples first after t (Err e)
  failed is = lifted_end left ran (λ l h. steps.failed _ u f l h is)

-- what it ends in is what the step is worth over the sampler's photograph
pub samples_value : {A : Type 0} {first now : Sampler} {t : SampleTree A} {a : A} → Samples first now t a
    → a ≡ value first.scene (photo first.photograph.bytes.now first.photograph.stride) t
samples_value h = ran-value _ _ h.runs
