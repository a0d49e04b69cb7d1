-- What a function promises that is lent a sampler. Definitions only, to be believed; the laws are in
-- proofs/Samplers.
use Rattle.std.specs.Prelude.{◌≡◌, Float, Option}
use Rattle.pixel.specs.declared.SourcePixel.{SourcePixel}
use Rattle.photograph.specs.Photographs.{photo_of}
use Rattle.footprint.specs.Footprints.{point_footprint}
use Rattle.sampling.specs.Marks.{buffers, ReadsSample}
use Rattle.sample_tree.specs.Meters.{increment}
use Rattle.sample_tree.specs.SampleTree.{SampleTree}
use Rattle.sample_tree.specs.Run.{Handler, State, state, sampler, Runs}
use Rattle.sample_tree.specs.declared.Sampler.{Sampler}

-- how it takes a sample
abbrev pub sampler_of : Sampler → Handler State
sampler_of s = sampler s.scene (photo_of s.photograph)

-- what it has come to
abbrev pub state_of : Sampler → State
state_of s = state s.sheet.now s.copy.now s.meter

-- A function that is lent the sampler `before`, and leaves it as `after`, has run the step t, which ended in a. The
-- sampler still has the same photograph, scene, sheet and copy.
pub record Samples {A : Type 0} (before after : Sampler) (t : SampleTree A) (a : A) : Type 0 where
  pub photograph : after.photograph ≡ before.photograph
  pub scene : after.scene ≡ before.scene
  pub sheet : after.sheet.ghost_name ≡ before.sheet.ghost_name
  pub copy : after.copy.ghost_name ≡ before.copy.ghost_name
  pub runs : Runs (sampler_of before) t a (state_of before) (state_of after)

-- It takes a sample at a place of the photograph, or at none, which shows r.
pub record SampledAt (before after : Sampler) (at : Option SourcePixel) (r : Option Float) : Type 0 where
  pub photograph : after.photograph ≡ before.photograph
  pub scene : after.scene ≡ before.scene
  pub sheet : after.sheet.ghost_name ≡ before.sheet.ghost_name
  pub copy : after.copy.ghost_name ≡ before.copy.ghost_name
  pub reads : ReadsSample (photo_of before.photograph) before.scene.width (point_footprint before.scene.width before.scene.height at) r
      (buffers before.sheet.now before.copy.now) (buffers after.sheet.now after.copy.now)
  pub counted : after.meter ≡ increment before.meter
