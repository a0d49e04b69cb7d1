-- A step of the refinement looks at the photograph, and where it looks next depends on what it saw.
-- `SampleTree A` is such a step that ends in an A: a tree that asks for samples, one after another.
-- No photograph stands in it. Over a photograph it has a value, it reads pixels, and it takes a
-- number of samples. Definitions only, to be believed; what holds of every tree is in proofs/.
use Rattle.std.specs.Prelude.{ℕ, suc, List, [], ◌++◌, Float, Option}
use Rattle.pixel.specs.declared.SourcePixel.{SourcePixel}
use Rattle.photograph.specs.Photographs.{Photo, Pixel}
use Rattle.footprint.specs.declared.Scene.{Scene}
use Rattle.footprint.specs.Footprints.{scene_footprint}
use Rattle.sampling.specs.Sampling.{pixels_read, interpolate}

pub data SampleTree (A : Type 0) : Type 0 where
  done : A → SampleTree A
  sample : SourcePixel → (Option Float → SampleTree A) → SampleTree A

-- one step, and then another that depends on what the first ended in
infixl 20 ◌>>=◌
unfoldable pub ◌>>=◌ : {A B : Type 0} → SampleTree A → (A → SampleTree B) → SampleTree B
done a >>= f = f a
sample q k >>= f = sample q (λ r. k r >>= f)

-- one sample
abbrev pub one_sample : SourcePixel → SampleTree (Option Float)
one_sample q = sample q (λ s. done s)

-- ---- over a photograph

module _ (e : Scene) (p : Photo) where
  -- what it ends in
  unfoldable pub value : {A : Type 0} → SampleTree A → A
  value (done a) = a
  value (sample q k) = value (k (interpolate p (scene_footprint e q)))

  -- the pixels that its samples read, in order, up to where it ends
  unfoldable pub reads : {A : Type 0} → SampleTree A → List Pixel
  reads (done a) = []
  reads (sample q k) = pixels_read (scene_footprint e q) ++ reads (k (interpolate p (scene_footprint e q)))

  -- how many samples it takes, rejected ones included
  unfoldable pub sample_count : {A : Type 0} → SampleTree A → ℕ
  sample_count (done a) = 0
  sample_count (sample q k) = suc (sample_count (k (interpolate p (scene_footprint e q))))
