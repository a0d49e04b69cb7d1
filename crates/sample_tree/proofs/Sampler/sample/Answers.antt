-- `Sampler::sample` meets its contract: what the sample shows and marks, and the count, are what its callees ensure. Assumes nothing.
use mathlib.Core.Path.{refl}
use Rattle.sample_tree.proofs.Sampler.sample.Goals as goal

pub returns : goal.returns
returns c = record {
  photograph = refl;
  scene = refl;
  sheet = refl;
  copy = refl;
  reads = c.sample_at-shown.ensures;
  counted = c.incremented-self.ensures;
}
