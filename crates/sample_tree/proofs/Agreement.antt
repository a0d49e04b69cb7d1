-- The agreement theorem, `alike`: two photographs that agree on every pixel which a step reads over the first cannot be told apart by the step. Over the
-- second it ends in the same, reads the same pixels in the same order, and takes the same number of samples.
-- Why: where a sample falls depends on no photograph, and it shows nothing but the pixels that it reads. So the first sample shows the same over both, the
-- step goes on the same way, and so on: by induction on the tree. Assumes nothing.
use mathlib.Core.Path.{◌≡◌, refl, ap, ◌∙◌}
use Prim.Native.Nat.{suc}
use mathlib.Core.List.{List, ◌++◌}
use Rattle.prelude.proofs.Lists.{Each, each_both}
use Rattle.photograph.specs.Photographs.{Photo, Pixel}
use Rattle.footprint.specs.declared.Scene.{Scene}
use Rattle.std.specs.Prelude.{Option}
use lib.Ieee.{Float}
use Rattle.footprint.specs.Footprints.{scene_footprint}
use Rattle.sampling.specs.Sampling.{pixels_read, interpolate}
use Rattle.sampling.proofs.Interpolation.{Same, interpolate_same}
use Rattle.sample_tree.specs.SampleTree.{SampleTree, done, sample, value, reads, sample_count}

-- over q the step runs as it does over p
pub record Alike {A : Type 0} (e : Scene) (p q : Photo) (t : SampleTree A) : Type 0 where
  pub ends : value e q t ≡ value e p t
  pub reading : reads e q t ≡ reads e p t
  pub count : sample_count e q t ≡ sample_count e p t

module _ (e : Scene) (p q : Photo) where
  pub alike : {A : Type 0} (t : SampleTree A) → Each (Same p q) (reads e p t) → Alike e p q t
  unfolding value reads sample_count
  alike (done a) h = record { ends = refl; reading = refl; count = refl }
  alike (sample c k) h =
      let at = scene_footprint e c in
      let both = each_both (Same p q) (pixels_read at) (reads e p (k (interpolate p at))) h in
      let same : interpolate q at ≡ interpolate p at = interpolate_same p q at both.0 in
      let rest = alike (k (interpolate p at)) both.1 in
      record {
        ends = ap (λ (z : Option Float). value e q (k z)) same ∙ rest.ends;
        reading = ap (λ (z : Option Float). pixels_read at ++ reads e q (k z)) same ∙ ap (λ (r : List Pixel). pixels_read at ++ r) rest.reading;
        count = ap (λ (z : Option Float). suc (sample_count e q (k z))) same ∙ ap suc rest.count;
      }
