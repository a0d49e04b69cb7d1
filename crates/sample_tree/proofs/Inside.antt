-- Every pixel that a step reads lies in the picture: each of its samples reads only such pixels. By induction on the tree. Assumes nothing.
use Rattle.prelude.proofs.Lists.{Each, each_append}
use Rattle.photograph.specs.Photographs.{Photo}
use Rattle.footprint.specs.declared.Scene.{Scene}
use Rattle.footprint.specs.Footprints.{scene_footprint}
use Rattle.sampling.specs.Sampling.{pixels_read, interpolate}
use Rattle.photograph.proofs.Pixels.{Inside}
use Rattle.photograph.proofs.Photographs.{Sized}
use Rattle.sampling.proofs.Inside.{scene_inside}
use Rattle.sample_tree.specs.SampleTree.{SampleTree, done, sample, reads}

pub reads-inside : {A : Type 0} (e : Scene) → Sized e.width e.height → (p : Photo) (t : SampleTree A) → Each (Inside e.width e.height) (reads e p t)
unfolding reads
reads-inside e size p (done a) = tt
reads-inside e size p (sample q k) =
    each_append (Inside e.width e.height) (pixels_read (scene_footprint e q)) (reads e p (k (interpolate p (scene_footprint e q))))
    (scene_inside e size q)
    (reads-inside e size p (k (interpolate p (scene_footprint e q))))
