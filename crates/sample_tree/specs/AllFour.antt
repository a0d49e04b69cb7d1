-- A step under document 01's reading, in which every sample reads all four pixels: what it ends in,
-- and the pixels that its samples read. It is the yardstick of the theorems on pixels that bear no
-- weight, and no contract cites it. Definitions only, to be believed.
use Rattle.std.specs.Prelude.{List, [], ◌++◌}
use Rattle.pixel.specs.declared.SourcePixel.{SourcePixel}
use Rattle.photograph.specs.Photographs.{Photo, Pixel}
use Rattle.footprint.specs.declared.Footprint.{Footprint}
use Rattle.footprint.specs.declared.Scene.{Scene}
use Rattle.footprint.specs.AllFour.{all_four}
use Rattle.footprint.specs.Footprints.{scene_footprint}
use Rattle.sampling.specs.Sampling.{pixels_read, interpolate}
use Rattle.sample_tree.specs.SampleTree.{SampleTree, done, sample}

-- where a sample falls, with all four pixels
abbrev pub four_footprint : Scene → SourcePixel → Footprint
four_footprint e q = all_four e.width e.height (scene_footprint e q)

module _ (e : Scene) (p : Photo) where
  unfoldable pub value_of_four : {A : Type 0} → SampleTree A → A
  value_of_four (done a) = a
  value_of_four (sample q k) = value_of_four (k (interpolate p (four_footprint e q)))

  unfoldable pub reads_of_four : {A : Type 0} → SampleTree A → List Pixel
  reads_of_four (done a) = []
  reads_of_four (sample q k) = pixels_read (four_footprint e q) ++ reads_of_four (k (interpolate p (four_footprint e q)))
