-- `fisheye::distances` meets its contract: the distances are the roots of the squares. Assumes nothing.
use mathlib.Core.Path.{ap, ◌∙◌}
use lib.Ieee.{binary64}
use Rattle.ieee_root.specs.Root.{root}
use Rattle.camera.proofs.fisheye.distances.Goals as goal

pub returns : goal.returns
returns c = λ i p d h. c.roots.ensures i d d h ∙ ap (root binary64) (c.squares.ensures i p d h)
