-- refine.rs, where the three passes of an edge point tend: their projections on the normal, Aitken's
-- step, and the third point moved by it (398 to 415). Definitions only, to be believed.
use Rattle.std.specs.Prelude.{not, ◌||◌, List, get_or, Float, Option, Some, None}
use Rattle.std.specs.Float.{nan}
use Rattle.prelude.specs.Prelude.{when◌then◌else◌}
use Rattle.ieee.specs.Parts.{is_finite, magnitude}
use Rattle.ieee.specs.Floats.{◌⊕◌, ◌⊖◌, ◌⊗◌, ◌⊘◌, ◌≺◌, f2, f1e_minus6}
use Rattle.pixel.specs.Pixels.{source, edge_point}
use Rattle.pixel.specs.declared.SourcePixel.{SourcePixel}
use Rattle.pixel.specs.declared.Direction.{Direction}
use Rattle.pixel.specs.declared.EdgePoint.{EdgePoint}
use Rattle.aitken.specs.declared.Extrapolated.{Extrapolated}
use Rattle.aitken.specs.declared.Extrapolated.TheVariants.{Converged, Shifted, Diverged}

-- Aitken: how far from the third of three projections they tend
abbrev pub extrapolate : Float → Float → Float → Float → Extrapolated
extrapolate step x0 x1 x2 =
    let denom = x2 ⊖ f2 ⊗ x1 ⊕ x0 in
    let correction = (x2 ⊖ x1) ⊗ (x2 ⊖ x1) ⊘ denom in
    when magnitude denom ≺ f1e_minus6 then Converged else
    when not (is_finite correction) || (step ≺ magnitude correction) then Diverged else
    Shifted ((x2 ⊖ correction) ⊖ x2)

abbrev pub projection : Direction → SourcePixel → Float
projection normal p = p.0 ⊗ normal.x ⊕ p.1 ⊗ normal.y

abbrev pub moved : Direction → EdgePoint → Extrapolated → Option EdgePoint
moved normal p Converged = Some p
moved normal p Diverged = None
moved normal p (Shifted along) = Some (edge_point (source (p.pos.0 ⊕ normal.x ⊗ along) (p.pos.1 ⊕ normal.y ⊗ along)) p.weight)

-- the third point, moved to where the three projections tend
abbrev pub aitken : Direction → Float → EdgePoint → List Float → Option EdgePoint
aitken normal step p xs = moved normal p (extrapolate step (get_or xs 0 nan) (get_or xs 1 nan) (get_or xs 2 nan))
