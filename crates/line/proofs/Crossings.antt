-- Where two lines cross, if they do, has coordinates that are binary64 values: each is a sum. Assumes nothing.
use mathlib.Core.Bool.{not, ◌||◌}
use lib.Ieee.{binary64}
use lib.Ieee.Fits.{add-fits}
use Rattle.std.specs.Prelude.{Option, IfSome}
use Rattle.ieee.specs.Floats.{◌≺◌, ◌⊖◌, ◌⊗◌, ◌⊘◌, f1e_minus9}
use Rattle.ieee.specs.Parts.{is_finite, magnitude}
use Rattle.prelude.proofs.Branches.{either}
use Rattle.pixel.specs.declared.SourcePixel.{SourcePixel}
use Rattle.pixel.proofs.Values.{Fits}
use Rattle.line.specs.declared.Line2.{Line2}
use Rattle.line.specs.Line.{crossing}

pub crossing-fits : (a b : Line2) → IfSome (crossing a b) Fits
crossing-fits a b =
    let cross = a.dir.x ⊗ b.dir.y ⊖ a.dir.y ⊗ b.dir.x in
    let dx = b.centroid.0 ⊖ a.centroid.0 in
    let dy = b.centroid.1 ⊖ a.centroid.1 in
    let distance = (dx ⊗ b.dir.y ⊖ dy ⊗ b.dir.x) ⊘ cross in
    either (λ (c : Option SourcePixel). IfSome c Fits) (not (is_finite cross) || magnitude cross ≺ f1e_minus9) tt
    (record { x = add-fits binary64 a.centroid.0 (distance ⊗ a.dir.x); y = add-fits binary64 a.centroid.1 (distance ⊗ a.dir.y) })
