-- line.rs, `intersect_lines` (132 to 145): a line, and the crossing of two lines. Definitions only,
-- to be believed.
use Rattle.std.specs.Prelude.{not, ◌||◌, Option, Some, None, ok_or, Result}
use Rattle.prelude.specs.Prelude.{when◌then◌else◌}
use Rattle.number.specs.declared.Refusal.{Refusal}
use Rattle.number.specs.declared.Refusal.TheVariants as refusal
use Rattle.ieee.specs.Parts.{is_finite, magnitude}
use Rattle.ieee.specs.Floats.{◌⊕◌, ◌⊖◌, ◌⊗◌, ◌⊘◌, ◌≺◌, f1e_minus9}
use Rattle.pixel.specs.Pixels.{source}
use Rattle.pixel.specs.declared.SourcePixel.{SourcePixel}
use Rattle.pixel.specs.declared.Direction.{Direction}
use Rattle.line.specs.declared.Line2.{Line2}

abbrev pub line : SourcePixel → Direction → Line2
line c d = record { centroid = c; dir = d }

-- ---- `intersect_lines`: the crossing, as a place on the first line

abbrev pub crossing : Line2 → Line2 → Option SourcePixel
crossing a b =
    let cross = a.dir.x ⊗ b.dir.y ⊖ a.dir.y ⊗ b.dir.x in
    let dx = b.centroid.0 ⊖ a.centroid.0 in
    let dy = b.centroid.1 ⊖ a.centroid.1 in
    let distance = (dx ⊗ b.dir.y ⊖ dy ⊗ b.dir.x) ⊘ cross in
    when not (is_finite cross) || magnitude cross ≺ f1e_minus9 then None else
    Some (source (a.centroid.0 ⊕ distance ⊗ a.dir.x) (a.centroid.1 ⊕ distance ⊗ a.dir.y))

-- ---- what the call returns

abbrev pub cross_answer : Option SourcePixel → Result SourcePixel Refusal
cross_answer place = ok_or place refusal.Parallel
