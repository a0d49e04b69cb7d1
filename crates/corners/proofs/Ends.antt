-- A round ends by its edges, or by what refuses them. Assumes nothing.
use mathlib.Core.Path.{◌≡◌, refl, sym, ap}
use mathlib.Core.List.{List}
use Rattle.std.specs.Prelude.{Result, Ok, Err}
use Rattle.prelude.proofs.Results.{err_not-ok, ok_not-err, ok_of, err_of}
use Rattle.pixel.specs.declared.SourcePixel.{SourcePixel}
use Rattle.edges.specs.declared.Edges.{Edges}
use Rattle.corners.specs.Corners.{Answer, round_end, round_ended}

pub ended_where-ok : {R : Type 0} (q : List SourcePixel) (es : Result Edges R) {a : Answer} → round_ended q es ≡ Ok a
    → (edges : Edges) × (es ≡ Ok edges) × (a ≡ round_end q edges)
ended_where-ok q (Ok edges) h = (edges, refl, sym (ok_of h))
ended_where-ok q (Err r) h = absurd (err_not-ok h)

pub refused_where-err : {R : Type 0} (q : List SourcePixel) (es : Result Edges R) {r : R} → round_ended q es ≡ Err r → es ≡ Err r
refused_where-err q (Ok edges) h = absurd (ok_not-err h)
refused_where-err q (Err r) h = ap Err (err_of h)
