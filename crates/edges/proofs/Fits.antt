-- What an edge that may be refused leaves of edges that are not: it is put in its place, or its refusal stands for them all. Assumes nothing.
use mathlib.Core.Path.{◌≡◌, refl, sym, ap}
use Prim.Native.Nat.{ℕ}
use Rattle.std.specs.Prelude.{Result, Ok, Err}
use Rattle.prelude.proofs.Results.{err_not-ok, ok_not-err, ok_of, err_of}
use Rattle.fit.specs.declared.EdgeFit.{EdgeFit}
use Rattle.edges.specs.declared.Edges.{Edges}
use Rattle.edges.specs.Edges.{with_edge, with_fit}

pub put_where-ok : {R : Type 0} (e : ℕ) (got : Edges) (f : Result EdgeFit R) {got' : Edges} → with_fit e (Ok got) f ≡ Ok got'
    → (fit : EdgeFit) × (f ≡ Ok fit) × (got' ≡ with_edge e got fit)
put_where-ok e got (Ok fit) h = (fit, refl, sym (ok_of h))
put_where-ok e got (Err r) h = absurd (err_not-ok h)

pub refused_where-err : {R : Type 0} (e : ℕ) (got : Edges) (f : Result EdgeFit R) {r : R} → with_fit e (Ok got) f ≡ Err r → f ≡ Err r
refused_where-err e got (Ok fit) h = absurd (ok_not-err h)
refused_where-err e got (Err r) h = ap Err (err_of h)
