-- What a marking call leaves and writes, carried over to an equal request. Assumes nothing.
use mathlib.Core.Path.{◌≡◌, subst}
use Prim.Native.Nat.{ℕ}
use mathlib.Core.List.{List}
use lib.Ieee.{Float}
use Rattle.corners.specs.Corners.{Answer}
use Rattle.request.specs.declared.Request.{Request}
use Rattle.request.specs.Requests.{Photograph}
use Rattle.marking.specs.Marking.{Marks}
use Rattle.c_answers.specs.Answers.{Written}
use Rattle.c_answers.proofs.Written.{written_as}
use Rattle.c_marking.specs.Calls.{WrittenMarked}

-- what a marking call leaves, with its answer written, is what is promised of an equal request
pub marked-as : {q r : Request} {ms : List ℕ} {f : Photograph} {a : Answer} {n : ℕ} {ps ps' : List Float} {ns ns' s s' c c' : List ℕ}
    → q ≡ r → Marks q ms f a s s' c c' → Written a n ps ps' ns ns' → WrittenMarked r ms f n ps ps' ns ns' s s' c c'
marked-as {ms = ms} {f = f} {n = n} {ps = ps} {ps' = ps'} {ns = ns} {ns' = ns'} {s = s} {s' = s'} {c = c} {c' = c'} e m w =
    subst (λ (r : Request). WrittenMarked r ms f n ps ps' ns ns' s s' c c') e record { answer = written_as m.answer w; sheet = m.sheet; copy = m.copy }
