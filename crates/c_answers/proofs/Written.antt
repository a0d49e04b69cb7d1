-- What is written of an answer, carried over to an equal one, and what is written of it by its number. Assumes nothing.
use mathlib.Core.Path.{◌≡◌, subst}
use Prim.Native.Nat.{ℕ}
use mathlib.Core.List.{List}
use lib.Ieee.{Float}
use Rattle.corners.specs.declared.NumberedAnswer.{NumberedAnswer}
use Rattle.corners.specs.Corners.{Answer, numbered}
use Rattle.c_answers.specs.Answers.{Written, WrittenNumbered}

pub written_as : {a b : Answer} {n : ℕ} {ps ps' : List Float} {ns ns' : List ℕ} → a ≡ b → Written a n ps ps' ns ns' → Written b n ps ps' ns ns'
written_as {n = n} {ps = ps} {ps' = ps'} {ns = ns} {ns' = ns'} e w = subst (λ (x : Answer). Written x n ps ps' ns ns') e w

pub written_numbered : {a : Answer} {b : NumberedAnswer} {n : ℕ} {ps ps' : List Float} {ns ns' : List ℕ} → b ≡ numbered a → WrittenNumbered b n ps ps' ns ns' → Written a n ps ps' ns ns'
written_numbered e w =
    let same = rw e at w in
    record { number = same.number; places = same.places; counts = same.counts }
