-- Ordered checks: each has the refusal that it answers with where it fails, and the first that fails
-- decides. Entry checks and leaf calls are lists of these. Definitions only, to be believed;
-- `all_pass` is what the laws in proofs/Checks say of such a list.
use Rattle.std.specs.Prelude.{Bool, true, ◌&&◌, List, [], ◌∷◌, Result, Ok, Err}
use Rattle.prelude.specs.Prelude.{when◌then◌else◌}

pub record Check (Refusal : Type 0) : Type 0 where
  pub refusal : Refusal
  pub passes : Bool

abbrev pub check : {Refusal : Type 0} → Refusal → Bool → Check Refusal
check r b = record { refusal = r; passes = b }

-- what the checks come to: the refusal of the first that fails, and nothing where none does
abbrev pub first : {Refusal : Type 0} → List (Check Refusal) → Result (Unit {0}) Refusal
first [] = Ok tt
first (c ∷ cs) = when c.passes then first cs else Err c.refusal

abbrev pub all_pass : {Refusal : Type 0} → List (Check Refusal) → Bool
all_pass [] = true
all_pass (c ∷ cs) = c.passes && all_pass cs
