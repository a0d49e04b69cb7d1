-- The marking calls for C and Rust: what they write. Definitions only, to be believed.
use Rattle.std.specs.Prelude.{ℕ, ◌≡◌, List, Float}
use Rattle.request.specs.declared.Request.{Request}
use Rattle.request.specs.Requests.{Photograph}
use Rattle.marking.specs.Marking.{refine_marking, sheet_after, copy_after}
use Rattle.c_answers.specs.Answers.{Written}

-- A marking call writes its answer as every refinement call, and takes the sheet from s to s' and the copy from c to c', also where places or counts are too short for the answer.
pub record WrittenMarked (r : Request) (ms : List ℕ) (f : Photograph) (n : ℕ) (ps ps' : List Float) (ns ns' s s' c c' : List ℕ) : Type 0 where
  pub answer : Written (refine_marking r ms f s c) n ps ps' ns ns'
  pub sheet : s' ≡ sheet_after r ms f s c
  pub copy : c' ≡ copy_after r ms f s c
