-- A job card run by the marking call: what it returns, and what it leaves in the sheet and the copy
-- that it is lent. Definitions only, to be believed.
use Rattle.std.specs.Prelude.{◌≡◌, ℕ, List, Err}
use Rattle.prelude.specs.Prelude.{when◌then◌else◌}
use Rattle.number.specs.declared.Refusal.TheVariants.{Card}
use Rattle.corners.specs.Corners.{Answer}
use Rattle.marking.specs.Marking.{refine_marking, sheet_after, copy_after}
use Rattle.job_card.specs.JobCard.{well_formed}
use Rattle.job.specs.Job.{request_of, modules_of, photograph_of}

-- ---- a card that is lent the sheet s and the copy c: malformed it is refused and writes nothing, else it ends as its job does

module _ (card s c : List ℕ) where
  abbrev pub job_marking : Answer
  job_marking = when well_formed card then refine_marking (request_of card) (modules_of card) (photograph_of card) s c else Err Card

  -- the sheet after it
  abbrev pub job_sheet : List ℕ
  job_sheet = when well_formed card then sheet_after (request_of card) (modules_of card) (photograph_of card) s c else s

  -- the copy after it
  abbrev pub job_copy : List ℕ
  job_copy = when well_formed card then copy_after (request_of card) (modules_of card) (photograph_of card) s c else c

-- What the call promises: it returns a, and takes the sheet from s to s' and the copy from c to c'.
pub record JobMarks (card : List ℕ) (a : Answer) (s s' c c' : List ℕ) : Type 0 where
  pub answer : a ≡ job_marking card s c
  pub sheet : s' ≡ job_sheet card s c
  pub copy : c' ≡ job_copy card s c
