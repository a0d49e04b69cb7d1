-- What every answer of a job is like, refused or not: it is sound (rounds/proofs/Answers) with counts below 256. Assumes nothing.
use mathlib.Core.Path.{refl}
use Prim.Native.Nat.{ℕ}
use native.Mathlib.Omega.{arith}
use mathlib.Core.List.{List}
use Rattle.number.specs.declared.Refusal.TheVariants.{Card}
use Rattle.prelude.proofs.Branches.{either}
use Rattle.round.proofs.Answers.{Sound, refused-sound}
use Rattle.refine.proofs.Answers.{refine-sound}
use Rattle.job_card.specs.JobCard.{well_formed}
use Rattle.job.specs.Job.{request_of, modules_of, photograph_of}
use Rattle.cards.specs.Run.{job_answer}

pub job-sound : (card : List ℕ) → Sound 255 (job_answer card)
job-sound card =
    either (Sound 255) (well_formed card)
    (refine-sound 255 (request_of card) (modules_of card) (photograph_of card) (omega arith) refl)
    (refused-sound 255 Card)
