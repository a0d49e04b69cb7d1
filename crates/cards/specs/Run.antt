-- A job card run: what it answers, and what it returns and leaves in a buffer that it is lent for the
-- result card. Definitions only, to be believed.
use Rattle.std.specs.Prelude.{ℕ, List, ◌++◌, leb, length, drop, Result, Ok, Err}
use Rattle.prelude.specs.Prelude.{when◌then◌else◌}
use Rattle.number.specs.declared.Refusal.{Refusal}
use Rattle.number.specs.declared.Refusal.TheVariants.{Card}
use Rattle.corners.specs.Corners.{Answer}
use Rattle.refine.specs.Refine.{refine}
use Rattle.job_card.specs.JobCard.{well_formed}
use Rattle.job.specs.Job.{request_of, modules_of, photograph_of}
use Rattle.result_card.specs.declared.form.Form.TheVariants.{Newer}
use Rattle.result_card.specs.ResultCard.{result_card, card_size}

-- malformed, and then the refinement's end
abbrev pub job_answer : List ℕ → Answer
job_answer card = when well_formed card then refine (request_of card) (modules_of card) (photograph_of card) else Err Card

-- ---- a job card run into a buffer: a buffer that is shorter than a result card (105 bytes) and a malformed job card are refused alike, by `Card`, then
-- the job's own end

abbrev pub ended : Answer → Result (Unit {0}) Refusal
ended (Ok r) = Ok tt
ended (Err refusal) = Err refusal

abbrev pub run_end : List ℕ → List ℕ → Result (Unit {0}) Refusal
run_end card out = when leb (card_size Newer) (length out) then ended (job_answer card) else Err Card

-- an answer's card at the front of a buffer; a refusal leaves it as it was
abbrev pub written : Answer → List ℕ → List ℕ
written (Ok r) out = result_card Newer r ++ drop (card_size Newer) out
written (Err refusal) out = out

-- the buffer after the call, where it was `out`
abbrev pub run_leaves : List ℕ → List ℕ → List ℕ
run_leaves card out = when leb (card_size Newer) (length out) then written (job_answer card) out else out
