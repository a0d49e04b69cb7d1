-- What a job answers is read back from its result card, bit for bit: from the card itself, and from the buffer that a run leaves. Every answer of a
-- job has counts below 256 and corners that are binary64 values (proofs/Answers), and such a card is read back. Assumes nothing.
use Prim.Native.Nat.{ℕ, ◌≤◌}
use mathlib.Core.Bool.{Bool, true, false}
use mathlib.Core.Path.{◌≡◌, ap}
use mathlib.Core.List.{List, [], ◌++◌, append-nil}
use native.Mathlib.Omega.{arith}
use lib.ListN.{length, take, drop}
use lib.Dec.{leb}
use Rattle.std.specs.Prelude.{Ok, Err}
use Rattle.std.specs.Result.{result_unwrap_or}
use Rattle.prelude.specs.Prelude.{when◌then◌else◌}
use Rattle.prelude.proofs.Results.{err_not-ok}
use Rattle.number.specs.declared.Refusal.TheVariants.{Card}
use Rattle.corners.specs.declared.RefinedCorners.{RefinedCorners}
use Rattle.corners.specs.Corners.{Answer, nothing_refined}
use Rattle.result_card.specs.declared.form.Form.TheVariants.{Older, Newer}
use Rattle.result_card.specs.ResultCard.{card_size, result_card, read_result}
use Rattle.result_card.specs.Convert.{narrow_answer, narrowed}
use Rattle.result_card.proofs.Converters.{answer_narrows}
use Rattle.result_card.proofs.RoundTrip.{all_room, read_back}
use Rattle.cards.specs.Run.{job_answer, ended, run_end, written, run_leaves}
use Rattle.cards.proofs.Answers.{job-sound}

-- what a job answers; of a refusal zeros
abbrev pub refined_of : List ℕ → RefinedCorners
refined_of card = result_unwrap_or (job_answer card) nothing_refined

job-back : (card tail : List ℕ) → read_result Newer (result_card Newer (refined_of card) ++ tail) ≡ refined_of card
job-back card tail =
    let sound = job-sound card in
    let r = refined_of card in
    read_back Newer r tail sound.corners (all_room Newer 255 r.edge_stats (omega arith) sound.stats) sound.flags

-- from a buffer that an answer's card was written to
from_buffer : (a : Answer) (out : List ℕ) (room : Bool)
    → ((tail : List ℕ) → read_result Newer (result_card Newer (result_unwrap_or a nothing_refined) ++ tail) ≡ result_unwrap_or a nothing_refined)
    → (when room then ended a else Err Card) ≡ Ok tt → Ok (read_result Newer (when room then written a out else out)) ≡ a
from_buffer (Ok r) out true back h = ap Ok (back (drop (card_size Newer) out))
from_buffer (Err refusal) out true back h = absurd (err_not-ok h)
from_buffer a out false back h = absurd (err_not-ok h)

-- ---- the theorems

-- from the card
pub answer-reads-back : (card : List ℕ) → read_result Newer (result_card Newer (refined_of card)) ≡ refined_of card
answer-reads-back card = rw append-nil at (job-back card [])

-- from the buffer that a run with an answer leaves
pub buffer-reads-back : (card out : List ℕ) → run_end card out ≡ Ok tt → Ok (read_result Newer (run_leaves card out)) ≡ job_answer card
buffer-reads-back card out answered = from_buffer (job_answer card) out (leb (card_size Newer) (length out)) (job-back card) answered

-- an answer's card can be narrowed, since a job has at most 255 probes an edge, and that is its card in the older form
pub job-narrows : (card out : List ℕ) → card_size Older ≤ length out
    → (narrow_answer (result_card Newer (refined_of card)) out ≡ Ok tt)
    × (take (card_size Older) (narrowed (result_card Newer (refined_of card)) out) ≡ result_card Older (refined_of card))
job-narrows card out room =
    let sound = job-sound card in
    answer_narrows (refined_of card) out sound.corners.four sound.stats sound.flags room
