-- What every answer of the rounds is like: what a round's answer is, since each starts from the corners of such an answer. Assumes nothing.
use Prim.Native.Nat.{ℕ, zero, suc, ◌-◌, ◌≤◌}
use Rattle.std.specs.Prelude.{List, Ok, Err}
use Rattle.prelude.proofs.Branches.{either}
use Rattle.prelude.proofs.Lists.{Four}
use Rattle.pixel.specs.declared.SourcePixel.{SourcePixel}
use Rattle.pixel.proofs.Values.{Fits}
use Rattle.sample_tree.specs.SampleTree.{SampleTree}
use Rattle.sample_tree.specs.Results.{on_ok}
use Rattle.sample_tree.proofs.Always.{Always, ends, always_bind}
use Rattle.probes.proofs.Counts.{probe_limit}
use Rattle.probe.specs.declared.Plan.{Plan}
use Rattle.corners.specs.declared.RefinedCorners.{RefinedCorners}
use Rattle.corners.specs.Corners.{Answer}
use Rattle.round.proofs.Answers.{Sound, round-sound}
use Rattle.rounds.specs.Rounds.{is_weak, go_on, remaining_rounds, rounds}

-- behind a round
module _ (n : ℕ) (further : RefinedCorners → SampleTree Answer) (sound : (r : RefinedCorners) → Sound n (Ok r) → Always (Sound n) (further r)) where
  go_on-sound : (best : RefinedCorners) → Sound n (Ok best) → (a : Answer) → Sound n a → Always (Sound n) (go_on further best a)
  go_on-sound best h (Ok better) k = sound better k
  go_on-sound best h (Err e) k = ends (either (Sound n) (is_weak e) h k)

  on-ok-sound : (a : Answer) → Sound n a → Always (Sound n) (on_ok further a)
  on-ok-sound (Ok first) k = sound first k
  on-ok-sound (Err e) k = ends k

module _ (n : ℕ) (p : Plan) (ms : List ℕ) (limit : probe_limit p.settings ≤ n) where
  further-sound : (k : ℕ) (best : RefinedCorners) → Sound n (Ok best) → Always (Sound n) (remaining_rounds p ms k best)
  unfolding remaining_rounds
  further-sound zero best h = ends h
  further-sound (suc k) best h =
      always_bind (round-sound n p ms limit best.corners h.corners)
      (go_on-sound n (remaining_rounds p ms k) (further-sound k) best h)

  pub rounds-sound : (q : List SourcePixel) → Four Fits q → Always (Sound n) (rounds p ms q)
  unfolding rounds
  rounds-sound q h =
      always_bind (round-sound n p ms limit q h)
      (on-ok-sound n (remaining_rounds p ms (p.settings.rounds - 1)) (further-sound (p.settings.rounds - 1)))
