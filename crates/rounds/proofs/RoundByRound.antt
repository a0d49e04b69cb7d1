-- The rounds one after another, as steps of the tree that is left: a round ran, and then it ends the rounds, by a weak refusal or by another one,
-- or the next one follows. Each follows from the same law of every handler. Assumes nothing.
use mathlib.Core.Path.{◌≡◌}
use mathlib.Core.Bool.{true, false}
use Prim.Native.Nat.{ℕ, ◌+◌, ◌-◌, ◌<◌, ◌≤◌}
use Rattle.std.specs.Prelude.{List, Ok, Err}
use Rattle.number.specs.declared.Refusal.{Refusal}
use Rattle.pixel.specs.declared.SourcePixel.{SourcePixel}
use Rattle.sample_tree.specs.declared.Sampler.{Sampler}
use Rattle.sample_tree.specs.Samplers.{sampler_of, Samples}
use Rattle.sample_tree.proofs.Samplers.{Left, start, ended, lifted, lifted_end, lifted_here}
use Rattle.probe.specs.declared.Plan.{Plan}
use Rattle.corners.specs.declared.RefinedCorners.{RefinedCorners}
use Rattle.corners.specs.Corners.{Answer}
use Rattle.round.specs.Round.{round}
use Rattle.rounds.specs.Rounds.{is_weak, remaining_rounds, rounds}
use Rattle.rounds.proofs.AnyHandler as handler

module _ (plan : Plan) (ms : List ℕ) where
  -- ---- the rounds after the first

  module _ (first : RefinedCorners) where
    -- what is left after k rounds
    abbrev pub AfterRounds : Sampler → ℕ → RefinedCorners → Sampler → Type 0
    AfterRounds begun k best now =
        Left begun now (remaining_rounds plan ms (plan.settings.rounds - 1) first) (remaining_rounds plan ms (plan.settings.rounds - k) best)

    module _ {begun now : Sampler} {k : ℕ} (best : RefinedCorners) where
      -- round k + 1 ran
      module _ {after : Sampler} {r : Answer} (few : k < plan.settings.rounds) (before : AfterRounds begun k best now)
          (ran : Samples now after (round plan ms best.corners) r) where
        pub next_round : {better : RefinedCorners} → r ≡ Ok better → AfterRounds begun (k + 1) better after
        next_round ok = lifted before ran (λ l h. handler.next_round (sampler_of begun) plan ms first best few l h ok)

        pub weak_round : {e : Refusal} → r ≡ Err e → is_weak e ≡ true → Samples begun after (remaining_rounds plan ms (plan.settings.rounds - 1) first) (Ok best)
        weak_round err weak = lifted_end before ran (λ l h. handler.weak_round (sampler_of begun) plan ms first best few l h err weak)

        pub round_stops : {e : Refusal} → r ≡ Err e → is_weak e ≡ false → Samples begun after (remaining_rounds plan ms (plan.settings.rounds - 1) first) (Err e)
        round_stops err other = lifted_end before ran (λ l h. handler.round_stops (sampler_of begun) plan ms first best few l h err other)

      pub all-ran : plan.settings.rounds ≤ k → AfterRounds begun k best now → Samples begun now (remaining_rounds plan ms (plan.settings.rounds - 1) first) (Ok best)
      all-ran over before = lifted_here before (λ l. handler.all-ran (sampler_of begun) plan ms first best over l)

  -- ---- all rounds

  module _ (q : List SourcePixel) {begun after : Sampler} {r : Answer} (ran : Samples begun after (round plan ms q) r) where
    pub first_stops : {e : Refusal} → r ≡ Err e → Samples begun after (rounds plan ms q) (Err e)
    first_stops err = lifted_end start ran (λ _ h. handler.first_stops (sampler_of begun) plan ms q h err)

    pub rounds-ran : {first : RefinedCorners} {last : Answer} {ended-as : Sampler} → r ≡ Ok first
        → Samples after ended-as (remaining_rounds plan ms (plan.settings.rounds - 1) first) last → Samples begun ended-as (rounds plan ms q) last
    rounds-ran ok more = ended (lifted start ran (λ _ h. handler.first_ran (sampler_of begun) plan ms q h ok)) more
