-- The rounds one after another over any handler of samples, as steps of the tree that is left: a round ran, and then it ends the rounds, by a weak refusal or by another
-- one, or the next one follows. Assumes nothing.
use mathlib.Core.Path.{◌≡◌}
use mathlib.Core.Bool.{true, false}
use Prim.Native.Nat.{ℕ, suc, ◌+◌, ◌-◌, ◌<◌, ◌≤◌}
use native.Mathlib.Omega.{arith}
use Rattle.std.specs.Prelude.{List, Ok, Err}
use Rattle.number.specs.declared.Refusal.{Refusal}
use Rattle.pixel.specs.declared.SourcePixel.{SourcePixel}
use Rattle.sample_tree.specs.Run.{Handler, Runs}
use Rattle.sample_tree.proofs.Steps.{Leads, start, then, called, end, ended, passed, failed}
use Rattle.probe.specs.declared.Plan.{Plan}
use Rattle.corners.specs.declared.RefinedCorners.{RefinedCorners}
use Rattle.corners.specs.Corners.{Answer}
use Rattle.round.specs.Round.{round}
use Rattle.rounds.specs.Rounds.{is_weak, go_on, remaining_rounds, rounds}

module _ {S : Type 0} (ask : Handler S) (plan : Plan) (ms : List ℕ) where
  -- ---- the rounds after the first

  module _ (first : RefinedCorners) where
    -- what is left after k rounds
    abbrev pub AfterRounds : S → ℕ → RefinedCorners → S → Type 0
    AfterRounds begun k best now =
        Leads ask (remaining_rounds plan ms (plan.settings.rounds - 1) first) begun (remaining_rounds plan ms (plan.settings.rounds - k) best) now

    pub first_only : (s : S) → AfterRounds s 1 first s
    first_only s = start ask _ s

    module _ {begun now : S} {k : ℕ} (best : RefinedCorners) where
      -- round k + 1 ran
      module _ {after : S} {r : Answer} (few : k < plan.settings.rounds) (before : AfterRounds begun k best now)
          (ran : Runs ask (round plan ms best.corners) r now after) where
        next : Leads ask (remaining_rounds plan ms (plan.settings.rounds - 1) first) begun (go_on (remaining_rounds plan ms (plan.settings.rounds - (k + 1))) best r) after
        unfolding remaining_rounds
        next =
            let one : plan.settings.rounds - k ≡ suc (plan.settings.rounds - (k + 1)) = omega arith in
            then ask (rw one at before) (called ask (round plan ms best.corners) (go_on (remaining_rounds plan ms (plan.settings.rounds - (k + 1))) best) ran)

        pub next_round : {better : RefinedCorners} → r ≡ Ok better → AfterRounds begun (k + 1) better after
        next_round ok = rw ok at next

        pub weak_round : {e : Refusal} → r ≡ Err e → is_weak e ≡ true → Runs ask (remaining_rounds plan ms (plan.settings.rounds - 1) first) (Ok best) begun after
        weak_round err weak = end ask (rw (err, weak) at next)

        pub round_stops : {e : Refusal} → r ≡ Err e → is_weak e ≡ false → Runs ask (remaining_rounds plan ms (plan.settings.rounds - 1) first) (Err e) begun after
        round_stops err other = end ask (rw (err, other) at next)

      pub all-ran : plan.settings.rounds ≤ k → AfterRounds begun k best now → Runs ask (remaining_rounds plan ms (plan.settings.rounds - 1) first) (Ok best) begun now
      unfolding remaining_rounds
      all-ran over before =
          let none : plan.settings.rounds - k ≡ 0 = omega arith in
          end ask (rw none at before)

  -- ---- all rounds

  module _ (q : List SourcePixel) {s s' : S} {r : Answer} (ran : Runs ask (round plan ms q) r s s') where
    pub first_stops : {e : Refusal} → r ≡ Err e → Runs ask (rounds plan ms q) (Err e) s s'
    unfolding rounds
    first_stops err = failed ask (round plan ms q) (remaining_rounds plan ms (plan.settings.rounds - 1)) (start ask _ s) ran err

    -- its corners go on
    pub first_ran : {first : RefinedCorners} → r ≡ Ok first → Leads ask (rounds plan ms q) s (remaining_rounds plan ms (plan.settings.rounds - 1) first) s'
    unfolding rounds
    first_ran ok = passed ask (round plan ms q) (remaining_rounds plan ms (plan.settings.rounds - 1)) (start ask _ s) ran ok

    pub rounds-ran : {first : RefinedCorners} {last : Answer} {s'' : S} → r ≡ Ok first
        → Runs ask (remaining_rounds plan ms (plan.settings.rounds - 1) first) last s' s'' → Runs ask (rounds plan ms q) last s s''
    rounds-ran ok more = ended ask (first_ran ok) more
