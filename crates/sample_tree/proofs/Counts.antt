-- The count of samples: as long as 64 bits hold it the count is a sum. By induction on how many are counted.
-- Assumes nothing.
use mathlib.Core.Path.{◌≡◌, refl, ap}
use mathlib.Core.Bool.{Bool, true, false}
use Prim.Native.Nat.{ℕ, zero, suc, ◌+◌, ◌≤◌, ◌<◌, min}
use native.Mathlib.Omega.{arith}
use lib.Dec.{ltb}
use borrow.Author.Tests.{lt-ltb, ltb-true, ltb-false}
use Rattle.prelude.specs.Prelude.{when◌then◌else◌}
use Rattle.sample_tree.specs.declared.Meter.{Meter}
use Rattle.sample_tree.specs.Meters.{increment, increment_by}

pub tick_below : (m : Meter) → m.tried < 18446744073709551615 → (increment m).tried ≡ m.tried + 1
tick_below m h = rw (lt-ltb m.tried 18446744073709551615 h, increment)

-- a count that 64 bits hold is the number of samples
pub ticks_count : (n : ℕ) (m : Meter) → m.tried + n ≤ 18446744073709551615 → (increment_by n m).tried ≡ m.tried + n
unfolding increment_by
ticks_count zero m h = omega arith
ticks_count (suc n) m h =
    let one : (increment m).tried ≡ m.tried + 1 = tick_below m (omega arith) in
    let rest : (increment_by n (increment m)).tried ≡ (increment m).tried + n = ticks_count n (increment m) (omega arith) in
    omega (arith, one, rest)

-- a sum that stops at the highest number is one more sample
pub ticked : (m : Meter) {n : ℕ} → m.tried ≤ 18446744073709551615 → n ≡ min (m.tried + 1) 18446744073709551615 → record { tried = n } ≡ increment m
ticked m {n} l e = go (ltb m.tried 18446744073709551615) refl
  where
    go : (b : Bool) → ltb m.tried 18446744073709551615 ≡ b → record { tried = n } ≡ (when b then record { tried = m.tried + 1 } else m)
    go true h =
        let below = ltb-true m.tried 18446744073709551615 h in
        let sum : n ≡ m.tried + 1 = omega (arith, e, below) in
        ap (λ (k : ℕ). record { tried = k }) sum
    go false h =
        let highest = ltb-false m.tried 18446744073709551615 h in
        let same : n ≡ m.tried = omega (arith, e, highest, l) in
        ap (λ (k : ℕ). record { tried = k }) same
