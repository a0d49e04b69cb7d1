-- How far a walk over a scan has come. Internal: only what the functions inside ask and promise, so that
-- nobody need believe it.
use Rattle.std.specs.Prelude.{◌≡◌, ℕ, ◌+◌, ◌-◌, ◌%◌, ◌≤◌, ◌<◌, List, ◌++◌, length, get_or, take, drop, replicate}
use Rattle.std.specs.List.{sum}
use Rattle.smooth.specs.Smooth.{smoothed}
use Rattle.smooth.specs.declared.Walk.{Walk}

-- what stands so many places before the first height is 0
unfoldable pub behind : List ℕ → ℕ → ℕ
behind l j = get_or (replicate 16 0 ++ l) j 0

-- the first i records of a scan are smoothed, and the rest are those before; the sum is that of the
-- window of record i without its last record; of the heights that were written over the last 16 are
-- kept, each at its place's remainder
pub record Slides (reach : ℕ) (before : List ℕ) (i : ℕ) (scan kept : List ℕ) (total : ℕ) : Type 0 where
  pub small : (k : ℕ) → get_or before k 0 ≤ 65535
  pub so_far : scan ≡ take i (smoothed reach before) ++ drop i before
  pub sums : total + sum (take (i - reach) before) ≡ sum (take (i + reach) before)
  pub room : length kept ≡ 16
  pub keeps : (j : ℕ) → i ≤ j → j < i + 16 → get_or kept (j % 16) 0 ≡ behind before j

-- some scan was walked over to i
abbrev pub Walked : ℕ → ℕ → List ℕ → Walk → Type 0
Walked reach i scan w = (before : List ℕ) × Slides reach before i scan w.kept w.total

-- whichever scan was walked over to i is then walked over to j
abbrev pub Walks : ℕ → ℕ → List ℕ → Walk → ℕ → List ℕ → Walk → Type 0
Walks reach i scan w j scan' w' = (before : List ℕ) → Slides reach before i scan w.kept w.total → Slides reach before j scan' w'.kept w'.total
