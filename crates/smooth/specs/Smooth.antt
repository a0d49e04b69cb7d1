-- The mean of a scan's heights over a window, cut short at both ends and rounded down, and the two
-- calls over it. A height is a natural number, and each one of the result is worked out from the
-- scan as it was lent. Definitions only, to be believed; they hold for every list and every window.
use Rattle.std.specs.Prelude.{ℕ, ◌+◌, ◌-◌, ◌/◌, ◌%◌, Bool, ◌&&◌, leb, eqb, List, [], ◌∷◌, ◌++◌, length, drop, Result}
use Rattle.std.specs.List.{sum, between}
use Rattle.std.specs.Result.{is_ok}
use Rattle.prelude.specs.Prelude.{when◌then◌else◌, table}
use Rattle.prelude.specs.Checks.{check, first}
use Rattle.number.specs.declared.Refusal.{Refusal}
use Rattle.number.specs.declared.Refusal.TheVariants as refusal

-- ---- the mean

-- the records from i - reach to i + reach that the scan has
abbrev pub window : ℕ → ℕ → List ℕ → List ℕ
window reach i scan = between (i - reach) (i + reach + 1) scan

abbrev pub mean : List ℕ → ℕ
mean heights = sum heights / length heights

-- every record, over the window around it
abbrev pub smoothed : ℕ → List ℕ → List ℕ
smoothed reach scan = table (length scan) (λ i. mean (window reach i scan))

-- ---- the calls

-- odd, from 3 to 31
abbrev pub is_window : ℕ → Bool
is_window w = leb 3 w && leb w 31 && eqb (w % 2) 1

-- over the scan itself: a wrong window leaves it as it was
abbrev pub over_answer : ℕ → Result (Unit {0}) Refusal
over_answer w = first (check refusal.Window (is_window w) ∷ [])

abbrev pub smoothed_over : ℕ → List ℕ → List ℕ
smoothed_over w scan = when is_ok (over_answer w) then smoothed (w / 2) scan else scan

-- to a second buffer: a wrong window, then too little room, leave it as it was; records behind the
-- scan's are left too
abbrev pub to_answer : ℕ → List ℕ → List ℕ → Result (Unit {0}) Refusal
to_answer w scan out = first (check refusal.Window (is_window w) ∷ check refusal.Room (leb (length scan) (length out)) ∷ [])

abbrev pub smoothed_to : ℕ → List ℕ → List ℕ → List ℕ
smoothed_to w scan out = when is_ok (to_answer w scan out) then smoothed (w / 2) scan ++ drop (length scan) out else out
