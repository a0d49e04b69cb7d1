-- What holds of a smoothed scan, for readers. Each height of it is the mean of a window of the scan as it was lent, whichever call made it, so that none
-- depends on a neighbour that is smoothed already; and both calls give the same list. Assumes nothing.
use mathlib.Core.Bool.{true}
use mathlib.Core.List.{List}
use mathlib.Core.Path.{◌≡◌, sym, ap, ◌∙◌}
use Prim.Native.Nat.{ℕ, ◌+◌, ◌-◌, ◌/◌, ◌<◌, ◌≤◌}
use native.Mathlib.Omega.{arith}
use lib.ListN.{length, get_or, drop}
use borrow.Author.Tests.{le-leb}
use Rattle.std.proofs.lemmas.List.{append-nil, drop_all, get_or-append_right, get_or-drop, get_or_append_left}
use Rattle.prelude.proofs.Tables.{get_or-table, length-table}
use Rattle.smooth.specs.Smooth.{mean, window, is_window, smoothed, smoothed_to, smoothed_over}

-- ---- the definition

pub length_smoothed : (reach : ℕ) (scan : List ℕ) → length (smoothed reach scan) ≡ length scan
length_smoothed reach scan = length-table (length scan) (λ i. mean (window reach i scan))

pub smoothed_at : (reach i : ℕ) (scan : List ℕ) → i < length scan → get_or (smoothed reach scan) i 0 ≡ mean (window reach i scan)
smoothed_at reach i scan inside = get_or-table (length scan) (λ k. mean (window reach k scan)) i 0 inside

-- two scans that are the same in the window around i have the same smoothed height there
pub same_window-same_height : (reach i : ℕ) (scan other : List ℕ) → i < length scan → i < length other → window reach i scan ≡ window reach i other
    → get_or (smoothed reach scan) i 0 ≡ get_or (smoothed reach other) i 0
same_window-same_height reach i scan other inside within same = smoothed_at reach i scan inside ∙ ap mean same ∙ sym (smoothed_at reach i other within)

-- ---- the calls, where the window is odd and from 3 to 31

module _ (w : ℕ) (scan : List ℕ) (good : is_window w ≡ true) where
  -- over the scan itself, each height is the mean of a window of the scan as it was before the call
  pub over_at : (i : ℕ) → i < length scan → get_or (smoothed_over w scan) i 0 ≡ mean (window (w / 2) i scan)
  over_at i inside = rw good (smoothed_at (w / 2) i scan inside)

  -- and to a second buffer, however long, whose records behind the scan's are as they were
  pub to_at : (out : List ℕ) (i : ℕ) → length scan ≤ length out → i < length scan → get_or (smoothed_to w scan out) i 0 ≡ mean (window (w / 2) i scan)
  to_at out i room inside =
      let some : i < length (smoothed (w / 2) scan) = omega (arith, length_smoothed (w / 2) scan) in
      rw (good, le-leb (length scan) (length out) room, get_or_append_left (smoothed (w / 2) scan) (drop (length scan) out) 0 i some)
      (smoothed_at (w / 2) i scan inside)

  pub to_behind : (out : List ℕ) (i : ℕ) → length scan ≤ length out → length scan ≤ i → get_or (smoothed_to w scan out) i 0 ≡ get_or out i 0
  to_behind out i room past =
      let place : length scan + (i - length scan) ≡ i = omega arith in
      rw (
        good,
        le-leb (length scan) (length out) room,
        get_or-append_right (smoothed (w / 2) scan) (drop (length scan) out) (length scan) i 0 (length_smoothed (w / 2) scan) past,
        get_or-drop (length scan) out (i - length scan) 0,
        place,
      )

  -- to a second buffer of the scan's length, and over the scan itself: the same list
  pub calls_agree : (out : List ℕ) → length out ≡ length scan → smoothed_to w scan out ≡ smoothed_over w scan
  calls_agree out same =
      rw (good, le-leb (length scan) (length out) (omega arith), drop_all (length scan) out (omega arith), append-nil (smoothed (w / 2) scan))
