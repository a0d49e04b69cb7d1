-- How far a walk has come that smooths a scan in its place: before it, one record further, and at its end. Assumes nothing.
use mathlib.Core.Path.{◌≡◌, refl, sym, ap, ◌∙◌}
use mathlib.Core.List.{List}
use Rattle.std.proofs.Common.{inl, inr, ◌≢◌}
use Prim.Native.Nat.{ℕ, ◌+◌, ◌-◌, ◌*◌, ◌/◌, ◌%◌, ◌<◌, ◌≤◌, min}
use native.Mathlib.Omega.{arith}
use native.Mathlib.Numerals.{unary_clauses}
use lib.ListN.{length, length-append, get_or, take, drop, set, replicate}
use Rattle.std.specs.List.{sum}
use Rattle.std.proofs.lemmas.Bool.{cases_lt}
use Rattle.std.proofs.lemmas.List.{append-nil, append_assoc, take_all, take_more, drop_all, drop_more, length-set, length-take, length-drop, length-take-le, set_at, get_or-set_same, get_or-set_other, get_or-drop, get_or-replicate, get_or-append_right}
use Rattle.smooth.specs.Smooth.{window, smoothed}
use Rattle.smooth.proofs.Smoothing.{length_smoothed, smoothed_at}
use Rattle.smooth.specs.Walks.{Slides, behind}
use Rattle.smooth.proofs.Windows.{sum_more, front_le, zero_behind, behind_at, behind_more, window_sum, window_length, window_most}

-- before the loop
zero_kept : (j : ℕ) → j < 16 → get_or {A = ℕ} (replicate 16 0) j 0 ≡ 0
zero_kept j h = get_or-replicate 16 j 0 0 h

pub slides_none : (reach : ℕ) (before : List ℕ) (total : ℕ) → ((k : ℕ) → get_or before k 0 ≤ 65535) → total ≡ sum (take reach before)
    → Slides reach before 0 before (replicate 16 0) total
slides_none reach before total small is =
    let none : 0 - reach ≡ 0 = omega arith in
    let first : 0 + reach ≡ reach = omega arith in
    record {
      small = small;
      so_far = refl;
      sums = rw (none, first) (omega arith);
      room = refl;
      keeps = λ j h k. zero_kept (j % 16) (omega arith) ∙ sym (zero_behind before j k);
    }

-- a scan keeps its length
pub slides_long : {reach : ℕ} {before : List ℕ} {i : ℕ} {scan kept : List ℕ} {total : ℕ} → Slides reach before i scan kept total → length scan ≡ length before
slides_long {reach} {before} {i} s =
    ap length s.so_far
    ∙ length-append (take i (smoothed reach before)) (drop i before)
    ∙ rw (length-take i (smoothed reach before), length-drop i before, length_smoothed reach before) (omega arith)

-- ---- one record further

module _ {reach : ℕ} {before : List ℕ} {i : ℕ} {scan kept : List ℕ} {total : ℕ} (few : reach ≤ 15) (inside : i < length before) (s : Slides reach before i scan kept total) where
  -- a record that is not smoothed yet
  ahead : (k : ℕ) → get_or scan (i + k) 0 ≡ get_or before (i + k) 0
  ahead k =
      let front : length (take i (smoothed reach before)) ≡ i = length-take-le i (smoothed reach before) (omega (arith, length_smoothed reach before)) in
      let place : i + k - i ≡ k = omega arith in
      rw (s.so_far, get_or-append_right (take i (smoothed reach before)) (drop i before) i (i + k) 0 front (omega arith), place, get_or-drop i before k 0)

  -- with the last record of its window the sum is that of the window
  pub entered : total + get_or scan (i + reach) 0 ≡ sum (window reach i before)
  entered = omega (arith, ahead reach, s.sums, sum_more before (i + reach), window_sum reach i before)

  pub entered_most : total + get_or scan (i + reach) 0 ≤ 65535 * (min (i + reach + 1) (length before) - (i - reach))
  entered_most = omega (arith, entered, window_most reach i before s.small, window_length reach i before)

  -- the height that is written over is kept
  abbrev pub kept_next : List ℕ
  kept_next = set kept (i % 16) (get_or scan i 0)

  keeps_next : (j : ℕ) → i + 1 ≤ j → j < i + 1 + 16 → get_or kept_next (j % 16) 0 ≡ behind before j
  keeps_next j from to =
      elim (cases_lt j (i + 16)) [
        | inl h ↦
            let apart : j % 16 ≢ i % 16 = omega arith in
            get_or-set_other kept (i % 16) (j % 16) (get_or scan i 0) 0 apart ∙ s.keeps j (omega arith) h
        | inr h ↦
            let last : j ≡ i + 16 = omega arith in
            let slot : (i + 16) % 16 ≡ i % 16 = omega arith in
            let here : get_or scan i 0 ≡ get_or before i 0 = simp unary_clauses at (ahead 0) in
            rw (last, slot, get_or-set_same kept (i % 16) (get_or scan i 0) 0 (omega (arith, s.room)), behind_at before i) here
      ]

  -- the height that leaves
  pub leaving : get_or kept_next ((i + 16 - reach) % 16) 0 ≡ behind before (i + 16 - reach)
  leaving = keeps_next (i + 16 - reach) (omega arith) (omega arith)

  -- it is within the sum
  pub leaving_fits : get_or kept_next ((i + 16 - reach) % 16) 0 ≤ total + get_or scan (i + reach) 0
  leaving_fits =
      let front : i + 1 - reach ≤ i + reach + 1 = omega arith in
      omega (arith, leaving, entered, window_sum reach i before, behind_more before reach i few, front_le before (i + 1 - reach) (i + reach + 1) front)

  mean_next : (v : ℕ) → v ≡ (total + get_or scan (i + reach) 0) / (min (i + reach + 1) (length before) - (i - reach)) → v ≡ get_or (smoothed reach before) i 0
  mean_next v is =
      is ∙ rw (entered, ← window_length reach i before) (sym (smoothed_at reach i before inside))

  pub slides_more : (v : ℕ) → v ≡ (total + get_or scan (i + reach) 0) / (min (i + reach + 1) (length before) - (i - reach))
      → Slides reach before (i + 1) (set scan i v) kept_next (total + get_or scan (i + reach) 0 - get_or kept_next ((i + 16 - reach) % 16) 0)
  slides_more v is =
      let places : i < length (smoothed reach before) = omega (arith, length_smoothed reach before) in
      let front : length (take i (smoothed reach before)) ≡ i = length-take-le i (smoothed reach before) (omega arith) in
      let end : i + 1 + reach ≡ i + reach + 1 = omega arith in
      record {
        small = s.small;
        so_far = rw (s.so_far, drop_more before i 0 inside, set_at (take i (smoothed reach before)) (get_or before i 0) (drop (i + 1) before) v i front)
            (rw (take_more (smoothed reach before) i 0 places, append_assoc (take i (smoothed reach before)), ← mean_next v is));
        sums = rw end (omega (arith, leaving, leaving_fits, entered, window_sum reach i before, behind_more before reach i few));
        room = length-set kept (i % 16) (get_or scan i 0) ∙ s.room;
        keeps = keeps_next;
      }

-- ---- at the end

pub slides_all : {reach : ℕ} {before scan kept : List ℕ} {total : ℕ} → Slides reach before (length before) scan kept total → scan ≡ smoothed reach before
slides_all {reach} {before} s =
    let long : length (smoothed reach before) ≤ length before = omega (arith, length_smoothed reach before) in
    s.so_far ∙ rw (take_all (length before) (smoothed reach before) long, drop_all (length before) before (omega arith), append-nil (smoothed reach before))
