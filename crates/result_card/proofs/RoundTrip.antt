-- A result card is read back, bit for bit, where its corners are binary64 values and its counts have room: below 256 in the older form, below 65,536 in
-- the newer one. Assumes nothing.
use Prim.Native.Nat.{ℕ, ◌+◌, ◌*◌, ◌/◌, ◌%◌, ◌^◌, ◌<◌}
use mathlib.Core.Bool.{Bool, true, false}
use mathlib.Core.Path.{◌≡◌, refl, ap, ◌∙◌}
use mathlib.Core.List.{List, [], ◌∷◌, ◌++◌, append_assoc}
use native.Mathlib.Omega.{arith}
use lib.Dec.{eqb}
use lib.Ieee.{binary64, of_bits}
use lib.ListN.{length, length-append}
use Rattle.std.proofs.lemmas.List.{get_or-append-add}
use Rattle.prelude.specs.Prelude.{bit}
use Rattle.prelude.proofs.Lists.{Each, Four, by-four, each_weaker}
use Rattle.pixel.specs.Pixels.{source}
use Rattle.pixel.specs.declared.SourcePixel.{SourcePixel}
use Rattle.pixel.proofs.Values.{Fits}
use Rattle.fit.specs.declared.EdgeStat.{EdgeStat}
use Rattle.fit.proofs.Counts.{Counted}
use Rattle.corners.specs.declared.RefinedCorners.{RefinedCorners}
use Rattle.corners.specs.Corners.{four}
use Rattle.fields.specs.Fields.{byte_at, number_at, bytes_of, float_bytes, field}
use Rattle.fields.proofs.Parts.{number_behind}
use Rattle.fields.proofs.RoundTrip.{float_back}
use Rattle.fields.proofs.Writes.{length-bytes}
use Rattle.result_card.specs.declared.form.Form.{Form}
use Rattle.result_card.specs.declared.form.Form.TheVariants.{Older, Newer}
use Rattle.result_card.specs.ResultCard.{tag, wide, stat_size, corner_bytes, stat_bytes, flag_bytes, result_card, stats_size, stats_at, flags_at, read_corner, stat_from, read_flag, read_result}
use Rattle.result_card.specs.Convert.{read_stats}
use Rattle.result_card.proofs.CardLayout.{long_corners, long_stats}
use Rattle.result_card.proofs.Cards.{length-field}

-- ---- counts that have room in a form

pub record Room (f : Form) (e : EdgeStat) : Type 0 where
  pub probed : e.points_probed < 256 ^ wide f
  pub fit : e.points_fit < 256 ^ wide f
  pub dropped : e.dropped_outliers < 256 ^ wide f

-- the counts of an answer have: no more points than probes
pub counted-room : (f : Form) (n : ℕ) (e : EdgeStat) → n < 256 ^ wide f → Counted n e → Room f e
counted-room f n e h c = record { probed = omega arith; fit = omega arith; dropped = omega arith }

pub all_room : (f : Form) (n : ℕ) (es : List EdgeStat) → n < 256 ^ wide f → Four (Counted n) es → Four (Room f) es
all_room f n es h stats = record { four = stats.four; each = each_weaker (Counted n) (Room f) es (λ e. counted-room f n e h) stats.each }

-- ---- what an answer is made of, as it is read: x, y, counts, flags

corner-back : (p : SourcePixel) → Fits p
    → source (of_bits binary64 (number_at 8 (float_bytes p.0 ++ []) 0)) (of_bits binary64 (number_at 8 (float_bytes p.1 ++ []) 0)) ≡ p
corner-back p h = rw (float_back p.0 h.x, float_back p.1 h.y)

flag_back : (b : Bool) → eqb (bit b) 1 ≡ b
flag_back true = refl
flag_back false = refl

-- from the front of its bytes
pub stat-back : (f : Form) (e : EdgeStat) (tail : List ℕ) → Room f e → stat_from f (stat_bytes f (e ∷ []) ++ tail) 0 ≡ e
unfolding number_at bytes_of
stat-back Older e tail h =
    let probed : e.points_probed % 256 + 256 * 0 ≡ e.points_probed = omega (arith, h.probed) in
    let fit : e.points_fit % 256 + 256 * 0 ≡ e.points_fit = omega (arith, h.fit) in
    let dropped : e.dropped_outliers % 256 + 256 * 0 ≡ e.dropped_outliers = omega (arith, h.dropped) in
    rw (probed, fit, dropped, flag_back e.valid)
stat-back Newer e tail h =
    let probed : e.points_probed % 256 + 256 * (e.points_probed / 256 % 256 + 256 * 0) ≡ e.points_probed = omega (arith, h.probed) in
    let fit : e.points_fit % 256 + 256 * (e.points_fit / 256 % 256 + 256 * 0) ≡ e.points_fit = omega (arith, h.fit) in
    let dropped : e.dropped_outliers % 256 + 256 * (e.dropped_outliers / 256 % 256 + 256 * 0) ≡ e.dropped_outliers = omega (arith, h.dropped) in
    rw (probed, fit, dropped, flag_back e.valid)

pub same_four : {A : Type 0} {a b c d a' b' c' d' : A} → a ≡ a' → b ≡ b' → c ≡ c' → d ≡ d' → (a ∷ b ∷ c ∷ d ∷ []) ≡ (a' ∷ b' ∷ c' ∷ d' ∷ [])
same_four p q r s = cc

stats_back : (f : Form) (es : List EdgeStat) (tail : List ℕ) → Four (Room f) es → four (λ i. stat_from f (stat_bytes f es ++ tail) (stat_size f * i)) ≡ es
unfolding number_at bytes_of
stats_back Older es tail h =
    by-four (λ es. Each (Room Older) es → four (λ i. stat_from Older (stat_bytes Older es ++ tail) (stat_size Older * i)) ≡ es)
    (λ k l m n r. same_four (stat-back Older k tail r.0) (stat-back Older l tail r.1.0) (stat-back Older m tail r.1.1.0) (stat-back Older n tail r.1.1.1.0))
    es h.four h.each
stats_back Newer es tail h =
    by-four (λ es. Each (Room Newer) es → four (λ i. stat_from Newer (stat_bytes Newer es ++ tail) (stat_size Newer * i)) ≡ es)
    (λ k l m n r. same_four (stat-back Newer k tail r.0) (stat-back Newer l tail r.1.0) (stat-back Newer m tail r.1.1.0) (stat-back Newer n tail r.1.1.1.0))
    es h.four h.each

-- ---- within a card

-- the counts of an edge do not depend on what stands before them
stat_behind : (f : Form) (front s : List ℕ) (i : ℕ) → stat_from f (front ++ s) (length front + i) ≡ stat_from f s i
stat_behind f front s i =
    let w = wide f in
    let one : length front + i + w ≡ length front + (i + w) = omega arith in
    let two : length front + i + 2 * w ≡ length front + (i + 2 * w) = omega arith in
    let three : length front + i + 3 * w ≡ length front + (i + 3 * w) = omega arith in
    rw (
      one,
      two,
      three,
      number_behind w front s i,
      number_behind w front s (i + w),
      number_behind w front s (i + 2 * w),
      get_or-append-add front s (i + 3 * w) 0,
    )

-- the counts of four edges, wherever their field is
pub stats_in : (f : Form) (front : List ℕ) (es : List EdgeStat) (back : List ℕ) → length front ≡ stats_at → Four (Room f) es
    → read_stats f (front ++ field (tag f) (stat_bytes f es) ++ back) ≡ es
stats_in f front es back long h =
    let head = tag f ∷ bytes_of 2 (length (stat_bytes f es)) in
    let s = stat_bytes f es in
    let each : (i : ℕ) → stat_from f (front ++ field (tag f) s ++ back) (stats_at + 3 + stat_size f * i) ≡ stat_from f (s ++ back) (stat_size f * i) = λ i.
    let at : stats_at + 3 + stat_size f * i ≡ length front + (3 + stat_size f * i) = omega (arith, long) in
    let behind : 3 + stat_size f * i ≡ length head + stat_size f * i = rw (length-bytes 2 (length s)) in
    rw (append_assoc front (field (tag f) s) back, at, stat_behind f front (field (tag f) s ++ back) (3 + stat_size f * i), append_assoc head s back, behind)
    (stat_behind f head (s ++ back) (stat_size f * i)) in
    same_four (each 0) (each 1) (each 2) (each 3) ∙ stats_back f es back h

-- the flags, behind all else
flags_in : (f : Form) (front : List ℕ) (fs : List Bool) (tail : List ℕ) → length front ≡ flags_at f → length fs ≡ 4
    → four (λ i. read_flag f (front ++ (field 18 (flag_bytes fs) ++ tail)) i) ≡ fs
unfolding bytes_of
flags_in f front fs tail long h =
    by-four (λ fs. four (λ i. read_flag f (front ++ (field 18 (flag_bytes fs) ++ tail)) i) ≡ fs)
    (λ w x y z.
    let s = field 18 (flag_bytes (w ∷ x ∷ y ∷ z ∷ [])) ++ tail in
    let there : (i : ℕ) → byte_at (front ++ s) (flags_at f + 3 + i) ≡ byte_at s (3 + i) = λ i.
    let at : flags_at f + 3 + i ≡ length front + (3 + i) = omega (arith, long) in
    rw (at, get_or-append-add front s (3 + i) 0) in
    same_four (rw (there 0) (flag_back w)) (rw (there 1) (flag_back x)) (rw (there 2) (flag_back y)) (rw (there 3) (flag_back z)))
    fs h

-- the corners, before all else
corners_in : (cs : List SourcePixel) (back : List ℕ) → Four Fits cs → four (λ i. read_corner (field 16 (corner_bytes cs) ++ back) i) ≡ cs
unfolding number_at bytes_of
corners_in cs back h =
    by-four (λ cs. Each Fits cs → four (λ i. read_corner (field 16 (corner_bytes cs) ++ back) i) ≡ cs)
    (λ a b c d fit. same_four (corner-back a fit.0) (corner-back b fit.1.0) (corner-back c fit.1.1.0) (corner-back d fit.1.1.1.0))
    cs h.four h.each

-- ---- the card

abbrev pub refined_of : List SourcePixel → List EdgeStat → List Bool → RefinedCorners
refined_of cs es fs = record { corners = cs; edge_stats = es; corner_refined = fs }

pub same_refined : {cs cs' : List SourcePixel} {es es' : List EdgeStat} {fs fs' : List Bool} → cs ≡ cs' → es ≡ es' → fs ≡ fs' → refined_of cs es fs ≡ refined_of cs' es' fs'
same_refined p q r = cc

-- from the front of a buffer, whatever stands behind it there
pub read_back : (f : Form) (r : RefinedCorners) (tail : List ℕ) → Four Fits r.corners → Four (Room f) r.edge_stats → length r.corner_refined ≡ 4
    → read_result f (result_card f r ++ tail) ≡ r
read_back f r tail corners stats flags =
    let a = field 16 (corner_bytes r.corners) in
    let b = field (tag f) (stat_bytes f r.edge_stats) in
    let c = field 18 (flag_bytes r.corner_refined) in
    let first : length a ≡ stats_at = length-field 16 (corner_bytes r.corners) ∙ ap (λ (n : ℕ). 3 + n) (long_corners f r corners.four stats.four flags) in
    let second : length b ≡ 3 + stats_size f = length-field (tag f) (stat_bytes f r.edge_stats) ∙ ap (λ (n : ℕ). 3 + n) (long_stats f r corners.four stats.four flags) in
    let before : length (a ++ b) ≡ flags_at f = length-append a b ∙ added first second in
    let parts : (a ++ b ++ c) ++ tail ≡ a ++ b ++ (c ++ tail) = append_assoc (a ++ b) c tail in
    let ahead : a ++ b ++ (c ++ tail) ≡ a ++ (b ++ (c ++ tail)) = append_assoc a b (c ++ tail) in
    rw parts
    (same_refined (rw ahead (corners_in r.corners (b ++ (c ++ tail)) corners)) (stats_in f a r.edge_stats (c ++ tail) first stats)
    (flags_in f (a ++ b) r.corner_refined tail before flags))
  where
    added : {m n : ℕ} → m ≡ stats_at → n ≡ 3 + stats_size f → m + n ≡ flags_at f
    added h k = omega (arith, h, k)
