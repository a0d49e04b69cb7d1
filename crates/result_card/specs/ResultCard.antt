-- The result card in its two forms: how it is written of an answer and read back, and what a buffer
-- holds that it is written to. The newer form is written; the older one has a byte for each count.
-- Definitions only, to be believed; reading back is for the theorems in proofs/RoundTrip. A count is
-- written in the bytes that its form has for it, the lowest first, and a float by its bits.
--   16 corners   17 four times probed, fit, dropped (a byte each), valid        18 four flags   older
--   16 corners   19 four times probed, fit, dropped (two bytes each), valid     18 four flags   newer
use Rattle.std.specs.Prelude.{ℕ, ◌+◌, ◌*◌, Bool, List, [], ◌∷◌, ◌++◌, leb, eqb, length, drop}
use Rattle.prelude.specs.Prelude.{when◌then◌else◌, bit}
use Rattle.pixel.specs.Pixels.{source}
use Rattle.pixel.specs.declared.SourcePixel.{SourcePixel}
use Rattle.fit.specs.declared.EdgeStat.{EdgeStat}
use Rattle.fit.specs.Fit.{stat}
use Rattle.corners.specs.declared.RefinedCorners.{RefinedCorners}
use Rattle.corners.specs.Corners.{four}
use Rattle.fields.specs.Fields.{byte_at, number_at, float_at, bytes_of, float_bytes, field}
use Rattle.result_card.specs.declared.form.Form.{Form}
use Rattle.result_card.specs.declared.form.Form.TheVariants.{Older, Newer}

-- ---- the two forms

-- the tag of the counts
abbrev pub tag : Form → ℕ
tag Older = 17
tag Newer = 19

-- how many bytes a count has
abbrev pub wide : Form → ℕ
wide Older = 1
wide Newer = 2

-- of an edge: three counts, and whether it is valid
abbrev pub stat_size : Form → ℕ
stat_size f = 3 * wide f + 1

-- ---- writing

abbrev pub corner_bytes : List SourcePixel → List ℕ
corner_bytes [] = []
corner_bytes (c ∷ cs) = float_bytes c.0 ++ float_bytes c.1 ++ corner_bytes cs

abbrev pub stat_bytes : Form → List EdgeStat → List ℕ
stat_bytes f [] = []
stat_bytes f (e ∷ es) =
    bytes_of (wide f) e.points_probed ++ bytes_of (wide f) e.points_fit ++ bytes_of (wide f) e.dropped_outliers ++ bit e.valid ∷ stat_bytes f es

abbrev pub flag_bytes : List Bool → List ℕ
flag_bytes [] = []
flag_bytes (f ∷ fs) = bit f ∷ flag_bytes fs

abbrev pub result_card : Form → RefinedCorners → List ℕ
result_card f r = field 16 (corner_bytes r.corners) ++ field (tag f) (stat_bytes f r.edge_stats) ++ field 18 (flag_bytes r.corner_refined)

-- ---- where the fields lie: each is a head of 3 bytes, its tag and its length, and its contents

abbrev pub corners_size : ℕ
corners_size = 4 * 16

abbrev pub stats_size : Form → ℕ
stats_size f = 4 * stat_size f

abbrev pub flags_size : ℕ
flags_size = 4

-- the field of the counts begins here, behind that of the corners
abbrev pub stats_at : ℕ
stats_at = 3 + corners_size

abbrev pub flags_at : Form → ℕ
flags_at f = stats_at + 3 + stats_size f

-- 93 bytes, and 105
abbrev pub card_size : Form → ℕ
card_size f = flags_at f + 3 + flags_size

-- ---- reading back

abbrev pub read_corner : List ℕ → ℕ → SourcePixel
read_corner card i = source (float_at card (3 + 16 * i)) (float_at card (11 + 16 * i))

-- the counts of an edge that stand from `at` on
abbrev pub stat_from : Form → List ℕ → ℕ → EdgeStat
stat_from f card at =
    stat (number_at (wide f) card at) (number_at (wide f) card (at + wide f)) (number_at (wide f) card (at + 2 * wide f))
    (eqb (byte_at card (at + 3 * wide f)) 1)

abbrev pub read_stat : Form → List ℕ → ℕ → EdgeStat
read_stat f card i = stat_from f card (stats_at + 3 + stat_size f * i)

abbrev pub read_flag : Form → List ℕ → ℕ → Bool
read_flag f card i = eqb (byte_at card (flags_at f + 3 + i)) 1

abbrev pub read_result : Form → List ℕ → RefinedCorners
read_result f card = record {
  corners = four (λ i. read_corner card i);
  edge_stats = four (λ i. read_stat f card i);
  corner_refined = four (λ i. read_flag f card i);
}

-- ---- a buffer that a card is written to

-- the newer card of an answer; a buffer of under 105 bytes is left as it was
abbrev pub with_card : RefinedCorners → List ℕ → List ℕ
with_card r out = when leb (card_size Newer) (length out) then result_card Newer r ++ drop (card_size Newer) out else out
