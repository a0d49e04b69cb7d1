-- An older result card made a newer one, and back: what the converters return, and what they leave in
-- the buffer that they are lent. Definitions only, to be believed.
use Rattle.std.specs.Prelude.{ℕ, ◌+◌, ◌*◌, Bool, ◌&&◌, List, [], ◌∷◌, ◌++◌, leb, eqb, length, take, drop, Result}
use Rattle.std.specs.List.{list_all}
use Rattle.std.specs.Result.{is_ok}
use Rattle.prelude.specs.Prelude.{when◌then◌else◌}
use Rattle.prelude.specs.Checks.{check, first}
use Rattle.number.specs.declared.Refusal.{Refusal}
use Rattle.number.specs.declared.Refusal.TheVariants as refusal
use Rattle.fit.specs.declared.EdgeStat.{EdgeStat}
use Rattle.corners.specs.Corners.{four}
use Rattle.fields.specs.Fields.{byte_at, number_at, field}
use Rattle.result_card.specs.declared.form.Form.{Form}
use Rattle.result_card.specs.declared.form.Form.TheVariants.{Older, Newer}
use Rattle.result_card.specs.ResultCard.{tag, wide, stat_size, stat_bytes, corners_size, stats_size, flags_size, stats_at, flags_at, card_size, read_stat}

-- ---- a card of a form: its length, the heads of its three fields, and 0 or 1 where a truth value is

-- from `at` on: this tag, and this length
abbrev pub is_head : ℕ → ℕ → List ℕ → ℕ → Bool
is_head tag size card at = eqb (byte_at card at) tag && eqb (number_at 2 card (at + 1)) size

-- four bytes, the first of them at `at` and each `step` behind the one before
abbrev pub are_bits : List ℕ → ℕ → ℕ → Bool
are_bits card at step = list_all (λ i. leb (byte_at card i) 1) (at ∷ (at + step) ∷ (at + 2 * step) ∷ (at + 3 * step) ∷ [])

abbrev pub is_card : Form → List ℕ → Bool
is_card f card =
    eqb (length card) (card_size f)
    && is_head 16 corners_size card 0
    && is_head (tag f) (stats_size f) card stats_at
    && is_head 18 flags_size card (flags_at f)
    && are_bits card (stats_at + 3 + 3 * wide f) (stat_size f)
    && are_bits card (flags_at f + 3) 1

abbrev pub read_stats : Form → List ℕ → List EdgeStat
read_stats f card = four (λ i. read_stat f card i)

-- ---- a card of one form in another: corners and flags byte for byte, and between them the counts

abbrev pub converted : Form → Form → List ℕ → List ℕ
converted f g card = take stats_at card ++ field (tag g) (stat_bytes g (read_stats f card)) ++ drop (flags_at f) card

-- each count has room in a byte
abbrev pub is_small : EdgeStat → Bool
is_small e = leb e.points_probed 255 && leb e.points_fit 255 && leb e.dropped_outliers 255

-- ---- the calls: a refusal leaves the buffer as it was

abbrev pub widen_answer : List ℕ → List ℕ → Result (Unit {0}) Refusal
widen_answer card out =
    first
    (
    check refusal.Form (is_card Older card)
    ∷ check refusal.Card (leb (card_size Newer) (length out))
    ∷ []
    )

abbrev pub widened : List ℕ → List ℕ → List ℕ
widened card out = when is_ok (widen_answer card out) then converted Older Newer card ++ drop (card_size Newer) out else out

abbrev pub narrow_answer : List ℕ → List ℕ → Result (Unit {0}) Refusal
narrow_answer card out =
    first
    (
    check refusal.Form (is_card Newer card)
    ∷ check refusal.Count (list_all is_small (read_stats Newer card))
    ∷ check refusal.Card (leb (card_size Older) (length out))
    ∷ []
    )

abbrev pub narrowed : List ℕ → List ℕ → List ℕ
narrowed card out = when is_ok (narrow_answer card out) then converted Newer Older card ++ drop (card_size Older) out else out
