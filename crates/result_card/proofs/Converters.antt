-- What holds of the two converters, for readers. A card made newer and then older again is the first card, byte for byte, and so is one made older and then newer,
-- where its counts are below 256; corners, counts and flags stay the same. Assumes nothing but that a card's elements are bytes.
use Prim.Native.Nat.{ℕ, ◌+◌, ◌≤◌, ◌<◌}
use mathlib.Core.Bool.{Bool, true, ◌&&◌}
use mathlib.Core.Logic.{◌↔◌}
use mathlib.Core.Path.{◌≡◌, refl, sym, ap, subst, ◌∙◌}
use mathlib.Core.List.{List, [], ◌∷◌, ◌++◌, append-nil}
use native.Mathlib.Omega.{arith}
use borrow.Author.Tests.{leb-true, le-leb}
use lib.Dec.{leb}
use lib.ListN.{length, take, drop, length-append}
use Rattle.std.specs.Prelude.{Ok}
use Rattle.std.specs.List.{list_all}
use Rattle.std.proofs.lemmas.List.{take_all, take-append-le}
use Rattle.prelude.specs.Checks.{check}
use Rattle.prelude.proofs.Lists.{Each, Four, by-four, each_weaker}
use Rattle.prelude.proofs.Tests.{both}
use Rattle.prelude.proofs.Checks.{ok_exactly}
use Rattle.number.specs.declared.Refusal.TheVariants as refusal
use Rattle.corners.specs.declared.RefinedCorners.{RefinedCorners}
use Rattle.fields.specs.Fields.{bytes_of, field}
use Rattle.fit.specs.declared.EdgeStat.{EdgeStat}
use Rattle.fit.proofs.Counts.{Counted}
use Rattle.fields.proofs.Parts.{Bytes}
use Rattle.result_card.specs.declared.form.Form.{Form}
use Rattle.result_card.specs.declared.form.Form.TheVariants.{Older, Newer}
use Rattle.result_card.specs.ResultCard.{tag, corner_bytes, stat_bytes, flag_bytes, result_card, corners_size, stats_size, flags_size, stats_at, flags_at, card_size, read_result}
use Rattle.result_card.specs.Convert.{is_head, are_bits, is_card, read_stats, converted, is_small, widen_answer, widened, narrow_answer, narrowed}
use Rattle.result_card.proofs.Cards.{Card, card_says, says_card, length-field, length-converted}
use Rattle.result_card.proofs.CardLayout.{long_corners, long_stats, long_flags}
use Rattle.result_card.proofs.RoundTrip.{Room, all_room, stats_in}
use Rattle.result_card.proofs.Conversion.{read_room, same_form, same_counts, converted_on, still_card, same_answer, take_front, drop_front, join, of_parts, head_of_field, bit_small}

-- ---- counts

-- a count of an older card has room in a newer one
roomier : (e : EdgeStat) → Room Older e → Room Newer e
roomier e r = record { probed = omega (arith, r.probed); fit = omega (arith, r.fit); dropped = omega (arith, r.dropped) }

small_room : (e : EdgeStat) → is_small e ≡ true → Room Older e
small_room e h =
    let a = both (leb e.points_probed 255 && leb e.points_fit 255) (leb e.dropped_outliers 255) h in
    let b = both (leb e.points_probed 255) (leb e.points_fit 255) a.0 in
    record {
      probed = omega (arith, leb-true e.points_probed 255 b.0);
      fit = omega (arith, leb-true e.points_fit 255 b.1);
      dropped = omega (arith, leb-true e.dropped_outliers 255 a.1);
    }

room_small : (e : EdgeStat) → Room Older e → is_small e ≡ true
room_small e r =
    rw (
      le-leb e.points_probed 255 (omega (arith, r.probed)),
      le-leb e.points_fit 255 (omega (arith, r.fit)),
      le-leb e.dropped_outliers 255 (omega (arith, r.dropped)),
    )
    refl

-- each of a list
each_room : (es : List EdgeStat) → list_all is_small es ≡ true → Each (Room Older) es
each_room [] h = tt
each_room (e ∷ es) h = let both_small = both (is_small e) (list_all is_small es) h in (small_room e both_small.0, each_room es both_small.1)

all_small : (es : List EdgeStat) → Each (Room Older) es → list_all is_small es ≡ true
all_small [] h = refl
all_small (e ∷ es) h = rw (room_small e h.0) (all_small es h.1)

-- what an older card has, a newer one has room for
widened_room : (card : List ℕ) → Bytes card → Four (Room Newer) (read_stats Older card)
widened_room card small =
    let r = read_room Older card small in
    record { four = r.four; each = each_weaker (Room Older) (Room Newer) (read_stats Older card) roomier r.each }

-- ---- there and back

pub there_and_back : (card : List ℕ) → Bytes card → is_card Older card ≡ true → converted Newer Older (converted Older Newer card) ≡ card
there_and_back card small h =
    let c = card_says Older card h in
    converted_on Older Newer card c (widened_room card small) Older ∙ same_form Older card small c

pub back_and_there : (card : List ℕ) → Bytes card → is_card Newer card ≡ true → list_all is_small (read_stats Newer card) ≡ true
    → converted Older Newer (converted Newer Older card) ≡ card
back_and_there card small h few =
    let c = card_says Newer card h in
    let room : Four (Room Older) (read_stats Newer card) = record { four = refl; each = each_room (read_stats Newer card) few } in
    converted_on Newer Older card c room Newer ∙ same_form Newer card small c

-- ---- nothing is lost, in either way: corners, counts and flags are read as they were

pub widened_says : (card : List ℕ) → Bytes card → is_card Older card ≡ true → read_result Newer (converted Older Newer card) ≡ read_result Older card
widened_says card small h = same_answer Older Newer card (card_says Older card h) (widened_room card small)

pub narrowed_says : (card : List ℕ) → is_card Newer card ≡ true → list_all is_small (read_stats Newer card) ≡ true
    → read_result Older (converted Newer Older card) ≡ read_result Newer card
narrowed_says card h few =
    same_answer Newer Older card (card_says Newer card h) (record { four = refl; each = each_room (read_stats Newer card) few })

-- ---- of the calls as they return

front_of : (card back : List ℕ) (n : ℕ) → length card ≡ n → take n (card ++ back) ≡ card
front_of card back n long = take-append-le n card back (omega (arith, long)) ∙ take_all n card (omega (arith, long))

-- what is tested, and what is written at the front where all of it holds
module _ (card out : List ℕ) where
  widen_tested : (widen_answer card out ≡ Ok tt) → (is_card Older card ≡ true) × (leb (card_size Newer) (length out) ≡ true)
  widen_tested answered =
      let all = (ok_exactly (check refusal.Form (is_card Older card) ∷ check refusal.Card (leb (card_size Newer) (length out)) ∷ [])).0 answered in
      let a = both (is_card Older card) (leb (card_size Newer) (length out) && true) all in
      (a.0, (both (leb (card_size Newer) (length out)) true a.1).0)

  narrow_tested : (narrow_answer card out ≡ Ok tt)
      → (is_card Newer card ≡ true) × (list_all is_small (read_stats Newer card) ≡ true) × (leb (card_size Older) (length out) ≡ true)
  narrow_tested answered =
      let few = list_all is_small (read_stats Newer card) in
      let room = leb (card_size Older) (length out) in
      let all = (ok_exactly (check refusal.Form (is_card Newer card) ∷ check refusal.Count few ∷ check refusal.Card room ∷ [])).0 answered in
      let a = both (is_card Newer card) (few && (room && true)) all in
      let b = both few (room && true) a.1 in
      (a.0, b.0, (both room true b.1).0)

  widened_front : is_card Older card ≡ true → leb (card_size Newer) (length out) ≡ true
      → (widen_answer card out ≡ Ok tt) × (take (card_size Newer) (widened card out) ≡ converted Older Newer card)
  widened_front h room =
      (rw (h, room) refl, rw (h, room) (front_of (converted Older Newer card) (drop (card_size Newer) out) (card_size Newer) (length-converted Older Newer card (card_says Older card h).long)))

  narrowed_front : is_card Newer card ≡ true → list_all is_small (read_stats Newer card) ≡ true → leb (card_size Older) (length out) ≡ true
      → (narrow_answer card out ≡ Ok tt) × (take (card_size Older) (narrowed card out) ≡ converted Newer Older card)
  narrowed_front h few room = (
    rw (h, few, room) refl,
    rw (h, few, room) (front_of (converted Newer Older card) (drop (card_size Older) out) (card_size Older) (length-converted Newer Older card (card_says Newer card h).long)),
  )

-- a card that was widened can be narrowed, and that gives the first card's bytes again
pub widen_then_narrow : (card out again : List ℕ) → Bytes card → widen_answer card out ≡ Ok tt → card_size Older ≤ length again
    → (narrow_answer (take (card_size Newer) (widened card out)) again ≡ Ok tt)
    × (take (card_size Older) (narrowed (take (card_size Newer) (widened card out)) again) ≡ card)
widen_then_narrow card out again small answered room =
    let tested = widen_tested card out answered in
    let c = card_says Older card tested.0 in
    let wider = converted Older Newer card in
    let few : list_all is_small (read_stats Newer wider) ≡ true =
    ap (list_all is_small) (same_counts Older Newer card c (widened_room card small)) ∙ all_small (read_stats Older card) (read_room Older card small).each in
    let back = narrowed_front wider again (says_card Newer wider (still_card Older Newer card c (widened_room card small))) few (le-leb (card_size Older) (length again) room) in
    subst (λ (w : List ℕ). (narrow_answer w again ≡ Ok tt) × (take (card_size Older) (narrowed w again) ≡ card)) (sym (widened_front card out tested.0 tested.1).1)
    (back.0, back.1 ∙ there_and_back card small tested.0)

-- one that was narrowed can be widened, and that too
pub narrow_then_widen : (card out again : List ℕ) → Bytes card → narrow_answer card out ≡ Ok tt → card_size Newer ≤ length again
    → (widen_answer (take (card_size Older) (narrowed card out)) again ≡ Ok tt)
    × (take (card_size Newer) (widened (take (card_size Older) (narrowed card out)) again) ≡ card)
narrow_then_widen card out again small answered room =
    let tested = narrow_tested card out answered in
    let c = card_says Newer card tested.0 in
    let older = converted Newer Older card in
    let fits : Four (Room Older) (read_stats Newer card) = record { four = refl; each = each_room (read_stats Newer card) tested.1 } in
    let back = widened_front older again (says_card Older older (still_card Newer Older card c fits)) (le-leb (card_size Newer) (length again) room) in
    subst (λ (w : List ℕ). (widen_answer w again ≡ Ok tt) × (take (card_size Newer) (widened w again) ≡ card)) (sym (narrowed_front card out tested.0 tested.1 tested.2).1)
    (back.0, back.1 ∙ back_and_there card small tested.0 tested.1)

-- where there is room for it, an older card of a newer one exists exactly where every count is below 256
pub narrow_exactly : (card out : List ℕ) → is_card Newer card ≡ true → card_size Older ≤ length out
    → (narrow_answer card out ≡ Ok tt) ↔ Each (Room Older) (read_stats Newer card)
narrow_exactly card out h room = (
  λ answered. each_room (read_stats Newer card) (narrow_tested card out answered).1,
  λ each. (narrowed_front card out h (all_small (read_stats Newer card) each) (le-leb (card_size Older) (length out) room)).0,
)

-- ---- the card of an answer

head_whole : (t size : ℕ) (contents : List ℕ) → length contents ≡ size → size < 65536 → is_head t size (field t contents) 0 ≡ true
head_whole t size contents long small = ap (λ (l : List ℕ). is_head t size l 0) (sym (append-nil (field t contents))) ∙ head_of_field t size contents [] long small

flags_are_bits : (fs : List Bool) → length fs ≡ 4 → are_bits (field 18 (flag_bytes fs)) 3 1 ≡ true
unfolding bytes_of
flags_are_bits fs h =
    by-four (λ fs. are_bits (field 18 (flag_bytes fs)) 3 1 ≡ true) (λ w x y z. rw (bit_small w, bit_small x, bit_small y, bit_small z) refl) fs h

module _ (f : Form) (r : RefinedCorners) (corners : length r.corners ≡ 4) (room : Four (Room f) r.edge_stats) (flags : length r.corner_refined ≡ 4) where
  front : List ℕ
  front = field 16 (corner_bytes r.corners)

  middle : List ℕ
  middle = field (tag f) (stat_bytes f r.edge_stats)

  back : List ℕ
  back = field 18 (flag_bytes r.corner_refined)

  front_is : length front ≡ stats_at
  unfolding front
  front_is = length-field 16 (corner_bytes r.corners) ∙ ap (λ (n : ℕ). 3 + n) (long_corners f r corners room.four flags)

  back_is : length back ≡ 3 + flags_size
  unfolding back
  back_is = length-field 18 (flag_bytes r.corner_refined) ∙ ap (λ (n : ℕ). 3 + n) (long_flags f r corners room.four flags)

  before : length (front ++ middle) ≡ flags_at f
  unfolding front middle
  before = length-append front middle ∙ added front_is (length-field (tag f) (stat_bytes f r.edge_stats) ∙ ap (λ (n : ℕ). 3 + n) (long_stats f r corners room.four flags))
    where
      added : {m n : ℕ} → m ≡ stats_at → n ≡ 3 + stats_size f → m + n ≡ flags_at f
      added h k = omega (arith, h, k)

  -- what is read of it
  pub answer_counts : read_stats f (result_card f r) ≡ r.edge_stats
  unfolding front middle back
  answer_counts = stats_in f front r.edge_stats back front_is room

  -- in another form it is the answer's card of that form
  pub answer_converted : (g : Form) → converted f g (result_card f r) ≡ result_card g r
  unfolding front middle back
  answer_converted g =
      join (join (take_front front middle back front_is) (ap (λ (es : List EdgeStat). field (tag g) (stat_bytes g es)) answer_counts)) (drop_front front middle back (flags_at f) before)

  -- and it is a card
  pub answer_card : Card f (result_card f r)
  unfolding front middle back
  answer_card =
      by-four (λ (es : List EdgeStat). Card f (front ++ field (tag f) (stat_bytes f es) ++ back))
      (λ k l m n. of_parts f front back k l m n front_is back_is
      (head_whole 16 corners_size (corner_bytes r.corners) (long_corners f r corners room.four flags) (omega arith))
      (head_whole 18 flags_size (flag_bytes r.corner_refined) (long_flags f r corners room.four flags) (omega arith))
      (flags_are_bits r.corner_refined flags))
      r.edge_stats room.four

-- the newer card of an answer whose counts are at most 255 can be narrowed, to the older card of the same answer
pub answer_narrows : (r : RefinedCorners) (out : List ℕ) → length r.corners ≡ 4 → Four (Counted 255) r.edge_stats → length r.corner_refined ≡ 4 → card_size Older ≤ length out
    → (narrow_answer (result_card Newer r) out ≡ Ok tt) × (take (card_size Older) (narrowed (result_card Newer r) out) ≡ result_card Older r)
answer_narrows r out corners stats flags room =
    let fits = all_room Newer 255 r.edge_stats (omega arith) stats in
    let c = answer_card Newer r corners fits flags in
    let few : list_all is_small (read_stats Newer (result_card Newer r)) ≡ true =
    ap (list_all is_small) (answer_counts Newer r corners fits flags) ∙ all_small r.edge_stats (all_room Older 255 r.edge_stats (omega arith) stats).each in
    let back = narrowed_front (result_card Newer r) out (says_card Newer (result_card Newer r) c) few (le-leb (card_size Older) (length out) room) in
    (back.0, back.1 ∙ answer_converted Newer r corners fits flags Older)
