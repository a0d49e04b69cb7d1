-- What a card of a form is, piece by piece, and how long its pieces are. Assumes nothing.
use Prim.Native.Nat.{ℕ, suc, ◌+◌, ◌*◌}
use mathlib.Core.Bool.{Bool, true, ◌&&◌}
use mathlib.Core.Path.{◌≡◌, refl, ap, ◌∙◌}
use mathlib.Core.List.{List, ◌++◌}
use native.Mathlib.Omega.{arith}
use borrow.Author.Tests.{eqb-true, eq-eqb}
use lib.Dec.{eqb}
use lib.ListN.{length, take, drop, length-append}
use Rattle.std.proofs.lemmas.List.{length-take-le, length-drop}
use Rattle.prelude.proofs.Tests.{both}
use Rattle.fields.specs.Fields.{bytes_of, field}
use Rattle.fields.proofs.Writes.{length-bytes, length-row}
use Rattle.result_card.specs.declared.form.Form.{Form}
use Rattle.result_card.specs.ResultCard.{tag, wide, stat_size, stat_bytes, corners_size, stats_size, flags_size, stats_at, flags_at, card_size}
use Rattle.result_card.specs.Convert.{is_head, are_bits, is_card, read_stats, converted}
use Rattle.result_card.proofs.CardLayout.{stat-row}

pub record Card (f : Form) (card : List ℕ) : Type 0 where
  pub long : length card ≡ card_size f
  pub corners : is_head 16 corners_size card 0 ≡ true
  pub stats : is_head (tag f) (stats_size f) card stats_at ≡ true
  pub flags : is_head 18 flags_size card (flags_at f) ≡ true
  pub valid : are_bits card (stats_at + 3 + 3 * wide f) (stat_size f) ≡ true
  pub refined : are_bits card (flags_at f + 3) 1 ≡ true

six : (p q r s t u : Bool) → (p && q && r && s && t && u) ≡ true → (p ≡ true) × (q ≡ true) × (r ≡ true) × (s ≡ true) × (t ≡ true) × (u ≡ true)
six p q r s t u h =
    let a = both (p && q && r && s && t) u h in
    let b = both (p && q && r && s) t a.0 in
    let c = both (p && q && r) s b.0 in
    let d = both (p && q) r c.0 in
    let e = both p q d.0 in
    (e.0, e.1, d.1, c.1, b.1, a.1)

pub card_says : (f : Form) (card : List ℕ) → is_card f card ≡ true → Card f card
card_says f card h =
    let all =
    six (eqb (length card) (card_size f)) (is_head 16 corners_size card 0) (is_head (tag f) (stats_size f) card stats_at) (is_head 18 flags_size card (flags_at f))
    (are_bits card (stats_at + 3 + 3 * wide f) (stat_size f)) (are_bits card (flags_at f + 3) 1) h in
    record { long = eqb-true (length card) (card_size f) all.0; corners = all.1; stats = all.2; flags = all.3; valid = all.4; refined = all.5 }

pub says_card : (f : Form) (card : List ℕ) → Card f card → is_card f card ≡ true
says_card f card c = rw (eq-eqb (length card) (card_size f) c.long, c.corners, c.stats, c.flags, c.valid, c.refined) refl

-- ---- the pieces of a card in another form

pub length-field : (t : ℕ) (contents : List ℕ) → length (field t contents) ≡ 3 + length contents
length-field t contents = ap suc (length-append (bytes_of 2 (length contents)) contents ∙ ap (λ (n : ℕ). n + length contents) (length-bytes 2 (length contents))) ∙ omega arith

pub length_three : (a b c : List ℕ) → length (a ++ b ++ c) ≡ length a + length b + length c
length_three a b c = simp length-append (omega arith)

module _ (f g : Form) (card : List ℕ) (long : length card ≡ card_size f) where
  pub front_long : length (take stats_at card) ≡ stats_at
  front_long = length-take-le stats_at card (omega (arith, long))

  pub stats_long : length (stat_bytes g (read_stats f card)) ≡ stats_size g
  stats_long = length-row (stat-row g) (read_stats f card) ∙ omega arith

  pub back_long : length (drop (flags_at f) card) ≡ 3 + flags_size
  back_long = length-drop (flags_at f) card ∙ omega (arith, long)

  pub length-converted : length (converted f g card) ≡ card_size g
  length-converted =
      length_three (take stats_at card) (field (tag g) (stat_bytes g (read_stats f card))) (drop (flags_at f) card)
      ∙ sizes front_long (length-field (tag g) (stat_bytes g (read_stats f card)) ∙ ap (λ (n : ℕ). 3 + n) stats_long) back_long
    where
      sizes : {a b c : ℕ} → a ≡ stats_at → b ≡ 3 + stats_size g → c ≡ 3 + flags_size → a + b + c ≡ card_size g
      sizes h k l = omega (arith, h, k, l)
