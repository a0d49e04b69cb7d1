-- A walk along the fields of a card: what each test on a field says of `has_field`, and how the walk goes on behind a field that is there.
-- The definition's four conditions are the code's four tests, at the same place of the card. Assumes nothing.
use Prim.Native.Nat.{ℕ, zero, suc, ◌+◌, ◌-◌, ◌≤◌, ◌<◌, zero-le}
use mathlib.Core.Bool.{Bool, true, false, ◌&&◌, true≢false}
use mathlib.Core.Path.{◌≡◌, refl, sym, ap, subst, ◌∙◌}
use mathlib.Core.List.{List}
use native.Mathlib.Omega.{arith}
use borrow.Author.Tests.{le-leb, lt-leb, eq-eqb, ne_eqb, leb-true}
use lib.Dec.{leb, eqb}
use lib.ListN.{length, take, drop}
use Rattle.std.specs.Bool.{then_some}
use Rattle.std.specs.Prelude.{Option, Some, None}
use Rattle.prelude.proofs.Tests.{both}
use Rattle.prelude.specs.Prelude.{when◌then◌else◌}
use Rattle.fields.specs.Fields.{byte_at}
use Rattle.job_card.specs.JobCard.{size_at, start_at, start_of, contents, suits, has_field, has_fields}

-- ---- the tests on field t, whose header stands at i

next_start : (card : List ℕ) (t : ℕ) → 1 ≤ t → start_at card t ≡ start_of card t + 3 + size_at card (start_of card t)
unfolding start_at
next_start card t some =
    let behind : t ≡ suc (t - 1) = omega arith in
    ap (start_at card) behind

module _ (card : List ℕ) (t i : ℕ) (here : i ≡ start_of card t) where
  pub no_header : length card < i + 3 → has_field card t ≡ false
  no_header short = rw (← here, lt-leb (i + 3) (length card) short)

  module _ (header : i + 3 ≤ length card) where
    pub other_tag : (byte_at card i ≡ t → ⊥) → has_field card t ≡ false
    other_tag other = rw (← here, le-leb _ _ header, ne_eqb _ _ other)

    module _ (tag : byte_at card i ≡ t) where
      module _ (size : ℕ) (told : size ≡ size_at card i) where
        pub past_end : length card < i + 3 + size → has_field card t ≡ false
        past_end past = rw (← here, le-leb _ _ header, eq-eqb _ _ tag, ← told, lt-leb _ _ past)

        pub decided : i + 3 + size ≤ length card → (b : Bool) → b ≡ suits t (take (i + 3 + size - (i + 3)) (drop (i + 3) card)) → has_field card t ≡ b
        decided inside b e =
            let all : i + 3 + size - (i + 3) ≡ size = omega arith in
            rw (← here, le-leb _ _ header, eq-eqb _ _ tag, ← told, le-leb _ _ inside) (sym (rw all at e))

        pub ends_here : 1 ≤ t → start_at card t ≡ i + 3 + size
        ends_here some = rw (next_start card t some, ← here, ← told)

-- a place that a test lets through
pub then_some-when : (b : Bool) (x : ℕ) → then_some b x ≡ (when b then Some x else None)
then_some-when true x = refl
then_some-when false x = refl

-- ---- rows of fields

-- the fields 1 to t are those before t, and t
pub row : (card : List ℕ) (t : ℕ) → 1 ≤ t → has_fields card t ≡ (has_fields card (t - 1) && has_field card t)
unfolding has_fields
row card t some =
    let behind : t ≡ suc (t - 1) = omega arith in
    ap (has_fields card) behind ∙ ap (λ (n : ℕ). has_fields card (t - 1) && has_field card n) (sym behind)

fields_before : (card : List ℕ) (m d n : ℕ) → n ≡ m + d → has_fields card n ≡ true → has_fields card m ≡ true
unfolding has_fields
fields_before card m zero n e all =
    let same : n ≡ m = omega arith in
    rw same at all
fields_before card m (suc d) n e all =
    let behind : n ≡ suc (m + d) = omega arith in
    fields_before card m d (m + d) refl (both _ _ (rw behind at all)).0

pub fewer : (card : List ℕ) (m n : ℕ) → m ≤ n → has_fields card n ≡ true → has_fields card m ≡ true
fewer card m n less all = fields_before card m (n - m) n (omega arith) all

pub has_field_lem : (card : List ℕ) (t : ℕ) → 1 ≤ t → has_fields card t ≡ true → has_field card t ≡ true
has_field_lem card t some all = (both (has_fields card (t - 1)) (has_field card t) (sym (row card t some) ∙ all)).1

is_false : (b : Bool) → (b ≡ true → ⊥) → b ≡ false
is_false true h = absurd (h refl)
is_false false h = refl

-- one that is not there leaves the row incomplete
pub broken : (card : List ℕ) (t n : ℕ) → 1 ≤ t → t ≤ n → has_field card t ≡ false → has_fields card n ≡ false
broken card t n some less absent = is_false _ (λ all. true≢false (sym (has_field_lem card t some (fewer card t n less all)) ∙ absent))

-- ---- field t, where it is there: it lies within the card

third : (a b c d : Bool) → (a && b && c && d) ≡ true → c ≡ true
third a b c d e = (both (a && b) c (both (a && b && c) d e).0).1

pub within_card : (card : List ℕ) (t : ℕ) → 1 ≤ t → has_field card t ≡ true → start_at card t ≤ length card
within_card card t some there =
    let i = start_of card t in
    let inside = leb-true _ _ (third (leb (i + 3) (length card)) (eqb (byte_at card i) t) (leb (i + 3 + size_at card i) (length card)) (suits t (contents card t)) there) in
    rw (next_start card t some) inside

row_within : (card : List ℕ) (k : ℕ) → has_fields card k ≡ true → start_at card k ≤ length card
unfolding start_at
row_within card zero all = zero-le
row_within card (suc k) all = within_card card (suc k) (omega arith) (has_field_lem card (suc k) (omega arith) all)

-- ---- the walk

-- where a field or a row of fields ends, if it is there
abbrev pub end_if : Bool → ℕ → Option ℕ
end_if there end = when there then Some end else None

pub ended : (there : Bool) (x y : ℕ) → Some x ≡ end_if there y → (there ≡ true) × (x ≡ y)
ended true x y e = (refl, cc)
ended false x y e = (cc, cc)

pub nowhere : (there : Bool) (y : ℕ) → None ≡ end_if there y → there ≡ false
nowhere true y e = cc
nowhere false y e = refl

-- k fields are there, and the next one starts at i
pub record Walked (card : List ℕ) (k i : ℕ) : Type 0 where
  pub fields : has_fields card k ≡ true
  pub start : i ≡ start_at card k
  pub within : i ≤ length card

pub walked_none : (card : List ℕ) → Walked card 0 0
unfolding has_fields start_at
walked_none card = record { fields = refl; start = refl; within = omega arith }

pub walked_more : (card : List ℕ) (t i end : ℕ) → 1 ≤ t → Walked card (t - 1) i → Some end ≡ end_if (has_field card t) (start_at card t) → Walked card t end
walked_more card t i end some w e =
    let there = ended (has_field card t) end (start_at card t) e in
    record { fields = rw (row card t some, w.fields, there.0); start = there.1; within = rw there.1 (within_card card t some there.0) }

-- k fields are those before the next one
pub next : {card : List ℕ} {k i : ℕ} → Walked card k i → Walked card (k + 1 - 1) i
next {card} {k} {i} w =
    let same : k ≡ k + 1 - 1 = omega arith in
    subst (λ (n : ℕ). Walked card n i) same w

-- what a row that was walked says
pub walked : (card : List ℕ) (k i : ℕ) → Some i ≡ end_if (has_fields card k) (start_at card k) → Walked card k i
walked card k i e =
    let there = ended (has_fields card k) i (start_at card k) e in
    record { fields = there.0; start = there.1; within = rw there.1 (row_within card k there.0) }

-- ---- the contents of the field that the walk has come to

pub record Reached (card : List ℕ) (t i end : ℕ) : Type 0 where
  pub whole : has_fields card t ≡ true
  pub behind : i + 3 ≤ end
  pub inside : end ≤ length card
  pub is : take (end - (i + 3)) (drop (i + 3) card) ≡ contents card t

pub reached : (card : List ℕ) (t i end : ℕ) → 1 ≤ t → Walked card (t - 1) i → Some end ≡ end_if (has_field card t) (start_at card t) → Reached card t i end
reached card t i end some w e =
    let there = ended (has_field card t) end (start_at card t) e in
    let at : end ≡ i + 3 + size_at card i = rw (there.1, next_start card t some, ← w.start) in
    let long : end - (i + 3) ≡ size_at card i = omega arith in
    let next = walked_more card t i end some w e in
    record { whole = next.fields; behind = omega arith; inside = next.within; is = rw (long, ← w.start) }
