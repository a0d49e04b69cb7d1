-- A result card made one of the other form and back is the first card again, byte for byte; what it says stays the same. Assumes nothing.
use Prim.Native.Nat.{ℕ, zero, suc, ◌+◌, ◌*◌, ◌≤◌, ◌<◌}
use mathlib.Core.Bool.{Bool, true, false, ◌&&◌}
use mathlib.Core.Path.{◌≡◌, refl, sym, ap, ◌∙◌}
use mathlib.Core.List.{List, [], ◌∷◌, ◌++◌, append_assoc}
use native.Mathlib.Omega.{arith}
use borrow.Author.Tests.{eqb-true, eq-eqb, leb-true}
use lib.Dec.{eqb, leb}
use lib.ListN.{length, take, drop, length-append}
use Rattle.std.proofs.Math.Seq.{drop-append_seam}
use Rattle.std.proofs.lemmas.List.{length-take-le, take-append-drop, take-append-le, take_all, drop_more, get_or-append-add, get_or_append_left}
use Rattle.prelude.specs.Prelude.{bit}
use Rattle.prelude.proofs.Lists.{Four}
use Rattle.prelude.proofs.Tests.{both}
use Rattle.fit.specs.declared.EdgeStat.{EdgeStat}
use Rattle.fields.specs.Fields.{byte_at, number_at, bytes_of, field}
use Rattle.fields.proofs.Parts.{Bytes, number_most, bytes_there, piece_more, number_before, number_behind}
use Rattle.fields.proofs.RoundTrip.{number-back}
use Rattle.fields.proofs.Writes.{length-bytes, length-row}
use Rattle.result_card.specs.declared.form.Form.{Form}
use Rattle.result_card.specs.declared.form.Form.TheVariants.{Older, Newer}
use Rattle.result_card.specs.ResultCard.{tag, wide, stat_size, stat_bytes, corners_size, stats_size, flags_size, stats_at, flags_at, card_size, read_corner, stat_from, read_stat, read_flag, read_result}
use Rattle.result_card.specs.Convert.{is_head, are_bits, read_stats, converted}
use Rattle.result_card.proofs.CardLayout.{stat-row}
use Rattle.result_card.proofs.Cards.{Card, front_long, stats_long, back_long, length-field, length_three}
use Rattle.result_card.proofs.RoundTrip.{Room, stats_in, same_four, same_refined}

-- ---- the counts of a card have room in its own form

pub read_room : (f : Form) (card : List ℕ) → Bytes card → Four (Room f) (read_stats f card)
read_room f card small = record { four = refl; each = (room 0, (room 1, (room 2, (room 3, tt)))) }
  where
    room : (i : ℕ) → Room f (read_stat f card i)
    room i =
        let at = stats_at + 3 + stat_size f * i in
        record {
          probed = number_most (wide f) card at small;
          fit = number_most (wide f) card (at + wide f) small;
          dropped = number_most (wide f) card (at + 2 * wide f) small;
        }

-- ---- in its own form a card is itself

-- a truth value's byte
bit_there : (v : ℕ) → leb v 1 ≡ true → bit (eqb v 1) ≡ v
bit_there zero h = refl
bit_there (suc zero) h = refl
bit_there (suc (suc v)) h = absurd (omega (arith, leb-true (suc (suc v)) 1 h))

-- the bytes of an edge
stat_there : (f : Form) (card : List ℕ) (at : ℕ) → Bytes card → at + stat_size f ≤ length card → leb (byte_at card (at + 3 * wide f)) 1 ≡ true
    → stat_bytes f (stat_from f card at ∷ []) ≡ take (stat_size f) (drop at card)
stat_there f card at small within valid =
    let w = wide f in
    let count : (i : ℕ) → i + w ≤ length card → bytes_of w (number_at w card i) ≡ take w (drop i card) = λ i h. bytes_there w card i small h in
    let two : at + 2 * w ≡ at + (w + w) = omega arith in
    let three : at + 3 * w ≡ at + (w + w + w) = omega arith in
    let whole : stat_size f ≡ w + w + w + 1 = omega arith in
    let last : byte_at card (at + (w + w + w)) ∷ [] ≡ take 1 (drop (at + (w + w + w)) card) = rw (drop_more card (at + (w + w + w)) 0 (omega arith)) in
    rw (
      count at (omega arith),
      count (at + w) (omega arith),
      count (at + 2 * w) (omega arith),
      bit_there (byte_at card (at + 3 * w)) valid,
      two,
      three,
      whole,
      last,
      piece_more w w at card,
      piece_more (w + w) w at card,
    )
    (piece_more (w + w + w) 1 at card)

-- each of four bytes
four_bits : (card : List ℕ) (at step : ℕ) → are_bits card at step ≡ true
    → (leb (byte_at card at) 1 ≡ true) × (leb (byte_at card (at + step)) 1 ≡ true) × (leb (byte_at card (at + 2 * step)) 1 ≡ true) × (leb (byte_at card (at + 3 * step)) 1 ≡ true)
four_bits card at step h =
    let p = leb (byte_at card at) 1 in
    let q = leb (byte_at card (at + step)) 1 in
    let r = leb (byte_at card (at + 2 * step)) 1 in
    let s = leb (byte_at card (at + 3 * step)) 1 in
    let a = both p (q && (r && (s && true))) h in
    let b = both q (r && (s && true)) a.1 in
    let c = both r (s && true) b.1 in
    (a.0, b.0, c.0, (both s true c.1).0)

-- four pieces of the same length, one behind the other
four_pieces : (n at : ℕ) (l : List ℕ)
    → take n (drop at l) ++ (take n (drop (at + n) l) ++ (take n (drop (at + n + n) l) ++ take n (drop (at + n + n + n) l))) ≡ take (n + (n + (n + n))) (drop at l)
four_pieces n at l =
    ap (λ (m : List ℕ). take n (drop at l) ++ (take n (drop (at + n) l) ++ m)) (piece_more n n (at + n + n) l)
    ∙ ap (λ (m : List ℕ). take n (drop at l) ++ m) (piece_more n (n + n) (at + n) l)
    ∙ piece_more n (n + (n + n)) at l

pub join : {a a' b b' : List ℕ} → a ≡ a' → b ≡ b' → a ++ b ≡ a' ++ b'
join p q = cc

row_of_four : (f : Form) (a b c d : EdgeStat) {k l m n : List ℕ} → stat_bytes f (a ∷ []) ≡ k → stat_bytes f (b ∷ []) ≡ l → stat_bytes f (c ∷ []) ≡ m → stat_bytes f (d ∷ []) ≡ n
    → stat_bytes f (a ∷ b ∷ c ∷ d ∷ []) ≡ k ++ (l ++ (m ++ n))
row_of_four f a b c d p q r s =
    let row = stat-row f in
    row.one a (b ∷ c ∷ d ∷ []) ∙ join p (row.one b (c ∷ d ∷ []) ∙ join q (row.one c (d ∷ []) ∙ join r s))

-- the bytes of four edges
stats_there : (f : Form) (card : List ℕ) → Bytes card → Card f card → stat_bytes f (read_stats f card) ≡ take (stats_size f) (drop (stats_at + 3) card)
stats_there f card small c =
    let n = stat_size f in
    let w = wide f in
    let at = stats_at + 3 in
    let valid = four_bits card (at + 3 * w) n c.valid in
    let there = λ (i : ℕ) (h : i + n ≤ length card) (v : leb (byte_at card (i + 3 * w)) 1 ≡ true). stat_there f card i small h v in
    let a0 : at + n * 0 ≡ at = omega arith in
    let a1 : at + n * 1 ≡ at + n = omega arith in
    let a2 : at + n * 2 ≡ at + n + n = omega arith in
    let a3 : at + n * 3 ≡ at + n + n + n = omega arith in
    let v1 : at + n + 3 * w ≡ at + 3 * w + n = omega arith in
    let v2 : at + n + n + 3 * w ≡ at + 3 * w + 2 * n = omega arith in
    let v3 : at + n + n + n + 3 * w ≡ at + 3 * w + 3 * n = omega arith in
    let all : n + (n + (n + n)) ≡ stats_size f = omega arith in
    rw (a0, a1, a2, a3, ← all)
    (row_of_four f (stat_from f card at) (stat_from f card (at + n)) (stat_from f card (at + n + n)) (stat_from f card (at + n + n + n))
    (there at (omega (arith, c.long)) valid.0) (there (at + n) (omega (arith, c.long)) (rw v1 valid.1))
    (there (at + n + n) (omega (arith, c.long)) (rw v2 valid.2)) (there (at + n + n + n) (omega (arith, c.long)) (rw v3 valid.3))
    ∙ four_pieces n at card)

-- the head of a field
head_there : (t size : ℕ) (card : List ℕ) (at : ℕ) → Bytes card → at + 3 ≤ length card → is_head t size card at ≡ true → t ∷ bytes_of 2 size ≡ take 3 (drop at card)
head_there t size card at small within h =
    let says = both (eqb (byte_at card at) t) (eqb (number_at 2 card (at + 1)) size) h in
    let same_tag : byte_at card at ≡ t = eqb-true (byte_at card at) t says.0 in
    let same_size : number_at 2 card (at + 1) ≡ size = eqb-true (number_at 2 card (at + 1)) size says.1 in
    let one : byte_at card at ∷ [] ≡ take 1 (drop at card) = rw (drop_more card at 0 (omega arith)) in
    let two : bytes_of 2 size ≡ take 2 (drop (at + 1) card) = ap (bytes_of 2) (sym same_size) ∙ bytes_there 2 card (at + 1) small (omega arith) in
    ap (λ (k : ℕ). k ∷ bytes_of 2 size) (sym same_tag) ∙ ap (λ (l : List ℕ). byte_at card at ∷ l) two ∙ ap (λ (l : List ℕ). l ++ take 2 (drop (at + 1) card)) one
    ∙ piece_more 1 2 at card

-- a card in its own form
pub same_form : (f : Form) (card : List ℕ) → Bytes card → Card f card → converted f f card ≡ card
same_form f card small c =
    let counts = read_stats f card in
    let size = stats_size f in
    let head : tag f ∷ bytes_of 2 size ≡ take 3 (drop stats_at card) = head_there (tag f) size card stats_at small (omega (arith, c.long)) c.stats in
    let middle : field (tag f) (stat_bytes f counts) ≡ take (3 + size) (drop stats_at card) =
    ap (λ (n : ℕ). tag f ∷ bytes_of 2 n ++ stat_bytes f counts) (stats_long f f card c.long)
    ∙ join head (stats_there f card small c)
    ∙ piece_more 3 size stats_at card in
    let end : flags_at f ≡ stats_at + (3 + size) = omega arith in
    ap (λ (m : List ℕ). take stats_at card ++ m ++ drop (flags_at f) card) middle
    ∙ ap (λ (m : List ℕ). m ++ drop (flags_at f) card) (piece_more stats_at (3 + size) 0 card)
    ∙ rw end (take-append-drop (stats_at + (3 + size)) card)

-- ---- heads and truth values, in the part of a list that they stand in

head_before : (t size : ℕ) (s back : List ℕ) (at : ℕ) → at + 3 ≤ length s → is_head t size (s ++ back) at ≡ is_head t size s at
head_before t size s back at within = rw (get_or_append_left s back 0 at (omega arith), number_before 2 s back (at + 1) (omega arith))

head_behind : (t size : ℕ) (front s : List ℕ) (at : ℕ) → is_head t size (front ++ s) (length front + at) ≡ is_head t size s at
head_behind t size front s at =
    let next : length front + at + 1 ≡ length front + (at + 1) = omega arith in
    rw (next, get_or-append-add front s at 0, number_behind 2 front s (at + 1))

pub head_of_field : (t size : ℕ) (contents back : List ℕ) → length contents ≡ size → size < 65536 → is_head t size (field t contents ++ back) 0 ≡ true
head_of_field t size contents back long small =
    let body = bytes_of 2 (length contents) ++ contents ++ back in
    let back_again : number_at 2 (t ∷ body) 1 ≡ size =
    number_behind 2 (t ∷ []) body 0
    ∙ ap (λ (l : List ℕ). number_at 2 l 0) (append_assoc (bytes_of 2 (length contents)) contents back)
    ∙ number-back 2 (length contents) (contents ++ back) (omega (arith, long)) ∙ long in
    rw (eq-eqb t t refl, back_again, eq-eqb size size refl) refl

bits_behind : (front s : List ℕ) (at step : ℕ) → are_bits (front ++ s) (length front + at) step ≡ are_bits s at step
bits_behind front s at step =
    let one : length front + at + step ≡ length front + (at + step) = omega arith in
    let two : length front + at + 2 * step ≡ length front + (at + 2 * step) = omega arith in
    let three : length front + at + 3 * step ≡ length front + (at + 3 * step) = omega arith in
    rw (
      one,
      two,
      three,
      get_or-append-add front s at 0,
      get_or-append-add front s (at + step) 0,
      get_or-append-add front s (at + 2 * step) 0,
      get_or-append-add front s (at + 3 * step) 0,
    )

pub bit_small : (b : Bool) → leb (bit b) 1 ≡ true
bit_small true = refl
bit_small false = refl

-- where an edge is written, whether it is valid is a truth value
valid_written : (f : Form) (a b c d : EdgeStat) (back : List ℕ) → are_bits (stat_bytes f (a ∷ b ∷ c ∷ d ∷ []) ++ back) (3 * wide f) (stat_size f) ≡ true
unfolding bytes_of
valid_written Older a b c d back = rw (bit_small a.valid, bit_small b.valid, bit_small c.valid, bit_small d.valid) refl
valid_written Newer a b c d back = rw (bit_small a.valid, bit_small b.valid, bit_small c.valid, bit_small d.valid) refl

-- corners and flags, in the part of a list that they stand in
corner_before : (front s : List ℕ) (i : ℕ) → length front ≡ stats_at → i < 4 → read_corner (front ++ s) i ≡ read_corner front i
corner_before front s i long few =
    rw (number_before 8 front s (3 + 16 * i) (omega (arith, long)), number_before 8 front s (11 + 16 * i) (omega (arith, long)))

flag_behind : (f : Form) (front s : List ℕ) (i : ℕ) → length front ≡ flags_at f → read_flag f (front ++ s) i ≡ eqb (byte_at s (3 + i)) 1
flag_behind f front s i long =
    let at : flags_at f + 3 + i ≡ length front + (3 + i) = omega (arith, long) in
    rw (at, get_or-append-add front s (3 + i) 0)

-- ---- three parts, one behind the other

module _ (front middle back : List ℕ) where
  pub take_front : length front ≡ stats_at → take stats_at (front ++ middle ++ back) ≡ front
  take_front long =
      ap (take stats_at) (append_assoc front middle back)
      ∙ take-append-le stats_at front (middle ++ back) (omega (arith, long))
      ∙ take_all stats_at front (omega (arith, long))

  pub drop_front : (n : ℕ) → length (front ++ middle) ≡ n → drop n (front ++ middle ++ back) ≡ back
  drop_front n long = ap (λ (k : ℕ). drop k (front ++ middle ++ back)) (sym long) ∙ drop-append_seam (front ++ middle) back

-- a card is made of what stands before the counts, the counts, and what stands behind them
pub of_parts : (g : Form) (front back : List ℕ) (a b c d : EdgeStat) → length front ≡ stats_at → length back ≡ 3 + flags_size → is_head 16 corners_size front 0 ≡ true
    → is_head 18 flags_size back 0 ≡ true → are_bits back 3 1 ≡ true → Card g (front ++ field (tag g) (stat_bytes g (a ∷ b ∷ c ∷ d ∷ [])) ++ back)
of_parts g front back a b c d long rest corners flags refined =
    let s = stat_bytes g (a ∷ b ∷ c ∷ d ∷ []) in
    let f = field (tag g) s in
    let head = tag g ∷ bytes_of 2 (length s) in
    let size : length s ≡ stats_size g = length-row (stat-row g) (a ∷ b ∷ c ∷ d ∷ []) ∙ omega arith in
    let fits : stats_size g < 65536 = wide_fits g in
    let middle : length f ≡ 3 + stats_size g = length-field (tag g) s ∙ ap (λ (n : ℕ). 3 + n) size in
    let before : length (front ++ f) ≡ flags_at g = length-append front f ∙ added long middle in
    let head_long : length (front ++ head) ≡ stats_at + 3 = length-append front head ∙ first long (ap suc (length-bytes 2 (length s))) in
    let inner : front ++ f ++ back ≡ front ++ head ++ (s ++ back) =
    append_assoc front f back ∙ ap (λ (l : List ℕ). front ++ l) (append_assoc head s back) ∙ sym (append_assoc front head (s ++ back)) in
    let at_stats : stats_at ≡ length front + 0 = omega (arith, long) in
    let at_flags : flags_at g ≡ length (front ++ f) + 0 = behind_by before in
    let at_refined : flags_at g + 3 ≡ length (front ++ f) + 3 = ap (λ (n : ℕ). n + 3) (sym before) in
    let at_valid : stats_at + 3 + 3 * wide g ≡ length (front ++ head) + 3 * wide g = ap (λ (n : ℕ). n + 3 * wide g) (sym head_long) in
    record {
      long = length_three front f back ∙ all long middle rest;
      corners = ap (λ (l : List ℕ). is_head 16 corners_size l 0) (append_assoc front f back) ∙ head_before 16 corners_size front (f ++ back) 0 (omega (arith, long)) ∙ corners;
      stats = ap (λ (l : List ℕ). is_head (tag g) (stats_size g) l stats_at) (append_assoc front f back)
          ∙ ap (is_head (tag g) (stats_size g) (front ++ (f ++ back))) at_stats
          ∙ head_behind (tag g) (stats_size g) front (f ++ back) 0
          ∙ head_of_field (tag g) (stats_size g) s back size fits;
      flags = ap (is_head 18 flags_size (front ++ f ++ back)) at_flags ∙ head_behind 18 flags_size (front ++ f) back 0 ∙ flags;
      valid = ap (λ (l : List ℕ). are_bits l (stats_at + 3 + 3 * wide g) (stat_size g)) inner
          ∙ ap (λ (i : ℕ). are_bits (front ++ head ++ (s ++ back)) i (stat_size g)) at_valid
          ∙ bits_behind (front ++ head) (s ++ back) (3 * wide g) (stat_size g)
          ∙ valid_written g a b c d back;
      refined = ap (λ (i : ℕ). are_bits (front ++ f ++ back) i 1) at_refined ∙ bits_behind (front ++ f) back 3 1 ∙ refined;
    }
  where
    wide_fits : (g : Form) → stats_size g < 65536
    wide_fits Older = omega arith
    wide_fits Newer = omega arith

    added : {m n : ℕ} → m ≡ stats_at → n ≡ 3 + stats_size g → m + n ≡ flags_at g
    added h k = omega (arith, h, k)

    first : {m n : ℕ} → m ≡ stats_at → n ≡ 3 → m + n ≡ stats_at + 3
    first h k = omega (arith, h, k)

    behind_by : {m n : ℕ} → m ≡ n → n ≡ m + 0
    behind_by h = omega (arith, h)

    all : {m n k : ℕ} → m ≡ stats_at → n ≡ 3 + stats_size g → k ≡ 3 + flags_size → m + n + k ≡ card_size g
    all h k l = omega (arith, h, k, l)

-- ---- in another form, its counts are the same, and it is a card of that form

module _ (f g : Form) (card : List ℕ) (c : Card f card) (room : Four (Room g) (read_stats f card)) where
  pub same_counts : read_stats g (converted f g card) ≡ read_stats f card
  same_counts = stats_in g (take stats_at card) (read_stats f card) (drop (flags_at f) card) (front_long f g card c.long) room

  before : length (take stats_at card ++ field (tag g) (stat_bytes g (read_stats f card))) ≡ flags_at g
  before =
      length-append (take stats_at card) (field (tag g) (stat_bytes g (read_stats f card)))
      ∙ added (front_long f g card c.long) (length-field (tag g) (stat_bytes g (read_stats f card)) ∙ ap (λ (n : ℕ). 3 + n) (stats_long f g card c.long))
    where
      added : {m n : ℕ} → m ≡ stats_at → n ≡ 3 + stats_size g → m + n ≡ flags_at g
      added h k = omega (arith, h, k)

  -- so another form of it is that of the card itself
  pub converted_on : (h : Form) → converted g h (converted f g card) ≡ converted f h card
  converted_on h =
      let front = take stats_at card in
      let middle = field (tag g) (stat_bytes g (read_stats f card)) in
      let back = drop (flags_at f) card in
      let front_kept = take_front front middle back (front_long f g card c.long) in
      let back_kept = drop_front front middle back (flags_at g) before in
      join (join front_kept (ap (λ (es : List EdgeStat). field (tag h) (stat_bytes h es)) same_counts)) back_kept

  pub still_card : Card g (converted f g card)
  still_card =
      let front = take stats_at card in
      let ahead = take (flags_at f) card in
      let back = drop (flags_at f) card in
      let whole : ahead ++ back ≡ card = take-append-drop (flags_at f) card in
      let end : length ahead ≡ flags_at f = length-take-le (flags_at f) card (omega (arith, c.long)) in
      let corners : is_head 16 corners_size front 0 ≡ true =
      sym (head_before 16 corners_size front (drop stats_at card) 0 (omega (arith, front_long f g card c.long)))
      ∙ ap (λ (l : List ℕ). is_head 16 corners_size l 0) (take-append-drop stats_at card)
      ∙ c.corners in
      let at_flags : length ahead + 0 ≡ flags_at f = omega (arith, end) in
      let flags : is_head 18 flags_size back 0 ≡ true =
      sym (head_behind 18 flags_size ahead back 0)
      ∙ ap (is_head 18 flags_size (ahead ++ back)) at_flags
      ∙ ap (λ (l : List ℕ). is_head 18 flags_size l (flags_at f)) whole
      ∙ c.flags in
      let at_refined : length ahead + 3 ≡ flags_at f + 3 = omega (arith, end) in
      let refined : are_bits back 3 1 ≡ true =
      sym (bits_behind ahead back 3 1)
      ∙ ap (λ (i : ℕ). are_bits (ahead ++ back) i 1) at_refined
      ∙ ap (λ (l : List ℕ). are_bits l (flags_at f + 3) 1) whole
      ∙ c.refined in
      of_parts g front back (read_stat f card 0) (read_stat f card 1) (read_stat f card 2) (read_stat f card 3) (front_long f g card c.long) (back_long f g card c.long) corners flags
      refined

  -- what is read of it is the same
  pub same_answer : read_result g (converted f g card) ≡ read_result f card
  same_answer = same_refined {es = read_stats g (converted f g card)} {es' = read_stats f card}
      (same_four (corner 0 (omega arith)) (corner 1 (omega arith)) (corner 2 (omega arith)) (corner 3 (omega arith)))
      same_counts
      (same_four (flag 0) (flag 1) (flag 2) (flag 3))
    where
      front : List ℕ
      front = take stats_at card

      middle : List ℕ
      middle = field (tag g) (stat_bytes g (read_stats f card))

      back : List ℕ
      back = drop (flags_at f) card

      corner : (i : ℕ) → i < 4 → read_corner (converted f g card) i ≡ read_corner card i
      corner i few =
          ap (λ (l : List ℕ). read_corner l i) (append_assoc front middle back)
          ∙ corner_before front (middle ++ back) i (front_long f g card c.long) few
          ∙ sym (corner_before front (drop stats_at card) i (front_long f g card c.long) few)
          ∙ ap (λ (l : List ℕ). read_corner l i) (take-append-drop stats_at card)

      flag : (i : ℕ) → read_flag g (converted f g card) i ≡ read_flag f card i
      flag i =
          flag_behind g (front ++ middle) back i before
          ∙ sym (flag_behind f (take (flags_at f) card) back i (length-take-le (flags_at f) card (omega (arith, c.long))))
          ∙ ap (λ (l : List ℕ). read_flag f l i) (take-append-drop (flags_at f) card)
