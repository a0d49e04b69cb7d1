-- The job card: which cards are well formed, where each field lies, and what the field finder hands
-- back. Definitions only, to be believed. A card is a list of bytes; every definition is total: where
-- a field is not there its place and contents mean nothing, and only `has_field` asks for them.
--   1 width, height, stride   2 photograph   3 dim, grid   4 sx, sy   5 corners   6 polarity
--   7 source then rectified intrinsics   8 lens
use Rattle.std.specs.Prelude.{ℕ, zero, suc, ◌+◌, ◌-◌, Bool, true, ◌&&◌, ◌||◌, List, [], leb, eqb, length, take, drop, Result, Ok, Err}
use Rattle.std.specs.Result.{result_unwrap_or}
use Rattle.prelude.specs.Prelude.{when◌then◌else◌}
use Rattle.number.specs.declared.Refusal.{Refusal}
use Rattle.number.specs.declared.Refusal.TheVariants.{Card}
use Rattle.fields.specs.Fields.{byte_at, number_at}

-- ---- where the fields lie

-- the length that the header at i gives
abbrev pub size_at : List ℕ → ℕ → ℕ
size_at card i = number_at 2 card (i + 1)

-- where the field behind k others begins
unfoldable pub start_at : List ℕ → ℕ → ℕ
start_at card zero = 0
start_at card (suc k) = start_at card k + 3 + size_at card (start_at card k)

-- tags rise from 1, so field t stands behind t - 1 others
abbrev pub start_of : List ℕ → ℕ → ℕ
start_of card t = start_at card (t - 1)

-- the part of the card that is field t's contents
abbrev pub contents : List ℕ → ℕ → List ℕ
contents card t = take (size_at card (start_of card t)) (drop (start_of card t + 3) card)

-- ---- which cards are well formed

-- byte 0 alone, 1 with five floats, or 2 with four
abbrev pub is_lens : List ℕ → Bool
is_lens s =
    (eqb (length s) 1 && eqb (byte_at s 0) 0)
    || (eqb (length s) 41 && eqb (byte_at s 0) 1)
    || (eqb (length s) 33 && eqb (byte_at s 0) 2)

-- contents that suit their tag
abbrev pub suits : ℕ → List ℕ → Bool
suits t s =
    when eqb t 1 then eqb (length s) 6 else
    when eqb t 2 then true else
    when eqb t 3 then leb 1 (length s) else
    when eqb t 4 then eqb (length s) 16 else
    when eqb t 5 then eqb (length s) 64 else
    when eqb t 6 then eqb (length s) 1 && leb (byte_at s 0) 1 else
    when eqb t 7 then eqb (length s) 64 else
    is_lens s

-- field t is there: its header, its tag, all of its contents
abbrev pub has_field : List ℕ → ℕ → Bool
has_field card t =
    let i = start_of card t in
    leb (i + 3) (length card) && eqb (byte_at card i) t && leb (i + 3 + size_at card i) (length card) && suits t (contents card t)

-- the fields 1 to n are there, and nothing behind them
unfoldable pub has_fields : List ℕ → ℕ → Bool
has_fields card zero = true
has_fields card (suc n) = has_fields card n && has_field card (suc n)

abbrev pub has_exactly : List ℕ → ℕ → Bool
has_exactly card n = has_fields card n && eqb (start_at card n) (length card)

-- 1 to 6, or with a camera 1 to 8
abbrev pub well_formed : List ℕ → Bool
well_formed card = leb (length card) 65535 && (has_exactly card 6 || has_exactly card 8)

-- ---- the field finder: the part that it hands back

-- refused where the card is malformed and where the tag is not listed; empty where 7 or 8 is absent
abbrev pub field : List ℕ → ℕ → Result (List ℕ) Refusal
field card t =
    when leb 1 t && leb t 8 && well_formed card
    then Ok (when leb t 6 || has_exactly card 8 then contents card t else [])
    else Err Card

-- the part alone, empty where it is refused
abbrev pub field_part : List ℕ → ℕ → List ℕ
field_part card t = result_unwrap_or (field card t) []
