-- What the field finder hands back. In a well formed card the fields 1 to 6 are there, and 7 and 8 exactly where it has eight: a card that ends
-- behind field 6 has no room for the header of a seventh. Assumes nothing.
use Prim.Native.Nat.{ℕ, ◌≤◌}
use mathlib.Core.Bool.{Bool, true, false, ◌||◌, or-true, or-false}
use mathlib.Core.Path.{◌≡◌, refl}
use mathlib.Core.List.{List, []}
use native.Mathlib.Omega.{arith}
use borrow.Author.Tests.{le-leb, leb-true, leb-false, eqb-true}
use lib.Dec.{leb, eqb}
use lib.ListN.{length}
use Rattle.prelude.proofs.Tests.{both}
use Rattle.prelude.specs.Prelude.{when◌then◌else◌}
use Rattle.prelude.proofs.Branches.{by_test}
use Rattle.number.specs.declared.Refusal.{Refusal}
use Rattle.std.specs.Borrow.{Bor}
use Rattle.std.specs.Prelude.{Option, Some, None, Result, Ok, unwrap_or, option_copied}
use Rattle.job_card.specs.JobCard.{start_at, contents, has_fields, has_exactly, well_formed, field}
use Rattle.job_card.proofs.Walks.{fewer, broken, no_header}

whole : (card : List ℕ) (n : ℕ) → has_exactly card n ≡ true → (has_fields card n ≡ true) × (start_at card n ≡ length card)
whole card n e = let w = both (has_fields card n) (eqb (start_at card n) (length card)) e in (w.0, eqb-true _ _ w.1)

-- a card that ends behind field 6 has no field 7
no_seventh : (card : List ℕ) (n : ℕ) → start_at card 6 ≡ length card → 7 ≤ n → has_fields card n ≡ false
no_seventh card n end more = broken card 7 n (omega arith) more (no_header card 7 (start_at card 6) refl (omega arith))

-- a field of a well formed card is there where its tag is at most 6, or where the card has eight
listed : (card : List ℕ) (t : ℕ) → t ≤ 8 → well_formed card ≡ true → (leb t 6 || has_exactly card 8) ≡ has_fields card t
listed card t most good =
    let six-or-eight = (both (leb (length card) 65535) (has_exactly card 6 || has_exactly card 8) good).1 in
    by_test (has_exactly card 8)
    (λ eight. rw (eight, or-true, fewer card t 8 most (whole card 8 eight).0))
    (λ shorter.
    let six = whole card 6 (rw (shorter, or-false) at six-or-eight) in
    by_test (leb t 6)
    (λ low. rw (low, fewer card t 6 (leb-true t 6 low) six.0))
    (λ high. rw (high, shorter, no_seventh card t six.1 (leb-false t 6 high))))

pub found : (card : List ℕ) (t : ℕ) → 1 ≤ t → t ≤ 8 → well_formed card ≡ true
    → field card t ≡ Ok (unwrap_or (when has_fields card t then Some (contents card t) else None) [])
found card t some most good = rw (le-leb 1 t some, le-leb t 8 most, good, listed card t most good) (go (has_fields card t))
  where
    go : (b : Bool) → ◌≡◌ {A = Result (List ℕ) Refusal} (Ok (when b then contents card t else [])) (Ok (unwrap_or (when b then Some (contents card t) else None) []))
    go true = refl
    go false = refl

-- the bytes behind a reference that may be there
pub unwrap_or-now : (o : Option (Bor (List ℕ))) (e : Bor (List ℕ)) → (unwrap_or o e).now ≡ unwrap_or (option_copied o) e.now
unwrap_or-now None e = refl
unwrap_or-now (Some x) e = refl
