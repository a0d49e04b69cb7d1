-- The table obeys its rule. One test of two neighbours is computed over the whole table, and the law of neighbours turns it into the rule at each place. Assumes nothing.
use mathlib.Core.Path.{refl, subst, sym}
use mathlib.Core.Bool.{Bool, ◌&&◌}
use Prim.Native.Nat.{ℕ, zero, suc, ◌+◌, ◌-◌, ◌*◌, ◌^◌, ◌<◌, ◌≤◌}
use native.Mathlib.Numerals.{add-one}
use native.Mathlib.Nat.{lt_of_not-le}
use native.Mathlib.Decide.{dec_le}
use native.Mathlib.Omega.{arith}
use lib.Dec.{T, leb, ltb, leb→le, ltb→lt, lit<}
use lib.Ieee.Fits.{and_l, and_r}
use lib.ListN.{get_or, get_or-eq_default}
use Rattle.prelude.proofs.Tables.{neighbours, neighbours_at}
use Rattle.arctan_table.specs.Table.{entries, entry}
use Rattle.arctan_table.specs.Rule.{divisor, four_terms, three_terms, Spaced, Rule}

no_wider : ℕ → ℕ → ℕ → Bool
no_wider i a b = leb ((b - a - 1) * (105 * divisor i ^ 7)) (2 ^ 52 * four_terms (divisor i))

no_closer : ℕ → ℕ → ℕ → Bool
no_closer i a b = leb (2 ^ 52 * three_terms (divisor i)) ((b - a + 1) * (15 * divisor i ^ 5))

test : ℕ → ℕ → ℕ → Bool
test i a b = ltb b (2 ^ 53) && (no_wider i a b && no_closer i a b)

passed : T (neighbours test 0 entries)
unfolding test no_wider no_closer
passed = tt

test_at : (i : ℕ) → i < 256 → T (test i (get_or entries i 0) (get_or entries (suc i) 0))
test_at i h = neighbours_at test entries passed i (omega arith)

spaced : (i : ℕ) → i < 256 → Spaced i (entry i) (entry (i + 1))
unfolding entry test no_wider no_closer
spaced i h = rw (add-one i) (
    let a = get_or entries i 0 in
    let b = get_or entries (suc i) 0 in
    let both = and_r (ltb b (2 ^ 53)) (no_wider i a b && no_closer i a b) (test_at i h) in
    record {
      at_most = leb→le _ _ (and_l (no_wider i a b) (no_closer i a b) both);
      at_least = leb→le _ _ (and_r (no_wider i a b) (no_closer i a b) both);
    })

pub small : (i : ℕ) → entry i < 2 ^ 53
unfolding entry test
small zero = lit< tt
small (suc i) = go (dec_le 256 i)
  where
    go : Dec (256 ≤ i) → get_or entries (suc i) 0 < 2 ^ 53
    go (yes h) = subst (λ (x : ℕ). x < 2 ^ 53) (sym (get_or-eq_default entries 0 {n = suc i} (omega arith))) (lit< tt)
    go (no h) =
        let a = get_or entries i 0 in
        let b = get_or entries (suc i) 0 in
        ltb→lt b (2 ^ 53) (and_l (ltb b (2 ^ 53)) (no_wider i a b && no_closer i a b) (test_at i (lt_of_not-le h)))

pub table_rule : Rule
unfolding entry
table_rule = record { count = refl; first = refl; spaced = spaced; small = small }
