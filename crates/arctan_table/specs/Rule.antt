-- The rule that the table of the arctangent obeys: entry 0 is 0, each entry is below 2 to the 53,
-- and two neighbours differ by 2 to the 52 times the arctangent of 256 / d, within one unit, where
-- d is 65,536 + i (i + 1). Definitions only, to be believed; that the table obeys it is the theorem
-- `table_rule` of proofs/Rule. That arctangent is the angle between the two: its tangent is ((i +
-- 1) / 256 - i / 256) / (1 + i / 256 * (i + 1) / 256). It lies between two successive partial sums
-- of its series, x - x³ / 3 + x⁵ / 5 - x⁷ / 7 .. at x = 256 / d, which are kept as fractions.
use Rattle.std.specs.Prelude.{ℕ, ◌≡◌, ◌+◌, ◌-◌, ◌*◌, ◌^◌, ◌≤◌, ◌<◌, length}
use Rattle.arctan_table.specs.Table.{entries, entry}

abbrev pub divisor : ℕ → ℕ
divisor i = 65536 + i * (i + 1)

-- the sum of four terms, below the arctangent, over 105 d⁷
abbrev pub four_terms : ℕ → ℕ
four_terms d = 105 * 256 * d ^ 6 - 35 * 256 ^ 3 * d ^ 4 + 21 * 256 ^ 5 * d ^ 2 - 15 * 256 ^ 7

-- the sum of three terms, above the arctangent, over 15 d⁵
abbrev pub three_terms : ℕ → ℕ
three_terms d = 15 * 256 * d ^ 4 - 5 * 256 ^ 3 * d ^ 2 + 3 * 256 ^ 5

-- a and b, the entries i and i + 1, differ by at most one unit more and at least one unit less
pub record Spaced (i a b : ℕ) : Type 0 where
  pub at_most : (b - a - 1) * (105 * divisor i ^ 7) ≤ 2 ^ 52 * four_terms (divisor i)
  pub at_least : 2 ^ 52 * three_terms (divisor i) ≤ (b - a + 1) * (15 * divisor i ^ 5)

pub record Rule : Type 0 where
  pub count : length entries ≡ 257
  pub first : entry 0 ≡ 0
  pub spaced : (i : ℕ) → i < 256 → Spaced i (entry i) (entry (i + 1))
  pub small : (i : ℕ) → entry i < 2 ^ 53
