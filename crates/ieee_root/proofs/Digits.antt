-- The digits of a square root, from the highest, two digits of the number for each: what the loop of `digits_root` keeps. Assumes nothing.
use mathlib.Core.Path.{◌≡◌, sym, ap, ◌∙◌}
use Prim.Native.Nat.{ℕ, zero, suc, ◌+◌, ◌-◌, ◌*◌, ◌/◌, ◌%◌, ◌^◌, ◌≤◌, ◌<◌}
use native.Mathlib.Nat.{lt_of_lt_of_le, mul_comm, mul_assoc, mul_left_comm, mul-add, add-mul, pow-succ'}
use native.Mathlib.Numerals.{add-one}
use native.Mathlib.Omega.{arith}
use lib.Pow.{pow_mono}
use Rattle.ieee_root.specs.Root.{NearRoot}
use Rattle.ieee_root.proofs.WholeRoots.{square_next}

-- After i turns on A, a word of 64 digits: q * q + r is what the highest 2 * i digits of A make, with zeros after the word's end, and `rest` holds the digits that are left.
pub record Down (A i q r rest : ℕ) : Type 0 where
  pub whole : (q * q + r) * 2 ^ 64 + rest ≡ A * 4 ^ i
  pub left : r ≤ 2 * q
  pub small : q < 2 ^ i
  pub word : rest < 2 ^ 64
  pub turn : i ≤ 53

square_even : (q : ℕ) → q * 2 * (q * 2) ≡ 4 * (q * q)
square_even q = simp (mul_assoc, mul_comm, mul_left_comm) (omega arith)

square_odd : (q : ℕ) → (q * 2 + 1) * (q * 2 + 1) ≡ 4 * (q * q) + (4 * q + 1)
square_odd q = omega (arith, add-mul (q * 2) 1 (q * 2 + 1), mul-add (q * 2) (q * 2) 1, square_even q)

carry : (S r rest X : ℕ) → (S + r) * 2 ^ 64 + rest ≡ X → rest < 2 ^ 64 → (4 * S + (r * 4 + rest / 2 ^ 62)) * 2 ^ 64 + rest * 4 % 2 ^ 64 ≡ 4 * X
carry S r rest X h w = omega arith

four_more : (A i : ℕ) → 4 * (A * 4 ^ i) ≡ A * 4 ^ (i + 1)
four_more A i = mul_left_comm 4 A (4 ^ i) ∙ ap (λ (z : ℕ). A * z) (sym (pow-succ' 4 i)) ∙ ap (λ (z : ℕ). A * 4 ^ z) (sym (add-one i))

twice_more : (i : ℕ) → 2 ^ (i + 1) ≡ 2 * 2 ^ i
twice_more i = ap (λ (z : ℕ). 2 ^ z) (add-one i) ∙ pow-succ' 2 i

short : (x : ℕ) → x * 4 % 2 ^ 64 < 2 ^ 64
short x = omega arith

pub under : (A i q r rest : ℕ) → Down A i q r rest → i < 53 → q < 2 ^ 52
under A i q r rest v l = lt_of_lt_of_le v.small (pow_mono (back i l))
  where
    back : (i : ℕ) → i < 53 → i ≤ 52
    back i l = omega arith

pub under_last : (A i q r rest : ℕ) → Down A i q r rest → q < 2 ^ 53
under_last A i q r rest v = lt_of_lt_of_le v.small (pow_mono v.turn)

pub next_low : (A i q r rest : ℕ) → Down A i q r rest → i < 53 → r * 4 + rest / 2 ^ 62 < q * 4 + 1 → Down A (i + 1) (q * 2) (r * 4 + rest / 2 ^ 62) (rest * 4 % 2 ^ 64)
next_low A i q r rest v l h = record {
  whole = ap (λ (z : ℕ). (z + (r * 4 + rest / 2 ^ 62)) * 2 ^ 64 + rest * 4 % 2 ^ 64) (square_even q) ∙ carry (q * q) r rest (A * 4 ^ i) v.whole v.word ∙ four_more A i;
  left = omega arith;
  small = omega (arith, twice_more i);
  word = short rest;
  turn = omega arith;
}

joined : (S q d : ℕ) → q * 4 + 1 ≤ d → 4 * S + (4 * q + 1) + (d - (q * 4 + 1)) ≡ 4 * S + d
joined S q d h = omega arith

pub next_high : (A i q r rest : ℕ) → Down A i q r rest → i < 53 → q * 4 + 1 ≤ r * 4 + rest / 2 ^ 62 → Down A (i + 1) (q * 2 + 1) (r * 4 + rest / 2 ^ 62 - (q * 4 + 1)) (rest * 4 % 2 ^ 64)
next_high A i q r rest v l h = record {
  whole =
      ap (λ (z : ℕ). (z + (r * 4 + rest / 2 ^ 62 - (q * 4 + 1))) * 2 ^ 64 + rest * 4 % 2 ^ 64) (square_odd q)
      ∙ ap (λ (z : ℕ). z * 2 ^ 64 + rest * 4 % 2 ^ 64) (joined (q * q) q (r * 4 + rest / 2 ^ 62) h)
      ∙ carry (q * q) r rest (A * 4 ^ i) v.whole v.word
      ∙ four_more A i;
  left = omega arith;
  small = omega (arith, twice_more i);
  word = short rest;
  turn = omega arith;
}

-- ---- after 53 turns

done : (a S r rest : ℕ) → (S + r) * 2 ^ 64 + rest ≡ a * 1024 * 4 ^ 53 → rest < 2 ^ 64 → S + r ≡ a * 2 ^ 52
done a S r rest h w = omega arith

last : (i : ℕ) → i ≤ 53 → 53 ≤ i → i ≡ 53
last i h k = omega arith

pub all_of : (a i q r rest : ℕ) → Down (a * 1024) i q r rest → 53 ≤ i → q * q + r ≡ a * 2 ^ 52
all_of a i q r rest v h = done a (q * q) r rest (v.whole ∙ ap (λ (z : ℕ). a * 1024 * 4 ^ z) (last i v.turn h)) v.word

some : (n q r : ℕ) → q * q + r ≡ n → 0 < n → r ≤ q → 0 < q
some n zero r e p h = absurd (none e)
  where
    none : 0 * 0 + r ≡ n → ⊥
    none u = omega arith
some n (suc q) r e p h = omega arith

pub stays : (n q r : ℕ) → q * q + r ≡ n → 0 < n → r ≤ q → NearRoot n q
stays n q r e p h = let o : 0 < q = some n q r e p h in record { low = omega arith; high = omega arith }

pub goes_up : (n q r : ℕ) → q * q + r ≡ n → r ≤ 2 * q → q < r → NearRoot n (q + 1)
goes_up n q r e k h = record { low = omega (arith, square_next q); high = omega (arith, square_next q) }
