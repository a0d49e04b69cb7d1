-- Numbers in bytes, the lowest first: past the end they are 0, and how a loop reads one from its highest byte down. A number of n bytes is its lowest
-- byte and 256 times the number behind it, so each turn is one step of that. Assumes nothing.
use Prim.Native.Nat.{ℕ, zero, suc, ◌+◌, ◌-◌, ◌*◌, ◌^◌, ◌≤◌, ◌<◌}
use mathlib.Core.Path.{◌≡◌, refl, sym}
use mathlib.Core.List.{List}
use native.Mathlib.Omega.{arith}
use native.Mathlib.Nat.{pow-suc, pow-le-pow_right}
use lib.ListN.{length, get_or-eq_default}
use Rattle.fields.specs.Fields.{byte_at, number_at}

-- ---- past the end

all_zero : (n : ℕ) (s : List ℕ) (i : ℕ) → length s ≤ i → number_at n s i ≡ 0
unfolding number_at
all_zero zero s i past = refl
all_zero (suc n) s i past = rw (get_or-eq_default s 0 past, all_zero n s (suc i) (omega arith))

pub read_past : (n : ℕ) (s : List ℕ) (i : ℕ) → length s ≤ i → (0 ≡ number_at n s i) × (0 < 256 ^ n)
read_past n s i past =
    let some : 256 ^ 0 ≤ 256 ^ n = pow-le-pow_right {n = 256} (omega arith) {i = 0} {j = n} (omega arith) in
    (sym (all_zero n s i past), omega arith)

-- ---- reading from the highest byte down

-- the bytes from k on, of the n from i on, have come to v
pub record Read (s : List ℕ) (i n k v : ℕ) : Type 0 where
  pub within : k ≤ n
  pub is : v ≡ number_at (n - k) s (i + k)
  pub below : v < 256 ^ (n - k)

pub read_none : (s : List ℕ) (i n : ℕ) → Read s i n n 0
unfolding number_at
read_none s i n =
    let none : n - n ≡ 0 = omega arith in
    record { within = omega arith; is = rw none; below = rw none (omega arith) }

pub read_more : (s : List ℕ) (i n k v b : ℕ) → 0 < k → Read s i n k v → b ≡ byte_at s (i + (k - 1)) → b < 256 → Read s i n (k - 1) (v * 256 + b)
unfolding number_at
read_more s i n k v b some r at small =
    let one_more : n - (k - 1) ≡ suc (n - k) = omega arith in
    let next : suc (i + (k - 1)) ≡ i + k = omega arith in
    record {
      within = omega arith;
      is = rw (one_more, next) (omega arith);
      below = rw one_more (omega (arith, pow-suc 256 (n - k)));
    }

pub read_whole : (s : List ℕ) (i n v : ℕ) → Read s i n 0 v → (v ≡ number_at n s i) × (v < 256 ^ n)
read_whole s i n v r =
    let all : n - 0 ≡ n = omega arith in
    let here : i + 0 ≡ i = omega arith in
    (rw (all, here) at r.is, rw all at r.below)

-- one more byte still fits 64 bits
pub read_room : (s : List ℕ) (i n k v : ℕ) → n ≤ 8 → 0 < k → Read s i n k v → v < 2 ^ 56
read_room s i n k v most some r =
    let h : 256 ^ (n - k) ≤ 256 ^ 7 = pow-le-pow_right {n = 256} (omega arith) {i = n - k} {j = 7} (omega arith) in
    omega arith
