-- m * 2 ^ g as n * 4 ^ k, for an m of 53 digits and an n whose root has 53: n = a * 2 ^ 52, with a = m * 2 ^ (g % 2), and k = g / 2 - 26. Assumes nothing.
use mathlib.Core.Path.{◌≡◌, sym, ap, ◌∙◌}
use Prim.Native.Nat.{ℕ, zero, suc, ◌+◌, ◌-◌, ◌*◌, ◌/◌, ◌%◌, ◌^◌, ◌≤◌, ◌<◌}
use native.Mathlib.Nat.{mul_assoc, mul-le-mul_right}
use native.Mathlib.Omega.{arith}
use lib.Pow.{pow-add}
use lib.Ieee.{binary64, of_bits}
use Rattle.ieee_root.specs.Root.{root_units, NearRoot}
use Rattle.ieee_root.proofs.WholeRoots.{root-units, near_low, near_high, pattern_is}

-- ---- m shifted by one place or none

abbrev pub Shifted : ℕ → ℕ → ℕ → Type 0
Shifted m p a = (a ≡ m * 2 ^ p) × (2 ^ 52 ≤ a) × (a + 1 < 2 ^ 54)

pub shifted : (m p : ℕ) → p < 2 → 2 ^ 52 ≤ m → m < 2 ^ 53 → Shifted m p (m * 2 ^ p % 2 ^ 64)
shifted m zero h l u = (omega arith, omega arith, omega arith)
shifted m (suc zero) h l u = (omega arith, omega arith, omega arith)
shifted m (suc (suc p)) h l u = absurd (none p h)
  where
    none : (p : ℕ) → suc (suc p) < 2 → ⊥
    none p h = omega arith

module _ (m g a : ℕ) (S : Shifted m (g % 2) a) (G : 1022 ≤ g) (H : g < 3121) where
  pub n-low : 2 ^ 104 ≤ a * 2 ^ 52
  n-low = mul-le-mul_right (2 ^ 52) S.1

  pub n-high : a * 2 ^ 52 ≤ (2 ^ 54 - 2) * 2 ^ 52
  n-high = mul-le-mul_right (2 ^ 52) (go S.2)
    where
      go : a + 1 < 18014398509481984 → a ≤ 18014398509481982
      go h = omega arith

  pub n-lt : a * 2 ^ 52 < 2 ^ 106
  n-lt = go S.2
    where
      go : a + 1 < 18014398509481984 → a * 2 ^ 52 < 2 ^ 106
      go h = omega arith

  abbrev pub k : ℕ
  k = g / 2 - 26

  pub k-high : k < 1535
  k-high = omega arith

  exponent : g % 2 + (52 + 2 * k) ≡ g
  exponent = omega arith

  pub scaled : a * 2 ^ 52 * 2 ^ (2 * k) ≡ m * 2 ^ g
  scaled =
      mul_assoc a (2 ^ 52) (2 ^ (2 * k))
      ∙ ap (λ (z : ℕ). a * z) (sym (pow-add 2 52 (2 * k)))
      ∙ ap (λ (z : ℕ). z * 2 ^ (52 + 2 * k)) S.0
      ∙ mul_assoc m (2 ^ (g % 2)) (2 ^ (52 + 2 * k))
      ∙ ap (λ (z : ℕ). m * z) (sym (pow-add 2 (g % 2) (52 + 2 * k)))
      ∙ ap (λ (z : ℕ). m * 2 ^ z) exponent

  pub r-low : (r : ℕ) → NearRoot (a * 2 ^ 52) r → 2 ^ 52 ≤ r
  r-low r N = near_low (a * 2 ^ 52) r n-low N

  pub r-high : (r : ℕ) → NearRoot (a * 2 ^ 52) r → r < 2 ^ 53
  r-high r N = near_high (a * 2 ^ 52) r n-high N

  -- the root's pattern
  pub root_pattern : (r : ℕ) → NearRoot (a * 2 ^ 52) r → of_bits binary64 (k * 2 ^ 52 + r) ≡ root_units binary64 (m * 2 ^ g)
  root_pattern r N = pattern_is r k (r-low r N) (r-high r N) (room k k-high) ∙ sym (root-units (a * 2 ^ 52) k r n-low n-lt N) ∙ ap (root_units binary64) scaled
    where
      room : (k : ℕ) → k < 1535 → k < 2046
      room k h = omega arith

-- a pattern with the root's exponent is the root's where its digits are
pub split_pattern : (c g : ℕ) → 1022 ≤ g → c / 2 ^ 52 ≡ g / 2 - 25 → c ≡ (g / 2 - 26) * 2 ^ 52 + (2 ^ 52 + c % 2 ^ 52)
split_pattern c g G e = omega arith
