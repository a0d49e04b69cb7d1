-- `ieee_root::scaled_root` meets its contract. m * 2 ^ g is n * 4 ^ k, with n = m * 2 ^ (g % 2) * 2 ^ 52 and k = g / 2 - 26. Assumes nothing.
use mathlib.Core.Path.{◌≡◌, sym, ap, ◌∙◌, subst}
use Prim.Native.Nat.{ℕ, ◌+◌, ◌-◌, ◌*◌, ◌/◌, ◌%◌, ◌^◌, ◌≤◌, ◌<◌}
use native.Mathlib.Omega.{arith}
use lib.Ieee.{binary64, of_bits}
use Rattle.ieee_root.specs.Root.{root_units, NearRoot}
use Rattle.ieee.proofs.Patterns.{no_nan_small}
use Rattle.ieee_root.proofs.Scaled.{Shifted, shifted, k-high, r-high, root_pattern}
use Rattle.ieee_root.proofs.scaled_root.Goals as goal
use Rattle.ieee_root.proofs.scaled_root.Goals.{Start}

-- ---- the call's result

module _ (m g a r : ℕ) (S : Shifted m (g % 2) a) (G : 1022 ≤ g) (H : g < 3121) (N : NearRoot (a * 2 ^ 52) r) where
  abbrev k : ℕ
  k = g / 2 - 26

  k_lt : k < 1535
  k_lt = k-high m g a S G H

  -- the pattern, as the code puts it together
  sum_is : k * 2 ^ 52 % 2 ^ 64 ≡ k * 2 ^ 52
  sum_is = go k k_lt
    where
      go : (k : ℕ) → k < 1535 → k * 4503599627370496 % 18446744073709551616 ≡ k * 4503599627370496
      go k h = omega arith

  sum_lt : k * 2 ^ 52 % 2 ^ 64 + r < 0x7ff0_0000_0000_0000
  sum_lt = subst (λ (z : ℕ). z + r < 0x7ff0_0000_0000_0000) (sym sum_is) (go k k_lt (r-high m g a S G H r N))
    where
      go : (k : ℕ) → k < 1535 → r < 9007199254740992 → k * 4503599627370496 + r < 9218868437227405312
      go k h l = omega arith

  result : of_bits binary64 (k * 2 ^ 52 % 2 ^ 64 + r) ≡ root_units binary64 (m * 2 ^ g)
  result = ap (λ (z : ℕ). of_bits binary64 (z + r)) sum_is ∙ root_pattern m g a S G H r N

-- m << (g % 2), which the call works on
abbrev a : Start → ℕ
a c = c.args.m.digits * 2 ^ (c.args.g % 2)

held : (c : Start) → Shifted c.args.m.digits (c.args.g % 2) (a c)
held c =
    let s = shifted c.args.m.digits (c.args.g % 2) (omega arith) c.args.m.normal.0 c.args.m.normal.1 in
    subst (λ (z : ℕ). Shifted c.args.m.digits (c.args.g % 2) z) s.0 s

pub float_from_bits-result : goal.float_from_bits-result
float_from_bits-result c =
    let s = (goal.at.float_from_bits-result c).Start in
    no_nan_small _ (sum_lt s.args.m.digits s.args.g (a s) c.rounded_root-r.result (held s) s.requires.exponent.0 s.requires.exponent.1 c.rounded_root-r.ensures)

pub returns : goal.returns
returns c =
    let s = (goal.at.returns c).Start in
    result s.args.m.digits s.args.g (a s) c.rounded_root-r.result (held s) s.requires.exponent.0 s.requires.exponent.1 c.rounded_root-r.ensures
