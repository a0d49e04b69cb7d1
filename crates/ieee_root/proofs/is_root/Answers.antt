-- `ieee_root::is_root` meets its contract: a value is its pattern's, and the pattern has the root's exponent and digits. Assumes nothing.
use mathlib.Core.Path.{sym, ap, ◌∙◌}
use Prim.Native.Nat.{ℕ, ◌+◌, ◌-◌, ◌*◌, ◌/◌, ◌^◌}
use lib.Ieee.{binary64, of_bits}
use lib.Ieee.Bits.{of_bits-to_bits}
use Rattle.ieee.proofs.Patterns.{yes}
use Rattle.ieee_root.proofs.Scaled.{root_pattern, split_pattern}
use Rattle.ieee_root.proofs.is_root.Goals as goal

pub returns-then-b-g : goal.returns-then-b-g
returns-then-b-g c = λ h.
    let k : ℕ = c.args.g / 2 - 26 in
    let a = c.shifted.result in
    sym (of_bits-to_bits binary64 c.args.r (yes c.well_formed.0.1))
    ∙ ap (of_bits binary64) (sym c.bits_of-b.ensures ∙ split_pattern c.bits_of-b.result c.args.g c.requires.exponent.0 c.if-b-g.true)
    ∙ ap (λ (q : ℕ). of_bits binary64 (k * 2 ^ 52 + q)) (sym c.of_bits.ensures)
    ∙ root_pattern c.args.m.digits c.args.g a.value (c.shifted.ensures, a.bounds.0, a.bounds.1) c.requires.exponent.0 c.requires.exponent.1 c.of_bits.result.digits (c.is_near_root.ensures h)
