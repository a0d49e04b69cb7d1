-- `angle` meets its contract: an entry has no sign, and is exact as a float. Assumes nothing.
use mathlib.Core.Path.{◌≡◌, sym, ap, ◌∙◌, subst}
use Prim.Native.Nat.{ℕ, ◌^◌, ◌<◌}
use native.Mathlib.Omega.{arith}
use lib.IntN.{ℤ, pos}
use lib.Dec.{T}
use lib.Ieee.{binary64, of_int, in_float}
use Rattle.std.proofs.Common.{w64, to_z}
use borrow.Author.Rules.{sfits_of}
use Rattle.std.proofs.lemmas.Int.{to_z_pos}
use Rattle.ieee.specs.Floats.{◌⊘◌}
use Rattle.arctan_table.specs.Table.{entry}
use Rattle.arctan_table.proofs.Rule.{small}
use Rattle.arctan.specs.Arctan.{f2^52}
use Rattle.arctan.proofs.Numbers.{exact_entry}
use Rattle.arctan.proofs.angle.Goals as goal

low : (i n : ℕ) → n ≡ entry i → n < 2 ^ 63
low i n e = let h = subst (λ (k : ℕ). k < 2 ^ 53) (sym e) (small i) in omega arith

unsigned : (i n : ℕ) → n ≡ entry i → to_z w64 n ≡ pos n
unsigned i n e = to_z_pos w64 n (low i n e)

pub overflow_cast-result : goal.overflow_cast-result
overflow_cast-result c = sfits_of (low c.args.i c.entry.result c.entry.ensures)

pub int_to_float-result : goal.int_to_float-result
int_to_float-result c = subst (λ (z : ℤ). T (in_float binary64 z)) (sym (unsigned c.args.i c.entry.result c.entry.ensures)) (exact_entry c.args.i c.entry.result c.entry.ensures)

pub returns : goal.returns
returns c = ap (λ (z : ℤ). of_int binary64 z ⊘ f2^52) (unsigned c.args.i c.entry.result c.entry.ensures ∙ ap pos c.entry.ensures)
