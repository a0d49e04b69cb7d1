-- A float that is no number is the NaN, and an entry of the table is exact as a float. Assumes nothing.
use Prim.Native.Nat.{ℕ, ◌^◌}
use mathlib.Core.Path.{◌≡◌, refl}
use mathlib.Core.Bool.{true, false≢true}
use native.Mathlib.Nat.{le_of_lt}
use lib.IntN.{pos}
use lib.Dec.{T, le→leb}
use lib.Ieee.{Float, nan, inf, fin, binary64, in_float, is_nan}
use Rattle.arctan_table.specs.Table.{entry}
use Rattle.arctan_table.proofs.Rule.{small}

pub nan_only : (x : Float) → is_nan x ≡ true → x ≡ nan
unfolding is_nan
nan_only nan h = refl
nan_only (inf s) h = absurd (false≢true h)
nan_only (fin s m e) h = absurd (false≢true h)

pub exact_entry : (i n : ℕ) → n ≡ entry i → T (in_float binary64 (pos n))
unfolding in_float
exact_entry i n e = rw e (le→leb (entry i) (2 ^ 53) (le_of_lt (small i)))
