-- `ieee::abs` meets its contract: a NaN is as it is, and of another value the sign bit is cleared. Assumes nothing.
use mathlib.Core.Path.{◌≡◌, refl, sym, ap, ◌∙◌, subst}
use mathlib.Core.Bool.{Bool, true, not, true≢false}
use lib.Bits.{bit_and}
use lib.Dec.{T}
use lib.Ieee.{Float, nan, inf, fin, binary64, to_bits, of_bits, fits, is_nan}
use lib.Ieee.Bits.{of_bits-to_bits, nan_bits_is}
use Rattle.std.specs.Float.{float_with_sign}
use Rattle.ieee.specs.Parts.{magnitude}
use Rattle.ieee.proofs.Patterns.{yes, unsigned, magnitude-bits}
use Rattle.ieee.proofs.abs.Goals as goal

cleared : (x : Float) → T (fits binary64 x) → of_bits binary64 (bit_and (to_bits binary64 x) 0x7fff_ffff_ffff_ffff) ≡ magnitude x
cleared x f = ap (of_bits binary64) (unsigned (to_bits binary64 x)) ∙ magnitude-bits (to_bits binary64 x) ∙ ap magnitude (of_bits-to_bits binary64 x f)

same_nan : (x : Float) → is_nan x ≡ is_nan (magnitude x)
unfolding is_nan float_with_sign
same_nan nan = refl
same_nan (inf s) = refl
same_nan (fin s m e) = refl

of_nan : (x : Float) → true ≡ is_nan x → x ≡ magnitude x
unfolding is_nan float_with_sign
of_nan nan h = refl
of_nan (inf s) h = absurd (true≢false h)
of_nan (fin s m e) h = absurd (true≢false h)

pub float_from_bits-result : goal.float_from_bits-result
float_from_bits-result c =
    let x = c.args.x in
    subst (λ (b : Bool). T (not b))
    (same_nan x ∙ ap is_nan (sym (cleared x (yes c.well_formed.0.1))) ∙ sym (nan_bits_is binary64 (bit_and (to_bits binary64 x) 0x7fff_ffff_ffff_ffff)))
    c.if-is_nan.ensures.not_nan

pub returns-then-is_nan : goal.returns-then-is_nan
returns-then-is_nan c = of_nan c.args.x c.if-is_nan.ensures.value

pub returns-else-is_nan : goal.returns-else-is_nan
returns-else-is_nan c = cleared c.args.x (yes c.well_formed.0.1)
