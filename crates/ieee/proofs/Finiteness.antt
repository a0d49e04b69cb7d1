-- Nothing finite comes of a value that is not finite: each operation hands an infinity or a NaN on, and only as a divisor does an infinity get lost.
-- Assumes nothing.
use mathlib.Core.Path.{◌≡◌, refl}
use mathlib.Core.Bool.{Bool, true, false, cond, beq, true≢false}
use lib.Dec.{eqb}
use lib.Ieee.{Float, nan, inf, fin, neg, add, sub, mul, div, unlike}
use Rattle.std.specs.Float.{float_is_finite}
use Rattle.ieee.specs.Parts.{is_finite}
use Rattle.ieee.specs.Floats.{◌⊕◌, ◌⊖◌, ◌⊗◌, ◌⊘◌}

abbrev pub Lost : Float → Type 0
Lost x = is_finite x ≡ false

-- an infinity, or a NaN
either : (b : Bool) (s : Bool) → Lost (cond b (inf s) nan)
unfolding float_is_finite
either true s = refl
either false s = refl

other : (b : Bool) (s : Bool) → Lost (cond b nan (inf s))
unfolding float_is_finite
other true s = refl
other false s = refl

-- ---- the first

pub lost_add : (x y : Float) → Lost x → Lost (x ⊕ y)
unfolding float_is_finite add
lost_add nan y h = refl
lost_add (inf s) nan h = refl
lost_add (inf s) (inf t) h = either (beq s t) s
lost_add (inf s) (fin t n d) h = refl
lost_add (fin s m e) y h = absurd (true≢false h)

pub lost_sub : (x y : Float) → Lost x → Lost (x ⊖ y)
unfolding sub
lost_sub x y h = lost_add x (neg y) h

pub lost_mul : (x y : Float) → Lost x → Lost (x ⊗ y)
unfolding float_is_finite mul
lost_mul nan y h = refl
lost_mul (inf s) nan h = refl
lost_mul (inf s) (inf t) h = refl
lost_mul (inf s) (fin t n d) h = other (eqb n 0) (unlike s t)
lost_mul (fin s m e) y h = absurd (true≢false h)

pub lost_div : (x y : Float) → Lost x → Lost (x ⊘ y)
unfolding float_is_finite div
lost_div nan y h = refl
lost_div (inf s) nan h = refl
lost_div (inf s) (inf t) h = refl
lost_div (inf s) (fin t n d) h = refl
lost_div (fin s m e) y h = absurd (true≢false h)

-- ---- the second

pub add_lost : (x y : Float) → Lost y → Lost (x ⊕ y)
unfolding float_is_finite add
add_lost nan y h = refl
add_lost (inf s) y h = lost_add (inf s) y refl
add_lost (fin s m e) nan h = refl
add_lost (fin s m e) (inf t) h = refl
add_lost (fin s m e) (fin t n d) h = absurd (true≢false h)

pub mul_lost : (x y : Float) → Lost y → Lost (x ⊗ y)
unfolding float_is_finite mul
mul_lost nan y h = refl
mul_lost (inf s) y h = lost_mul (inf s) y refl
mul_lost (fin s m e) nan h = refl
mul_lost (fin s m e) (inf t) h = other (eqb m 0) (unlike s t)
mul_lost (fin s m e) (fin t n d) h = absurd (true≢false h)
