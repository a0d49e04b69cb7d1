-- A place in the picture where all four pixels bear weight: its column and row are not the last, since there the fraction is 0. Assumes nothing.
use mathlib.Core.Path.{◌≡◌, refl, sym, ap, ◌∙◌, subst}
use Prim.Native.Nat.{ℕ, zero, suc, ◌+◌, ◌-◌, ◌*◌, ◌/◌, ◌^◌, ◌≤◌, ◌<◌, min}
use native.Mathlib.Nat.{le_antisymm, le_trans, le_of_eq, le-div_iff_mul-le, mul-one, zero-mul, zero-lt-suc}
use native.Mathlib.Omega.{arith}
use mathlib.Core.Bool.{Bool, true, false, true≢false}
use lib.Ieee.{Float, nan, inf, fin, up, down, of_int, to_unsigned}
use lib.Ieee.Exact.{HasValue}
use lib.Dec.{ltb}
use borrow.Author.Tests.{ltb-true, ltb-false}
use Rattle.std.specs.Float.{float_is_finite}
use Rattle.ieee.specs.Floats.{◌⊖◌, ◌≐◌, f0, float, whole_part}
use Rattle.ieee.proofs.Magnitudes.{Within}
use Rattle.ieee.proofs.Order.{gone}
use Rattle.ieee.proofs.Zeros.{Zero, round_zero, zero_minus, above_zero, minus_itself, equals_zero}
use Rattle.ieee_whole.specs.declared.Split.{Split}
use Rattle.std.specs.Prelude.{Some}
use Rattle.ieee_whole.specs.Whole.{split_whole, split_between}
use Rattle.ieee_whole.proofs.WholeGuess.{float_value, wholes_are}
use Rattle.footprint.specs.declared.Footprint.TheVariants.{Cell}
use Rattle.footprint.specs.Footprints.{neighbour, interior_cell, inside}
use Rattle.footprint.proofs.Cuts.{not_above, whole_part_le}
use Rattle.footprint.proofs.Places.{Between, inside_between}
use Rattle.footprint.proofs.Weights.{between_within}

-- a value whose whole part is n, and that is no more than n, is n
is_whole : (n : ℕ) (x : Float) → n < 2 ^ 32 → 0 < n → Between n x → n ≤ whole_part x → HasValue x false n 1
unfolding float_is_finite to_unsigned
is_whole n nan N P b h = absurd (true≢false (sym b.finite))
is_whole n (inf s) N P b h = absurd (true≢false (sym b.finite))
is_whole n (fin true m e) N P b h = absurd (omega arith)
is_whole n (fin false m e) N P b h =
    (refl, mul-one (m * up e) ∙ le_antisymm (not_above n (float n) m e (float_value n (omega arith)) b.upto) ((le-div_iff_mul-le (lib.Ieee.Fits.down_pos e)).0 (uncapped (m * up e / down e) h)))
  where
    uncapped : (q : ℕ) → n ≤ min q (2 ^ 32 - 1) → n ≤ q
    uncapped q k = omega arith

-- and one from 0 to 0 is a zero
is_zero : (x : Float) → Within 0 x → Zero x
is_zero nan h = h
is_zero (inf s) h = h
is_zero (fin s m e) h = gone m (up e) (lib.Ieee.Fits.up_pos e) (le_trans h (le_of_eq (zero-mul (down e))))

none : Zero (float 0)
unfolding of_int
none = round_zero false 0 1 (zero-lt-suc 0) refl

no_fraction : (n : ℕ) (x : Float) → n < 2 ^ 32 → Between n x → n ≤ whole_part x → Zero (x ⊖ float n)
no_fraction zero x N b h = zero_minus x (float 0) (is_zero x (between_within 0 x (omega arith) b)) none
no_fraction (suc n) x N b h = minus_itself (suc n) x (float (suc n)) (is_whole (suc n) x N (zero-lt-suc n) b h) (float_value (suc n) (omega arith))

-- with a fraction it is before n
before_last : (n : ℕ) (x : Float) → n < 2 ^ 32 → Between n x → ((x ⊖ float (whole_part x)) ≐ f0) ≡ false → whole_part x < n
before_last n x N b weighs = by (ltb (whole_part x) n) refl
  where
    by : (l : Bool) → ltb (whole_part x) n ≡ l → whole_part x < n
    by true e = ltb-true (whole_part x) n e
    by false e =
        let reached : n ≤ whole_part x = ltb-false (whole_part x) n e in
        let same : whole_part x ≡ n = le_antisymm (whole_part_le n x (omega arith) b.finite b.upto) reached in
        absurd (true≢false (sym (equals_zero (x ⊖ float (whole_part x)) (subst (λ (k : ℕ). Zero (x ⊖ float k)) (sym same) (no_fraction n x N b reached))) ∙ weighs))

-- ---- the column or row after i

pub with_weight : (i n : ℕ) (f : Float) {j : ℕ} → (f ≐ f0) ≡ false → j ≡ min (i + 1) (n - 1) → j ≡ neighbour i n f
with_weight i n f h e = rw (h, neighbour) e

-- ---- a sample inside, both of whose coordinates lie between whole numbers

module _
    (w h : ℕ)
    (wide : w < 2 ^ 32)
    (high : h < 2 ^ 32)
    (x y : Float)
    (within : inside w h x y ≡ true)
    {a d : Split}
    (across : Some a ≡ split_between x)
    (down : Some d ≡ split_between y)
  where
    split_x : a ≡ split_whole x
    split_x = (wholes_are x across).0

    split_y : d ≡ split_whole y
    split_y = (wholes_are y down).0

    right : (a.left ≐ f0) ≡ false
    right = above_zero a.left (wholes_are x across).1

    lower : (d.left ≐ f0) ≡ false
    lower = above_zero d.left (wholes_are y down).1

    pub inner_places : (a.whole < w - 1) × (d.whole < h - 1)
    inner_places =
        let between = inside_between w h x y within in (
          rw split_x (before_last (w - 1) x (omega arith) between.0 (rw split_x at right)),
          rw split_y (before_last (h - 1) y (omega arith) between.1 (rw split_y at lower)),
        )

    pub inner_cell : Cell a.whole d.whole (a.whole + 1) (d.whole + 1) a.left d.left ≡ interior_cell w h x y
    inner_cell =
        ap (λ (i : ℕ). Cell a.whole d.whole i (d.whole + 1) a.left d.left) (with_weight a.whole w a.left right (uncut a.whole (w - 1) inner_places.0))
        ∙ ap (λ (i : ℕ). Cell a.whole d.whole (neighbour a.whole w a.left) i a.left d.left) (with_weight d.whole h d.left lower (uncut d.whole (h - 1) inner_places.1))
        ∙ rw (split_x, split_y)
      where
        uncut : (i n : ℕ) → i < n → i + 1 ≡ min (i + 1) n
        uncut i n l = omega arith
