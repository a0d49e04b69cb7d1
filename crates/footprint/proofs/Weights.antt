-- What a footprint's cell has beside a place: the column and the row after it where they bear weight, and else the place's own. With the pixels that bear no weight put back,
-- it is document 01's cell. Assumes nothing.
use mathlib.Core.Path.{◌≡◌, refl, sym}
use Prim.Native.Nat.{ℕ, ◌+◌, ◌-◌, ◌*◌, ◌^◌, ◌≤◌, ◌<◌, min, zero-le}
use native.Mathlib.Nat.{le_trans, mul-one}
use native.Mathlib.Omega.{arith}
use mathlib.Core.Bool.{true, false, true≢false}
use lib.Ieee.{Float, nan, inf, fin, up, down, lt, of_bits}
use lib.Ieee.Casts.{to_unsigned-lt}
use borrow.Author.Tests.{ltb-false}
use Rattle.std.specs.Float.{float_is_finite}
use Rattle.ieee.specs.Floats.{◌⊖◌, float, whole_part}
use Rattle.ieee.proofs.Magnitudes.{Within, within_more, sub_within, float_within}
use Rattle.ieee_whole.proofs.WholeGuess.{float_value}
use Rattle.pixel.specs.declared.SourcePixel.{SourcePixel}
use Rattle.footprint.specs.declared.BorderMode.{BorderMode}
use Rattle.footprint.specs.declared.Footprint.{Footprint}
use Rattle.footprint.specs.declared.Footprint.TheVariants.{Rejected, Border, Cell}
use Rattle.footprint.specs.Footprints.{View}
use Rattle.footprint.specs.AllFour.{all_four}
use Rattle.footprint.specs.Footprints.{neighbour, interior_cell, footprint, viewed_footprint}
use Rattle.footprint.proofs.Cuts.{not_above}
use Rattle.footprint.proofs.Places.{Between, every_footprint, every_viewed}

-- document 01's cell of a place in the picture
pub all-four-is : (w h : ℕ) (x y : Float)
    → all_four w h (interior_cell w h x y)
    ≡ Cell (whole_part x) (whole_part y) (min (whole_part x + 1) (w - 1)) (min (whole_part y + 1) (h - 1)) (x ⊖ float (whole_part x)) (y ⊖ float (whole_part y))
unfolding all_four
all-four-is w h x y = refl

-- ---- the fractions are not large

pub between_within : (n : ℕ) (x : Float) → n < 2 ^ 53 → Between n x → Within n x
unfolding float_is_finite lt of_bits
between_within n nan N b = absurd (true≢false (sym b.finite))
between_within n (inf s) N b = absurd (true≢false (sym b.finite))
between_within n (fin true m e) N b = le_trans (none (m * up e * 1) (0 * 1 * down e) (ltb-false 0 (m * up e * 1 + 0 * 1 * down e) b.from) (mul-one (m * up e))) zero-le
  where
    none : (a b : ℕ) → a + b ≤ 0 → a ≡ m * up e → m * up e ≤ 0
    none a b h p = omega arith
between_within n (fin false m e) N b = not_above n (float n) m e (float_value n N) b.upto

fraction_within : (n : ℕ) (x : Float) → n < 2 ^ 32 → Between n x → Within (2 ^ 33) (x ⊖ float (whole_part x))
fraction_within n x N b =
    let whole : whole_part x < 2 ^ 32 = to_unsigned-lt 32 x in
    within_more (n + whole_part x) (2 ^ 33) (x ⊖ float (whole_part x)) (omega arith)
    (sub_within n (whole_part x) x (float (whole_part x)) (omega arith) (between_within n x (omega arith) b) (float_within (whole_part x) (omega arith)))

-- ---- of every footprint

-- the right column and the lower row are those that bear weight, and the x fraction is not large
unfoldable pub Weighed : ℕ → ℕ → Footprint → Type 0
Weighed w h Rejected = Unit {0}
Weighed w h (Border v) = Unit {0}
Weighed w h (Cell x0 y0 x1 y1 fx fy) = (x1 ≡ neighbour x0 w fx) × (y1 ≡ neighbour y0 h fy) × Within (2 ^ 33) fx

module _ (w h : ℕ) (wide : w < 2 ^ 32) (high : h < 2 ^ 32) where
  inside_weighed : (x y : Float) → Between (w - 1) x → Between (h - 1) y → Weighed w h (interior_cell w h x y)
  unfolding Weighed
  inside_weighed x y bx by = (refl, refl, fraction_within (w - 1) x (omega arith) bx)

  pub footprint_weighed : (b : BorderMode) (x y : Float) → Weighed w h (footprint w h b x y)
  unfolding Weighed
  footprint_weighed = every_footprint w h wide high (Weighed w h) tt (λ v. tt) inside_weighed

  pub viewed_weighed : (v : View) (q : SourcePixel) → Weighed w h (viewed_footprint w h v q)
  unfolding Weighed
  viewed_weighed = every_viewed w h wide high (Weighed w h) tt (λ v. tt) inside_weighed
