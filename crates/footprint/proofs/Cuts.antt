-- A footprint's cell is cut at the picture's last column and row. Why: a place in the picture has 0 <= x <= width - 1, so the whole part of x is at most width - 1, and the
-- column to its right is cut there, or is that column itself; the same for the rows. Assumes nothing.
use mathlib.Core.Path.{◌≡◌, sym, ap, ◌∙◌, subst}
use Prim.Native.Nat.{ℕ, ◌+◌, ◌-◌, ◌*◌, ◌/◌, ◌^◌, ◌≤◌, ◌<◌, min, zero-le}
use native.Mathlib.Nat.{div-le_of_le-mul, mul_comm, mul_right_comm, mul-one, le_of_mul-le-mul_right}
use native.Mathlib.Omega.{arith}
use mathlib.Core.Bool.{Bool, true, false, true≢false}
use lib.IntN.{ℤ}
use borrow.Author.Tests.{ltb-false}
use lib.Ieee.{Float, nan, inf, fin, up, down, lt, to_unsigned}
use lib.Ieee.Exact.{HasValue}
use lib.Ieee.Fits.{down_pos}
use Rattle.prelude.specs.Prelude.{when◌then◌else◌}
use Rattle.std.specs.Float.{float_is_finite}
use Rattle.ieee.specs.Parts.{is_finite}
use Rattle.ieee_whole.proofs.WholeGuess.{float_value}
use Rattle.ieee.specs.Floats.{◌⊖◌, ◌≺◌, ◌≐◌, f0, float, whole_part}
use Rattle.pixel.specs.declared.SourcePixel.{SourcePixel}
use Rattle.footprint.specs.declared.BorderMode.{BorderMode}
use Rattle.footprint.specs.declared.Footprint.TheVariants.{Rejected, Border, Cell}
use Rattle.footprint.specs.declared.Footprint.{Footprint}
use Rattle.footprint.specs.Footprints.{View}
use Rattle.footprint.proofs.Places.{Between, every_footprint, every_viewed}
use Rattle.footprint.specs.Footprints.{neighbour, interior_cell, footprint, viewed_footprint}

-- ---- the whole part of a value that is not above n

pub not_above : (n : ℕ) (y : Float) (m : ℕ) (e : ℤ) → HasValue y false n 1 → lt y (fin false m e) ≡ false → m * up e ≤ n * down e
unfolding lt
not_above n nan m e v h = absurd v
not_above n (inf s) m e v h = absurd v
not_above n (fin true k d) m e v h = absurd (true≢false v.0)
not_above n (fin false k d) m e v h =
    le_of_mul-le-mul_right
    (subst (λ (r : ℕ). m * up e * down d ≤ r)
    (ap (λ (r : ℕ). r * down e) (sym (mul-one (k * up d)) ∙ v.1) ∙ mul_right_comm n (down d) (down e))
    (ltb-false (k * up d * down e) (m * up e * down d) h))
    (down_pos d)

pub whole_part_le : (n : ℕ) (x : Float) → n < 2 ^ 53 → is_finite x ≡ true → (float n ≺ x) ≡ false → whole_part x ≤ n
unfolding float_is_finite to_unsigned
whole_part_le n nan h f l = zero-le
whole_part_le n (inf s) h f l = absurd (true≢false (sym f))
whole_part_le n (fin true m e) h f l = zero-le
whole_part_le n (fin false m e) h f l =
    capped (m * up e / down e) (2 ^ 32 - 1) n (div-le_of_le-mul (down e) (subst (λ (r : ℕ). m * up e ≤ r) (mul_comm n (down e)) (not_above n (float n) m e (float_value n h) l)))
  where
    capped : (a b c : ℕ) → a ≤ c → min a b ≤ c
    capped a b c k = omega arith

-- ---- a footprint

-- a footprint's four pixels: the fourth is the last, and lies in the picture
unfoldable pub Cut : ℕ → ℕ → Footprint → Type 0
Cut w h Rejected = Unit {0}
Cut w h (Border v) = Unit {0}
Cut w h (Cell x0 y0 x1 y1 fx fy) = (x0 ≤ x1) × (y0 ≤ y1) × (x1 ≤ w - 1) × (y1 ≤ h - 1)

neighbour_cut : (i n : ℕ) (f : Float) → i ≤ n - 1 → (i ≤ neighbour i n f) × (neighbour i n f ≤ n - 1)
neighbour_cut i n f h = go (f ≐ f0)
  where
    go : (b : Bool) → (i ≤ (when b then i else min (i + 1) (n - 1))) × ((when b then i else min (i + 1) (n - 1)) ≤ n - 1)
    go true = (omega arith, omega arith)
    go false = (omega arith, omega arith)

module _ (w h : ℕ) (wide : w < 2 ^ 32) (high : h < 2 ^ 32) where
  within_cut : (x y : Float) → Between (w - 1) x → Between (h - 1) y → Cut w h (interior_cell w h x y)
  unfolding Cut
  within_cut x y bx by =
      let across = neighbour_cut (whole_part x) w (x ⊖ float (whole_part x)) (whole_part_le (w - 1) x (omega arith) bx.finite bx.upto) in
      let down = neighbour_cut (whole_part y) h (y ⊖ float (whole_part y)) (whole_part_le (h - 1) y (omega arith) by.finite by.upto) in
      (across.0, down.0, across.1, down.1)

  pub footprint_cut : (b : BorderMode) (x y : Float) → Cut w h (footprint w h b x y)
  unfolding Cut
  footprint_cut = every_footprint w h wide high (Cut w h) tt (λ v. tt) within_cut

  pub viewed_cut : (v : View) (q : SourcePixel) → Cut w h (viewed_footprint w h v q)
  unfolding Cut
  viewed_cut = every_viewed w h wide high (Cut w h) tt (λ v. tt) within_cut
