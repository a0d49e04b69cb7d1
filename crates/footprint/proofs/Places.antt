-- Every footprint is nothing, the constant border, or the cell of a place in the picture: a sample inside is at such a place, and a clamped one is moved to one. So what
-- holds of these holds of every footprint, under every border mode and behind every camera. Assumes nothing.
use mathlib.Core.Path.{◌≡◌, refl, sym, ◌∙◌}
use Prim.Native.Nat.{ℕ, ◌-◌, ◌*◌, ◌^◌, ◌<◌}
use native.Mathlib.Nat.{zero-mul}
use native.Mathlib.Omega.{arith}
use mathlib.Core.Bool.{Bool, true, false, not, ◌&&◌, ◌||◌, true≢false}
use borrow.Author.Tests.{not-true, not-false, le-ltb}
use lib.Dec.{T}
use lib.Ieee.{Float, nan, inf, fin, up, down, lt, of_bits}
use lib.Ieee.Exact.{HasValue}
use Rattle.prelude.proofs.Tests.{both, neither_left, neither_right}
use Rattle.prelude.specs.Prelude.{when◌then◌else◌}
use Rattle.std.specs.Float.{float_is_finite}
use Rattle.ieee.specs.Parts.{is_finite}
use Rattle.ieee.specs.Floats.{◌≺◌, ◌≼◌, f0, float}
use Rattle.ieee.proofs.Order.{not_itself, else_more}
use Rattle.ieee_whole.proofs.WholeGuess.{float_value, float-finite}
use Rattle.pixel.specs.declared.SourcePixel.{SourcePixel}
use Rattle.std.specs.Prelude.{Option, Some, None}
use Rattle.camera.specs.Camera.{rectified_to_source}
use Rattle.footprint.specs.declared.BorderMode.{BorderMode}
use Rattle.footprint.specs.declared.BorderMode.TheVariants.{Reject, Clamp, Constant}
use Rattle.footprint.specs.declared.Footprint.{Footprint}
use Rattle.footprint.specs.declared.Footprint.TheVariants.{Rejected, Border}
use Rattle.footprint.specs.Footprints.{View}
use Rattle.footprint.specs.Footprints.{interior_cell, clamped, inside, outside, at_border, footprint, point_footprint, viewed_footprint}

-- x is finite, and from 0 to n
pub record Between (n : ℕ) (x : Float) : Type 0 where
  pub finite : is_finite x ≡ true
  pub from : (x ≺ f0) ≡ false
  pub upto : (float n ≺ x) ≡ false

-- a place inside the picture
pub inside_between : (w h : ℕ) (x y : Float) → inside w h x y ≡ true → Between (w - 1) x × Between (h - 1) y
inside_between w h x y within =
    let finite = both (is_finite x && is_finite y) (not (outside w h x y)) within in
    let each = both (is_finite x) (is_finite y) finite.0 in
    let four = not-true (outside w h x y) finite.1 in
    let three = neither_left ((x ≺ f0) || (y ≺ f0) || (float (w - 1) ≺ x)) (float (h - 1) ≺ y) four in
    let two = neither_left ((x ≺ f0) || (y ≺ f0)) (float (w - 1) ≺ x) three in (
      record { finite = each.0; from = neither_left (x ≺ f0) (y ≺ f0) two; upto = neither_right ((x ≺ f0) || (y ≺ f0)) (float (w - 1) ≺ x) three },
      record { finite = each.1; from = neither_right (x ≺ f0) (y ≺ f0) two; upto = neither_right ((x ≺ f0) || (y ≺ f0) || (float (w - 1) ≺ x)) (float (h - 1) ≺ y) four },
    )

-- ---- a clamped place

not_negative : (n : ℕ) (y : Float) → HasValue y false n 1 → (y ≺ f0) ≡ false
unfolding lt of_bits
not_negative n nan v = absurd v
not_negative n (inf s) v = absurd v
not_negative n (fin true m e) v = absurd (true≢false v.0)
not_negative n (fin false m e) v = le-ltb (m * up e * 1) (0 * 1 * down e) (omega (arith, zero-mul (down e)))

zero_finite : is_finite f0 ≡ true
unfolding float_is_finite of_bits
zero_finite = refl

pub from_zero : (n : ℕ) → n < 2 ^ 53 → T (f0 ≼ float n)
from_zero n small = by (f0 ≼ float n) refl
  where
    by : (b : Bool) → (f0 ≼ float n) ≡ b → T b
    by true e = tt
    by false e = absurd (true≢false (sym (else_more f0 (float n) zero_finite (float-finite n small) e) ∙ not_negative n (float n) (float_value n small)))

clamped_between : (n : ℕ) (x : Float) → n < 2 ^ 53 → is_finite x ≡ true → Between n (clamped x (float n))
clamped_between n x h f = go (x ≺ f0) refl (float n ≺ x) refl
  where
    below : (float n ≺ f0) ≡ false
    below = not_negative n (float n) (float_value n h)

    go : (a : Bool) → (x ≺ f0) ≡ a → (b : Bool) → (float n ≺ x) ≡ b → Between n (when a then f0 else when b then float n else x)
    go true ea b eb = record { finite = zero_finite; from = not_itself f0; upto = below }
    go false ea true eb = record { finite = float-finite n h; from = below; upto = not_itself (float n) }
    go false ea false eb = record { finite = f; from = ea; upto = eb }

-- ---- what holds of every footprint

module _
    (w h : ℕ)
    (wide : w < 2 ^ 32)
    (high : h < 2 ^ 32)
    (P : Footprint → Type 0)
    (nothing : P Rejected)
    (border : (v : ℕ) → P (Border v))
    (inside : (x y : Float) → Between (w - 1) x → Between (h - 1) y → P (interior_cell w h x y))
  where
    beyond : (b : BorderMode) (x y : Float) → is_finite x ≡ true → is_finite y ≡ true → P (at_border w h b x y)
    beyond Reject x y fx fy = nothing
    beyond Clamp x y fx fy =
        inside (clamped x (float (w - 1))) (clamped y (float (h - 1))) (clamped_between (w - 1) x (omega arith) fx) (clamped_between (h - 1) y (omega arith) fy)
    beyond (Constant v) x y fx fy = border v

    pub every_footprint : (b : BorderMode) (x y : Float) → P (footprint w h b x y)
    unfolding footprint
    every_footprint b x y = go (not (is_finite x) || not (is_finite y)) refl (outside w h x y) refl
      where
        go : (a : Bool) → (not (is_finite x) || not (is_finite y)) ≡ a → (o : Bool) → outside w h x y ≡ o
            → P (when a then Rejected else when o then at_border w h b x y else interior_cell w h x y)
        go true ea o eo = nothing
        go false ea o eo =
            let fx : is_finite x ≡ true = not-false (is_finite x) (neither_left (not (is_finite x)) (not (is_finite y)) ea) in
            let fy : is_finite y ≡ true = not-false (is_finite y) (neither_right (not (is_finite x)) (not (is_finite y)) ea) in
            by_side fx fy o eo
          where
            by_side : is_finite x ≡ true → is_finite y ≡ true → (o : Bool) → outside w h x y ≡ o → P (when o then at_border w h b x y else interior_cell w h x y)
            by_side fx fy true eo = beyond b x y fx fy
            by_side fx fy false eo =
                let three = neither_left ((x ≺ f0) || (y ≺ f0) || (float (w - 1) ≺ x)) (float (h - 1) ≺ y) eo in
                let two = neither_left ((x ≺ f0) || (y ≺ f0)) (float (w - 1) ≺ x) three in
                inside x y
                record { finite = fx; from = neither_left (x ≺ f0) (y ≺ f0) two; upto = neither_right ((x ≺ f0) || (y ≺ f0)) (float (w - 1) ≺ x) three }
                record { finite = fy; from = neither_right (x ≺ f0) (y ≺ f0) two; upto = neither_right ((x ≺ f0) || (y ≺ f0) || (float (w - 1) ≺ x)) (float (h - 1) ≺ y) eo }

    placed : (r : Option SourcePixel) → P (point_footprint w h r)
    placed (Some q) = every_footprint Reject q.0 q.1
    placed None = nothing

    pub every_viewed : (v : View) (q : SourcePixel) → P (viewed_footprint w h v q)
    every_viewed None q = every_footprint Reject q.0 q.1
    every_viewed (Some c) q = placed (rectified_to_source c q)
