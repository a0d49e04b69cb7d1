-- Where a sample falls, by the tests on the way: what each test of the code says of the definition. Each law unfolds the definition and
-- puts the tests' results in. Assumes nothing.
use mathlib.Core.Path.{◌≡◌, refl, sym, ◌∙◌}
use Prim.Native.Nat.{ℕ, ◌-◌, ◌^◌, ◌<◌}
use native.Mathlib.Omega.{arith}
use mathlib.Core.Bool.{Bool, true, false, not, ◌&&◌, ◌||◌, and-false, true≢false}
use lib.Ieee.{Float, of_bits}
use borrow.Author.Tests.{not-true, not-false}
use Rattle.prelude.proofs.Tests.{both}
use Rattle.std.specs.Float.{float_is_finite}
use Rattle.ieee.specs.Parts.{is_finite}
use Rattle.ieee.specs.Floats.{◌≺◌, ◌≼◌, f0, float}
use Rattle.ieee.proofs.Order.{not_more, else_more, amid_finite}
use Rattle.ieee_whole.proofs.WholeGuess.{float-finite}
use Rattle.footprint.specs.declared.BorderMode.{BorderMode}
use Rattle.footprint.specs.declared.BorderMode.TheVariants.{Reject}
use Rattle.footprint.specs.declared.Footprint.TheVariants.{Rejected}
use Rattle.footprint.specs.Footprints.{inside, outside, interior_cell, at_border, footprint}

-- ---- beyond the edges

-- x from 0 to n: two comparisons say that it is finite and beyond neither end
pub between : (n : ℕ) → n < 2 ^ 53 → (x : Float) → ((f0 ≼ x) && (x ≼ float n)) ≡ (is_finite x && not (x ≺ f0) && not (float n ≺ x))
unfolding of_bits float_is_finite
between n small x = go (is_finite x) refl (f0 ≼ x) refl (x ≼ float n) refl
  where
    zero : is_finite f0 ≡ true
    zero = refl

    end : is_finite (float n) ≡ true
    end = float-finite n small

    go : (f : Bool) → is_finite x ≡ f → (a : Bool) → (f0 ≼ x) ≡ a → (b : Bool) → (x ≼ float n) ≡ b → (a && b) ≡ (f && not (x ≺ f0) && not (float n ≺ x))
    go true hf true ha true hb = rw (not_more f0 x ha, not_more x (float n) hb)
    go true hf true ha false hb = rw (not_more f0 x ha, else_more x (float n) hf end hb)
    go true hf false ha b hb = rw (else_more f0 x zero hf ha)
    go false hf true ha true hb = absurd (true≢false (sym (amid_finite x (float n) end ha hb) ∙ hf))
    go false hf true ha false hb = refl
    go false hf false ha b hb = refl

pub gathered : (f g a b c d : Bool) → ((f && not a && not c) && (g && not b && not d)) ≡ (f && g && not (a || b || c || d))
gathered true true true b c d = refl
gathered true true false true true d = refl
gathered true true false true false d = refl
gathered true true false false true d = refl
gathered true true false false false d = refl
gathered true false a b c d = and-false (true && not a && not c)
gathered false g a b c d = refl

-- so four comparisons say whether a place is inside, as the definition asks it
pub inside_is : (w h : ℕ) → w < 2 ^ 32 → h < 2 ^ 32 → (x y : Float) → (((f0 ≼ x) && (x ≼ float (w - 1))) && ((f0 ≼ y) && (y ≼ float (h - 1)))) ≡ inside w h x y
inside_is w h wide high x y =
    rw (between (w - 1) (omega arith) x, between (h - 1) (omega arith) y) (gathered (is_finite x) (is_finite y) (x ≺ f0) (y ≺ f0) (float (w - 1) ≺ x) (float (h - 1) ≺ y))

-- ---- the footprint

-- two finite coordinates that are not inside are outside
else_outside : (a b c : Bool) → a ≡ true → b ≡ true → (a && b && not c) ≡ false → c ≡ true
else_outside true true c e f h = not-false c h
else_outside false b c e f h = absurd (true≢false (sym e))
else_outside true false c e f h = absurd (true≢false (sym f))

module _ (w h : ℕ) (b : BorderMode) (x y : Float) where
  pub off_x : is_finite x ≡ false → Rejected ≡ footprint w h b x y
  unfolding footprint
  off_x e = rw (e, footprint)

  pub off_y : is_finite x ≡ true → is_finite y ≡ false → Rejected ≡ footprint w h b x y
  unfolding footprint
  off_y e f = rw (e, f, footprint)

  pub off_outside : is_finite x ≡ true → is_finite y ≡ true → inside w h x y ≡ false → at_border w h b x y ≡ footprint w h b x y
  unfolding footprint
  off_outside e f o = rw (e, f, else_outside (is_finite x) (is_finite y) (outside w h x y) e f o, footprint)

  pub in_within : inside w h x y ≡ true → interior_cell w h x y ≡ footprint w h b x y
  unfolding footprint
  in_within i =
      let t = both (is_finite x && is_finite y) (not (outside w h x y)) i in
      let u = both (is_finite x) (is_finite y) t.0 in
      rw (u.0, u.1, not-true (outside w h x y) t.1, footprint)

-- with the border rejected, what is not inside has none
module _ (w h : ℕ) (x y : Float) where
  pub rejected : inside w h x y ≡ false → Rejected ≡ footprint w h Reject x y
  rejected o = go (is_finite x) refl (is_finite y) refl
    where
      go : (a : Bool) → is_finite x ≡ a → (b : Bool) → is_finite y ≡ b → Rejected ≡ footprint w h Reject x y
      go true ea true eb = off_outside w h Reject x y ea eb o
      go true ea false eb = off_y w h Reject x y ea eb
      go false ea b eb = off_x w h Reject x y ea
