-- Lists of pixels: what holds of each pixel of a list, and where a pixel of the picture lies among rows of w bytes. Assumes nothing.
use mathlib.Core.Path.{◌≡◌, ap, ◌∙◌}
use Prim.Native.Nat.{ℕ, ◌+◌, ◌*◌, ◌/◌, ◌%◌, ◌<◌}
use native.Mathlib.Nat.{mul-add-mod_self_right, mul-add-div_right, mod-eq_of_lt, div-eq_of_lt, add-zero}
use native.Mathlib.Omega.{arith}
use Rattle.photograph.specs.Photographs.{Pixel}

-- ---- a pixel of the picture, and its place

pub record Inside (w h : ℕ) (c : Pixel) : Type 0 where
  pub across : c.column < w
  pub down : c.row < h

pub place-column : (w x y : ℕ) → x < w → (y * w + x) % w ≡ x
place-column w x y h = mul-add-mod_self_right y w x ∙ mod-eq_of_lt h

pub place-row : (w x y : ℕ) → x < w → (y * w + x) / w ≡ y
place-row w x y h = mul-add-div_right (omega arith) y x ∙ ap (λ (k : ℕ). y + k) (div-eq_of_lt h) ∙ add-zero y
