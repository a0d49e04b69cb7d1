-- A photograph: bytes by rows, and which are refused by `Size` and `Photograph`. Definitions only, to be believed.
use Rattle.std.specs.Prelude.{ℕ, ◌+◌, ◌-◌, ◌*◌, Bool, ◌&&◌, List, [], ◌∷◌, leb, get_or, Result}
use Rattle.prelude.specs.Checks.{Check, check, first}
use Rattle.number.specs.declared.Refusal.{Refusal}
use Rattle.number.specs.declared.Refusal.TheVariants as refusal
use Rattle.photograph.specs.declared.Photograph.{Photograph}

-- what a photograph shows at a column and a row
abbrev pub Photo : Type 0
Photo = ℕ → ℕ → ℕ

-- bytes by rows of `stride`; past their end a photograph is 0
abbrev pub photo : List ℕ → ℕ → Photo
photo bytes stride x y = get_or bytes (y * stride + x) 0

-- what one that is lent shows
abbrev pub photo_of : Photograph → Photo
photo_of p = photo p.bytes.now p.stride

pub record Pixel : Type 0 where
  pub column : ℕ
  pub row : ℕ

abbrev pub pixel : ℕ → ℕ → Pixel
pixel x y = record { column = x; row = y }

-- ---- the entry checks of a photograph

abbrev pub sized : ℕ → Bool
sized n = leb 1 n && leb n 16384

abbrev pub good_size : ℕ → ℕ → Bool
good_size w h = sized w && sized h

-- of so many bytes
abbrev pub good_photograph : ℕ → ℕ → ℕ → ℕ → Bool
good_photograph w h stride bytes = leb w stride && leb stride 65535 && leb ((h - 1) * stride + w) bytes

abbrev pub photograph_checks : ℕ → ℕ → ℕ → ℕ → List (Check Refusal)
photograph_checks w h stride bytes =
    check refusal.Size (good_size w h)
    ∷ check refusal.Photograph (good_photograph w h stride bytes)
    ∷ []

abbrev pub photograph_check : ℕ → ℕ → ℕ → ℕ → Result (Unit {0}) Refusal
photograph_check w h stride bytes = first (photograph_checks w h stride bytes)
