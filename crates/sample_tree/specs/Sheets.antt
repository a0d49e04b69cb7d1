-- The mark sheet and the blanked copy that a list of read pixels comes to. Definitions only, to be
-- believed; demand 3, for every tree, is in proofs/.
use Rattle.std.specs.Prelude.{ℕ, ◌*◌, ◌/◌, ◌%◌, Bool, false, ◌&&◌, ◌||◌, List, [], ◌∷◌, eqb}
use Rattle.prelude.specs.Prelude.{when◌then◌else◌, bit, table}
use Rattle.photograph.specs.Photographs.{Photo, Pixel}

-- whether a pixel is in a list
abbrev pub is_read : ℕ → ℕ → List Pixel → Bool
is_read x y [] = false
is_read x y (c ∷ cs) = (eqb x c.column && eqb y c.row) || is_read x y cs

-- width × height bytes: at y * w + x a 1 where the pixel x, y was read, else 0
unfoldable pub sheet : ℕ → ℕ → List Pixel → List ℕ
sheet w h rs = table (w * h) (λ i. bit (is_read (i % w) (i / w) rs))

-- width × height bytes of stride w: the photograph's byte where the pixel was read, else 0
unfoldable pub copy : ℕ → ℕ → Photo → List Pixel → List ℕ
copy w h p rs = table (w * h) (λ i. when is_read (i % w) (i / w) rs then p (i % w) (i / w) else 0)
