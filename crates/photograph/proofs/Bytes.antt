-- A photograph of bytes shows a byte at every column and row, past its end too. Assumes nothing.
use Prim.Native.Nat.{ℕ, zero, suc, ◌+◌, ◌*◌, ◌<◌}
use native.Mathlib.Omega.{arith}
use mathlib.Core.List.{List, [], ◌∷◌}
use lib.ListN.{get_or}
use Rattle.prelude.proofs.Lists.{Each}
use Rattle.photograph.specs.Photographs.{Photo, photo}

-- every pixel is a byte
abbrev pub Bytes : Photo → Type 0
Bytes p = (x y : ℕ) → p x y < 256

pub photo-bytes : (bytes : List ℕ) (stride : ℕ) → Each (λ v. v < 256) bytes → Bytes (photo bytes stride)
photo-bytes bytes stride each x y = at bytes each (y * stride + x)
  where
    at : (l : List ℕ) → Each (λ v. v < 256) l → (i : ℕ) → get_or l i 0 < 256
    at [] h i = omega arith
    at (v ∷ l) h zero = h.0
    at (v ∷ l) h (suc i) = at l h.1 i
