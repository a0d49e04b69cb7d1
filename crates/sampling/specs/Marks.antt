-- The mark sheet and the copy as a sample writes them: a 1 and the photograph's byte at each of its
-- pixels' places. Definitions only, to be believed.
use Rattle.std.specs.Prelude.{ℕ, ◌+◌, ◌*◌, ◌≡◌, Bool, ◌&&◌, List, ltb, length, set, Float, Option}
use Rattle.prelude.specs.Prelude.{when◌then◌else◌}
use Rattle.photograph.specs.Photographs.{Photo}
use Rattle.footprint.specs.declared.Footprint.{Footprint}
use Rattle.footprint.specs.declared.Footprint.TheVariants.{Rejected, Border, Cell}
use Rattle.sampling.specs.declared.CellBytes.{CellBytes}
use Rattle.sampling.specs.Sampling.{interpolate, cell_of}

-- what a marking run writes, both in rows of the picture's width; a run that marks nothing has two empty ones
pub record Buffers : Type 0 where
  pub sheet : List ℕ
  pub copy : List ℕ

abbrev pub buffers : List ℕ → List ℕ → Buffers
buffers s c = record { sheet = s; copy = c }

-- a byte for each of the four pixels
abbrev pub written : ℕ → ℕ → ℕ → ℕ → ℕ → CellBytes → List ℕ → List ℕ
written w x0 y0 x1 y1 v s = set (set (set (set s (y0 * w + x0) v.v00) (y0 * w + x1) v.v10) (y1 * w + x0) v.v01) (y1 * w + x1) v.v11

abbrev pub ones : CellBytes
ones = record { v00 = 1; v10 = 1; v01 = 1; v11 = 1 }

abbrev pub reach : ℕ → Buffers → Bool
reach i b = ltb i (length b.sheet) && ltb i (length b.copy)

-- four pixels are marked and copied where both buffers reach the last of them
abbrev pub cell_marked : ℕ → ℕ → ℕ → ℕ → ℕ → CellBytes → Buffers → Buffers
cell_marked w x0 y0 x1 y1 v b =
    when reach (y1 * w + x1) b then buffers (written w x0 y0 x1 y1 ones b.sheet) (written w x0 y0 x1 y1 v b.copy) else b

-- what a sample that falls at a footprint makes of them
unfoldable pub marked : Photo → ℕ → Footprint → Buffers → Buffers
marked p w Rejected b = b
marked p w (Border v) b = b
marked p w (Cell x0 y0 x1 y1 fx fy) b = cell_marked w x0 y0 x1 y1 (cell_of p x0 y0 x1 y1) b

-- A sample that falls at a footprint shows r, and takes the buffers, of rows of w bytes, from b to b'.
pub record ReadsSample (p : Photo) (w : ℕ) (at : Footprint) (r : Option Float) (b b' : Buffers) : Type 0 where
  pub answer : r ≡ interpolate p at
  pub marks : b' ≡ marked p w at b
