-- Where the modules of an edge lie. Definitions only.
-- Internal: contracts inside the crate cite it, no public one does, and nothing here has to be believed.
use Rattle.std.specs.Prelude.{ℕ, ◌+◌, ◌-◌, ◌*◌, Bool, List, eqb, get_or}
use Rattle.grid.specs.declared.LabelEdge.{LabelEdge}
use Rattle.grid.specs.Grids.{by_side}

-- the first one, so many modules behind the edge
abbrev pub start_of : ℕ → LabelEdge → ℕ → ℕ
start_of dim e depth = by_side e (depth * dim) (dim - 1 - depth) ((dim - 1 - depth) * dim) depth

-- how far apart the next ones lie
abbrev pub stride_of : ℕ → LabelEdge → ℕ
stride_of dim e = by_side e 1 dim 1 dim

-- whether module m of those that lie a step apart is dark
abbrev pub dark_at : List ℕ → ℕ → ℕ → ℕ → Bool
dark_at ms first step m = eqb (get_or ms (first + m * step) 0) 1
