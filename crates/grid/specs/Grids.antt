-- bitmatrix.rs, `get` (60 to 63): the modules of a label, those of an edge and the next inward, as
-- refine.rs takes them (533 to 539); and which grids are refused by `Grid`. Definitions only, to
-- be believed.
use Rattle.std.specs.Prelude.{ℕ, ◌+◌, ◌-◌, ◌*◌, Bool, true, ◌&&◌, List, [], ◌∷◌, leb, eqb, get_or, length, take}
use Rattle.prelude.specs.Prelude.{when◌then◌else◌}
use Rattle.grid.specs.declared.LabelEdge.{LabelEdge}
use Rattle.grid.specs.declared.LabelEdge.TheVariants.{Top, Right, Bottom, Left}

-- one byte a module, by rows; 1 is dark
pub record Grid : Type 0 where
  pub dim : ℕ
  pub modules : List ℕ

abbrev pub grid_of : ℕ → List ℕ → Grid
grid_of dim modules = record { dim = dim; modules = modules }

unfoldable pub dark : Grid → ℕ → ℕ → Bool
dark g column row = eqb (get_or g.modules (row * g.dim + column) 0) 1

-- the edge of a number, past 2 the left one
abbrev pub edge_of : ℕ → LabelEdge
edge_of number = when eqb number 0 then Top else when eqb number 1 then Right else when eqb number 2 then Bottom else Left

-- what goes by the edge
abbrev pub by_side : {A : Type 0} → LabelEdge → A → A → A → A → A
by_side Top top right bottom left = top
by_side Right top right bottom left = right
by_side Bottom top right bottom left = bottom
by_side Left top right bottom left = left

-- module m of an edge, or the one so many modules behind it
unfoldable pub edge_dark : Grid → LabelEdge → ℕ → ℕ → Bool
edge_dark g e m depth = by_side e (dark g m depth) (dark g (g.dim - 1 - depth) m) (dark g m (g.dim - 1 - depth)) (dark g depth m)

abbrev pub border_dark : Grid → LabelEdge → ℕ → Bool
border_dark g e m = edge_dark g e m 0

abbrev pub inward_dark : Grid → LabelEdge → ℕ → Bool
inward_dark g e m = edge_dark g e m 1

-- ---- the entry check by `Grid`

-- all are 0 or 1
unfoldable pub bits : List ℕ → Bool
bits [] = true
bits (m ∷ ms) = leb m 1 && bits ms

abbrev pub good_grid : Grid → Bool
good_grid g = leb 2 g.dim && leb g.dim 177 && leb (g.dim * g.dim) (length g.modules) && bits (take (g.dim * g.dim) g.modules)
