-- Document 01's reading of a sample: all four pixels, also where a fraction is 0. It is the yardstick
-- of the theorems on pixels that bear no weight, and no contract cites it. Definitions only, to be
-- believed.
use Rattle.std.specs.Prelude.{ℕ, ◌+◌, ◌-◌, min}
use Rattle.footprint.specs.declared.Footprint.{Footprint}
use Rattle.footprint.specs.declared.Footprint.TheVariants.{Rejected, Border, Cell}

-- the same place in a picture of w by h pixels, with the column and the row after it, cut at the last
unfoldable pub all_four : ℕ → ℕ → Footprint → Footprint
all_four w h Rejected = Rejected
all_four w h (Border v) = Border v
all_four w h (Cell x0 y0 x1 y1 fx fy) = Cell x0 y0 (min (x0 + 1) (w - 1)) (min (y0 + 1) (h - 1)) fx fy
