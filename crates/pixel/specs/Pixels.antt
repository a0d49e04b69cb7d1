-- Places and directions, as the definitions write them, and the division of a working pixel by the
-- scales. What comes of it is a source pixel, or with a camera a rectified one. Definitions only, to
-- be believed.
use Rattle.std.specs.Prelude.{ℕ, List, get_or, Float}
use Rattle.std.specs.Float.{nan}
use Rattle.ieee.specs.Floats.{◌⊘◌}
use Rattle.pixel.specs.declared.WorkingPixel.{WorkingPixel}
use Rattle.pixel.specs.declared.SourcePixel.{SourcePixel}
use Rattle.pixel.specs.declared.Direction.{Direction}
use Rattle.pixel.specs.declared.EdgePoint.{EdgePoint}

abbrev pub source : Float → Float → SourcePixel
source x y = record { 0 = x; 1 = y }

abbrev pub direction : Float → Float → Direction
direction x y = record { x = x; y = y }

abbrev pub edge_point : SourcePixel → Float → EdgePoint
edge_point p w = record { pos = p; weight = w }

-- Four corners are a list. Past its end the code's own reading of a float is `nan`, so this is too.
abbrev pub corner : List SourcePixel → ℕ → SourcePixel
corner q i = get_or q i (source nan nan)

abbrev pub to_source : Float → Float → WorkingPixel → SourcePixel
to_source sx sy c = source (c.0 ⊘ sx) (c.1 ⊘ sy)
