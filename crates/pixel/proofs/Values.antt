-- Source pixels whose coordinates are binary64 values. The origin is one, and so is whatever the division makes of a working pixel: a result of
-- a float operation fits its format. Assumes nothing.
use lib.Dec.{T}
use lib.Ieee.{Float, binary64, fits}
use lib.Ieee.Fits.{div-fits}
use lib.Ieee.Bits.{of_bits-fits}
use Rattle.ieee.specs.Floats.{f0}
use Rattle.pixel.specs.Pixels.{source, to_source}
use Rattle.pixel.specs.declared.WorkingPixel.{WorkingPixel}
use Rattle.pixel.specs.declared.SourcePixel.{SourcePixel}

pub record Fits (p : SourcePixel) : Type 0 where
  pub x : T (fits binary64 p.0)
  pub y : T (fits binary64 p.1)

pub origin_fits : Fits (source f0 f0)
origin_fits = record { x = of_bits-fits binary64 0; y = of_bits-fits binary64 0 }

pub source_fits : (sx sy : Float) (c : WorkingPixel) → Fits (to_source sx sy c)
source_fits sx sy c = record { x = div-fits binary64 c.0 sx; y = div-fits binary64 c.1 sy }
