-- The calls for C and Rust that look for an edge point: what they make of what they are lent.
-- Definitions only, to be believed.
use Rattle.std.specs.Prelude.{ℕ, Bool, Float}
use Rattle.pixel.specs.Pixels.{source, direction}
use Rattle.footprint.specs.Footprints.{View}
use Rattle.footprint.specs.declared.Scene.{Scene}
use Rattle.profile.specs.declared.Ray.{Ray}

-- how a photograph lies
abbrev pub lent_scene : (width height : ℕ) → View → Scene
lent_scene width height view = record { width = width; height = height; view = view }

-- where an edge point is looked for
abbrev pub lent_ray : (cx cy nx ny step : Float) (inverted inward_differs : Bool) → Ray
lent_ray cx cy nx ny step inverted inward_differs = record {
  coarse = source cx cy;
  normal = direction nx ny;
  step = step;
  inverted = inverted;
  inward_differs = inward_differs;
}
