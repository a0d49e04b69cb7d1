-- What a refinement call for C and Rust asks, by what it is lent. Definitions only, to be believed.
use Rattle.std.specs.Prelude.{ℕ, Bool, List, Float}
use Rattle.consts.specs.declared.Settings.{Settings}
use Rattle.footprint.specs.Footprints.{View}
use Rattle.request.specs.declared.Request.{Request}
use Rattle.c_lists.specs.Lent.{working_of}

-- what is asked by what is lent
abbrev pub lent_request : (width height dim : ℕ) (sx sy : Float) (corners : List Float) (inverted : Bool) → View → Settings → Request
lent_request width height dim sx sy corners inverted view settings = record {
  width = width;
  height = height;
  dim = dim;
  sx = sx;
  sy = sy;
  corners = working_of corners;
  inverted = inverted;
  view = view;
  settings = settings;
}
