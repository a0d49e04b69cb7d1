-- The settings that the calls for C and Rust are lent, as a list of nine numbers. Definitions only, to be
-- believed.
use Rattle.std.specs.Prelude.{ℕ, List, Float}
use Rattle.prelude.specs.Prelude.{when◌then◌else◌}
use Rattle.ieee.specs.Floats.{◌≐◌, float, whole_part}
use Rattle.consts.specs.declared.Settings.{Settings}
use Rattle.c_lists.specs.Lent.{float_at}

-- the whole number that a float is; of any other float 0, which is in no setting's range
abbrev pub whole_of : Float → ℕ
whole_of x = when float (whole_part x) ≐ x then whole_part x else 0

-- the settings of a list, in the order of document 02
abbrev pub settings_of : List Float → Settings
settings_of list = record {
  probe_fraction_first = float_at list 0;
  probe_fraction_second = float_at list 1;
  edge_margin_modules = float_at list 2;
  max_points_per_edge = whole_of (float_at list 3);
  min_edge_points = whole_of (float_at list 4);
  contrast_floor = whole_of (float_at list 5);
  outlier_floor_modules = float_at list 6;
  outlier_median_multiplier = float_at list 7;
  rounds = whole_of (float_at list 8);
}
