-- consts.rs: the numbers of the refinement, which others are taken in their place (document 02), and
-- how many points an edge has room for. What each field means, and where its number comes from, stands
-- at the record in src/lib.rt. Definitions only, to be believed.
use Rattle.std.specs.Prelude.{ℕ, Bool, ◌&&◌, leb, Float}
use Rattle.ieee.specs.Floats.{◌≼◌, f0, f0_15, f0_35, f0_70, f1, f1_5, f2, f10, f100}
use Rattle.consts.specs.declared.Settings.{Settings}

abbrev pub defaults : Settings
defaults = record {
  probe_fraction_first = f0_35;
  probe_fraction_second = f0_70;
  edge_margin_modules = f1_5;
  max_points_per_edge = 64;
  min_edge_points = 6;
  contrast_floor = 12;
  outlier_floor_modules = f0_15;
  outlier_median_multiplier = f2;
  rounds = 2;
}

-- how many points an edge has room for
abbrev pub max_edge_points : ℕ
max_edge_points = 354

-- ---- which settings are taken

-- whether x is low, high or between; a NaN is not
abbrev pub between : Float → Float → Float → Bool
between low high x = (low ≼ x) && (x ≼ high)

-- each setting in its range, both ends with it, and so none that is not finite
abbrev pub good_settings : Settings → Bool
good_settings settings =
    between f0 f1 settings.probe_fraction_first
    && between f0 f1 settings.probe_fraction_second
    && between f1 f10 settings.edge_margin_modules
    && (leb 1 settings.max_points_per_edge && leb settings.max_points_per_edge 354)
    && (leb 2 settings.min_edge_points && leb settings.min_edge_points 354)
    && (leb 1 settings.contrast_floor && leb settings.contrast_floor 255)
    && between f0 f100 settings.outlier_floor_modules
    && between f0 f100 settings.outlier_median_multiplier
    && (leb 1 settings.rounds && leb settings.rounds 4)
