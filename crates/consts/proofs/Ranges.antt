-- The numbers of consts.rs are taken; and of settings that are taken, the ranges of limit, least points and rounds. Assumes nothing.
use mathlib.Core.Path.{◌≡◌, refl}
use Prim.Native.Nat.{◌≤◌}
use mathlib.Core.Bool.{true}
use Rattle.std.proofs.lemmas.Bool.{leb-true}
use Rattle.std.specs.Prelude.{leb}
use Rattle.prelude.proofs.Tests.{both}
use Rattle.ieee.proofs.Opened as Ieee
use Rattle.consts.specs.declared.Settings.{Settings}
use Rattle.consts.specs.Consts.{defaults, good_settings}

pub defaults-good : good_settings defaults ≡ true
unfolding Ieee.opened
defaults-good = refl

-- the ranges of the whole numbers
pub record Taken (settings : Settings) : Type 0 where
  pub probe : 1 ≤ settings.max_points_per_edge
  pub limit : settings.max_points_per_edge ≤ 354
  pub points : 2 ≤ settings.min_edge_points
  pub round : 1 ≤ settings.rounds
  pub rounds : settings.rounds ≤ 4

pub taken : (settings : Settings) → good_settings settings ≡ true → Taken settings
taken settings good =
    let by_rounds = both _ _ good in
    let by_multiplier = both _ _ by_rounds.0 in
    let by_floor = both _ _ by_multiplier.0 in
    let by_contrast = both _ _ by_floor.0 in
    let by_points = both _ _ by_contrast.0 in
    let by_limit = both _ _ by_points.0 in
    let rounds = both (leb 1 settings.rounds) (leb settings.rounds 4) by_rounds.1 in
    let points = both (leb 2 settings.min_edge_points) (leb settings.min_edge_points 354) by_points.1 in
    let limit = both (leb 1 settings.max_points_per_edge) (leb settings.max_points_per_edge 354) by_limit.1 in
    record {
      probe = leb-true 1 settings.max_points_per_edge limit.0;
      limit = leb-true settings.max_points_per_edge 354 limit.1;
      points = leb-true 2 settings.min_edge_points points.0;
      round = leb-true 1 settings.rounds rounds.0;
      rounds = leb-true settings.rounds 4 rounds.1;
    }
