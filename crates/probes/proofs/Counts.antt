-- How many probes an edge has: no more than the settings allow, nor than there is room for points. Candidates beyond that are decimated, and what is
-- left is cut at the limit. Assumes nothing.
use Prim.Native.Nat.{ℕ, ◌≤◌, min}
use mathlib.Core.Path.{◌≡◌}
use mathlib.Core.Bool.{true}
use mathlib.Core.List.{List}
use native.Mathlib.Omega.{arith}
use native.Mathlib.Nat.{min-le_left}
use borrow.Author.Tests.{ltb-false}
use lib.Dec.{ltb}
use lib.ListN.{length, length-take}
use Rattle.prelude.proofs.Branches.{by_test}
use Rattle.consts.specs.Consts.{good_settings, max_edge_points}
use Rattle.consts.specs.declared.Settings.{Settings}
use Rattle.consts.proofs.Ranges.{taken}
use Rattle.probes.specs.declared.Probe.{Probe}
use Rattle.grid.specs.Grids.{Grid}
use Rattle.probes.specs.Probes.{decimated, probes_of}

few-decimated : (most : ℕ) (ps : List Probe) → length (decimated most ps) ≤ most
few-decimated most ps = by_test (ltb most (length ps))
    (λ more. rw (more, length-take) (min-le_left most _))
    (λ enough. rw enough (ltb-false most (length ps) enough))

-- the most probes that an edge can have
abbrev pub probe_limit : Settings → ℕ
probe_limit settings = min settings.max_points_per_edge max_edge_points

-- by settings that are taken the limit is the setting itself: the room cuts nothing
pub limit_kept : (settings : Settings) → good_settings settings ≡ true → probe_limit settings ≡ settings.max_points_per_edge
limit_kept settings good = omega (arith, (taken settings good).limit)

pub few-probes : (settings : Settings) (g : Grid) (e : ℕ) → length (probes_of settings g e) ≤ probe_limit settings
few-probes settings g e = few-decimated _ _
