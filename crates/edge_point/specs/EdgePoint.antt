-- refine.rs, `localize_edge_point` (377 to 416) as a call: the checks of photograph, camera and
-- settings, then the point, or `Profile` where there is none. Definitions only, to be believed; the
-- point's passes are in `profile`.
use Rattle.std.specs.Prelude.{ℕ, List, [], ◌∷◌, ◌++◌, length, Option, Result, ok_or}
use Rattle.std.specs.Result.{result_and}
use Rattle.prelude.specs.Checks.{check, first}
use Rattle.number.specs.declared.Refusal.{Refusal}
use Rattle.number.specs.declared.Refusal.TheVariants as refusal
use Rattle.consts.specs.Consts.{good_settings}
use Rattle.consts.specs.declared.Settings.{Settings}
use Rattle.pixel.specs.declared.EdgePoint.{EdgePoint}
use Rattle.photograph.specs.Photographs.{photo, photograph_checks}
use Rattle.footprint.specs.Footprints.{good_view}
use Rattle.footprint.specs.declared.Scene.{Scene}
use Rattle.sample_tree.specs.SampleTree.{value}
use Rattle.profile.specs.declared.Ray.{Ray}
use Rattle.profile.specs.Profile.{localize}

-- the checks of the photograph, of its camera, and of the settings
abbrev pub entry_check : List ℕ → ℕ → Scene → Settings → Result (Unit {0}) Refusal
entry_check bytes stride e settings =
    first
    (
    photograph_checks e.width e.height stride (length bytes)
    ++ check refusal.Lens (good_view e.view)
    ∷ check refusal.Settings (good_settings settings)
    ∷ []
    )

-- an edge point, or the refusal where there is none
abbrev pub point_answer : Option EdgePoint → Result EdgePoint Refusal
point_answer p = ok_or p refusal.Profile

-- the leaf call: those, then that the profile has no edge point
abbrev pub localize_edge_point : List ℕ → ℕ → Scene → Settings → Ray → Result EdgePoint Refusal
localize_edge_point bytes stride e settings y =
    result_and (entry_check bytes stride e settings) (point_answer (value e (photo bytes stride) (localize settings y)))
