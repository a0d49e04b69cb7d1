-- A request under the numbers of consts.rs: its settings pass, so that it is refused on entry as if there were no such check. Assumes nothing.
use mathlib.Core.Path.{◌≡◌, refl, ◌∙◌}
use Prim.Native.Nat.{ℕ, ◌≤◌}
use native.Mathlib.Omega.{arith}
use mathlib.Core.List.{List, [], ◌∷◌}
use lib.ListN.{take}
use Rattle.std.specs.Prelude.{Result, Ok, Err}
use Rattle.std.specs.Result.{result_and}
use Rattle.number.specs.Numbers.{number}
use Rattle.number.specs.declared.Refusal.{Refusal}
use Rattle.number.specs.declared.Refusal.TheVariants as refusal
use Rattle.prelude.specs.Checks.{check, first}
use Rattle.prelude.proofs.Checks.{behind, refused_by}
use Rattle.consts.specs.Consts.{defaults, good_settings}
use Rattle.consts.proofs.Ranges.{defaults-good}
use Rattle.request.specs.declared.Request.{Request}
use Rattle.request.specs.Requests.{Photograph, entry_checks, entry}

and-passed : {E : Type 0} (a : Result (Unit {0}) E) → result_and a (Ok tt) ≡ a
and-passed (Ok x) = refl
and-passed (Err e) = refl

module _ (r : Request) (ms : List ℕ) (p : Photograph) (by_default : r.settings ≡ defaults) where
  -- the six checks before that of the settings decide
  pub defaults-pass : entry r ms p ≡ first (take 6 (entry_checks r ms p))
  defaults-pass =
      behind (take 6 (entry_checks r ms p)) (check refusal.Settings (good_settings r.settings) ∷ [])
      ∙ rw (by_default, defaults-good) (and-passed (first (take 6 (entry_checks r ms p))))

  -- so 25 is never given
  pub defaults_refused : (e : Refusal) → entry r ms p ≡ Err e → number e ≤ 6
  defaults_refused e h =
      refused_by (λ (e : Refusal). number e ≤ 6) (take 6 (entry_checks r ms p))
      (omega arith, (omega arith, (omega arith, (omega arith, (omega arith, (omega arith, tt))))))
      e (rw defaults-pass at h)
