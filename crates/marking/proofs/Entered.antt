-- The entry checks of a marking call: `Sheet` comes behind those of the refinement call, and which calls pass all. Assumes nothing.
use mathlib.Core.Path.{◌≡◌, ◌∙◌}
use mathlib.Core.Logic.{◌⊎◌, inl, inr}
use Prim.Native.Nat.{ℕ, ◌≤◌, ◌<◌}
use mathlib.Core.Bool.{true, ◌&&◌}
use lib.Dec.{leb}
use borrow.Author.Tests.{leb-true, le-leb, lt-leb}
use Rattle.std.specs.Prelude.{List, [], ◌∷◌, Ok, Err}
use Rattle.number.specs.declared.Refusal.{Refusal}
use Rattle.number.specs.declared.Refusal.TheVariants as refusal
use Rattle.std.specs.Result.{result_and}
use Rattle.prelude.proofs.Checks.{ok_exactly, refused_before as refused_first, behind, all_ok}
use Rattle.prelude.specs.Checks.{check}
use Rattle.prelude.specs.Prelude.{when◌then◌else◌}
use Rattle.prelude.proofs.Tests.{both}
use Rattle.request.specs.declared.Request.{Request}
use Rattle.request.specs.Requests.{Photograph, entry_checks, entry}
use Rattle.marking.specs.Marking.{area, marking_entry}

module _ (r : Request) (ms : List ℕ) (p : Photograph) (s c : ℕ) where
  -- a call that passes all passes those of the refinement call, and its sheet and copy are long enough
  pub entered : marking_entry r ms p s c ≡ Ok tt → (entry r ms p ≡ Ok tt) × (area r ≤ s) × (area r ≤ c)
  entered h =
      let sheets = check refusal.Sheet (leb (area r) s && leb (area r) c) ∷ [] in
      let all = all_ok (entry_checks r ms p) sheets h in
      let passes = (both (leb (area r) s && leb (area r) c) true ((ok_exactly sheets).0 all.1)).0 in
      let long = both (leb (area r) s) (leb (area r) c) passes in
      (all.0, leb-true (area r) s long.0, leb-true (area r) c long.1)

  -- `Sheet` decides behind those of the refinement call, where they pass
  pub marking-entry : marking_entry r ms p s c ≡ result_and (entry r ms p) (when leb (area r) s && leb (area r) c then Ok tt else Err refusal.Sheet)
  marking-entry = behind (entry_checks r ms p) (check refusal.Sheet (leb (area r) s && leb (area r) c) ∷ [])

  -- and such a call passes all
  pub enters_marking : entry r ms p ≡ Ok tt → area r ≤ s → area r ≤ c → marking_entry r ms p s c ≡ Ok tt
  enters_marking h hs hc = marking-entry ∙ rw (h, le-leb (area r) s hs, le-leb (area r) c hc)

  -- refused by one of the refinement call's
  pub refused_before : {e : Refusal} → entry r ms p ≡ Err e → marking_entry r ms p s c ≡ Err e
  refused_before h = refused_first (entry_checks r ms p) (check refusal.Sheet (leb (area r) s && leb (area r) c) ∷ []) _ h

  -- refused by `Sheet`, for the sheet or for the copy
  pub short : entry r ms p ≡ Ok tt → (s < area r) ⊎ ((area r ≤ s) × (c < area r)) → marking_entry r ms p s c ≡ Err refusal.Sheet
  short h (inl sheet) = marking-entry ∙ rw (h, lt-leb (area r) s sheet)
  short h (inr both) = marking-entry ∙ rw (h, le-leb (area r) s both.0, lt-leb (area r) c both.1)
