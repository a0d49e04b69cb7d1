-- What a marking call comes to: a refusal that leaves sheet and copy, or a run on a cleared sheet and a cleared copy. Assumes nothing.
use mathlib.Core.Path.{◌≡◌, sym, ap, ◌∙◌}
use Prim.Native.Nat.{ℕ, ◌*◌, ◌≤◌}
use mathlib.Core.Bool.{true}
use lib.ListN.{length, take, drop, replicate}
use lib.Seq.{length-take-le}
use Rattle.std.specs.Prelude.{List, ◌++◌, Result, Ok, Err, is_ok}
use Rattle.std.specs.Result.{result_and}
use Rattle.prelude.specs.Prelude.{when◌then◌else◌}
use Rattle.number.specs.declared.Refusal.{Refusal}
use Rattle.photograph.specs.Photographs.{photo, good_size}
use Rattle.footprint.specs.declared.Scene.{Scene}
use Rattle.photograph.proofs.Photographs.{size_checked}
use Rattle.sample_tree.specs.declared.Sampler.{Sampler}
use Rattle.sample_tree.specs.Samplers.{Samples}
use Rattle.sample_tree.specs.SampleTree.{SampleTree}
use Rattle.sample_tree.specs.Run.{Ran, ran as ran_as, run, State, state, sampler}
use Rattle.sample_tree.specs.Sheets as Sheets
use Rattle.sample_tree.proofs.Meaning.{run_cleared}
use Rattle.corners.specs.Corners.{Answer}
use Rattle.request.specs.declared.Request.{Request}
use Rattle.request.specs.Requests.{Photograph, scene_of, shown}
use Rattle.refine.specs.Refine.{refinement, result, reads_of}
use Rattle.marking.specs.Marking.{area, marking_entry, refine_marking, sheet_after, copy_after, Marks, RunsMarked}

-- ---- behind the entry checks

-- the front of a sheet or a copy that was filled with zeros
pub cleared : (n : ℕ) (s : List ℕ) {front : List ℕ} → n ≤ length s → front ≡ replicate (length (take n s)) 0 → front ++ drop n s ≡ replicate n 0 ++ drop n s
cleared n s long is = ap (λ (z : List ℕ). z ++ drop n s) (is ∙ ap (λ (k : ℕ). replicate k 0) (length-take-le n s long))

-- sheet and copy are cleared, and the step runs
pub ran-marked : {A : Type 0} (e : Scene) (t : SampleTree A) (s c : List ℕ) {before after : Sampler} {a : A} {s' c' : List ℕ} {n : ℕ} → good_size e.width e.height ≡ true
    → n ≡ e.width * e.height → before.scene ≡ e → before.sheet.now ≡ replicate n 0 ++ drop n s → before.copy.now ≡ replicate n 0 ++ drop n c
    → Samples before after t a → after.sheet.now ≡ s' → after.copy.now ≡ c'
    → RunsMarked e (photo before.photograph.bytes.now before.photograph.stride) t a s s' c c'
ran-marked {A} e t s c {before} {after} {a} {s'} {c'} good area scene sheet copy ran left_sheet left_copy =
    let p = photo before.photograph.bytes.now before.photograph.stride in
    let n = e.width * e.height in
    let done = run_cleared e p (size_checked e.width e.height good) t (drop n s) (drop n c) before.meter in
    let ended : ran_as a (state s' c' after.meter) ≡ run (sampler e p) t (state (replicate n 0 ++ drop n s) (replicate n 0 ++ drop n c) before.meter)
    = sym (rw (scene, sheet, copy, area, left_sheet, left_copy) at ran.runs.runs) in
    let whole = ended ∙ done in
    record {
      answer = ap (λ (z : Ran State A). z.answer) whole;
      sheet = ap (λ (z : Ran State A). z.state.sheet) whole;
      copy = ap (λ (z : Ran State A). z.state.copy) whole;
    }

-- ---- a call, by what its entry checks come to

module _ (r : Request) (ms : List ℕ) (p : Photograph) (s c : List ℕ) where
  pub refuses : {e : Refusal} → marking_entry r ms p (length s) (length c) ≡ Err e → Marks r ms p (Err e) s s c c
  unfolding refine_marking sheet_after copy_after
  refuses {e} is = record {
    answer = ap (λ (z : Result (Unit {0}) Refusal). result_and z (result r ms p)) (sym is);
    sheet = ap (λ (z : Result (Unit {0}) Refusal). when is_ok z then Sheets.sheet r.width r.height (reads_of r ms p) ++ drop (area r) s else s) (sym is);
    copy = ap (λ (z : Result (Unit {0}) Refusal). when is_ok z then Sheets.copy r.width r.height (shown p) (reads_of r ms p) ++ drop (area r) c else c) (sym is);
  }

  pub answers : {a : Answer} {s' c' : List ℕ} → marking_entry r ms p (length s) (length c) ≡ Ok tt
      → RunsMarked (scene_of r) (shown p) (refinement r ms) a s s' c c' → Marks r ms p a s s' c c'
  unfolding refine_marking sheet_after copy_after result reads_of
  answers passes ran = record {
    answer = ran.answer ∙ ap (λ (z : Result (Unit {0}) Refusal). result_and z (result r ms p)) (sym passes);
    sheet = ran.sheet ∙ ap (λ (z : Result (Unit {0}) Refusal). when is_ok z then Sheets.sheet r.width r.height (reads_of r ms p) ++ drop (area r) s else s) (sym passes);
    copy = ran.copy ∙ ap (λ (z : Result (Unit {0}) Refusal). when is_ok z then Sheets.copy r.width r.height (shown p) (reads_of r ms p) ++ drop (area r) c else c) (sym passes);
  }
