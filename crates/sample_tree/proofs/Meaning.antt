-- What a run by the refinement's handler comes to, for every step: its answer is the step's value, its meter counts the samples taken, and from a cleared sheet and a cleared
-- copy it leaves the sheet and the copy of what the step reads. By induction on the tree. Assumes nothing.
use mathlib.Core.Path.{◌≡◌, refl, sym, ap, ◌∙◌, subst}
use Prim.Native.Nat.{ℕ, ◌+◌, ◌*◌, ◌≤◌, ◌<◌}
use native.Mathlib.Nat.{le_trans}
use mathlib.Core.Bool.{Bool, true, false}
use mathlib.Core.List.{List, ◌++◌}
use lib.ListN.{length, length-set, replicate, length-append, length-replicate}
use native.Mathlib.Omega.{arith}
use borrow.Author.Tests.{lt-ltb}
use Rattle.prelude.proofs.Lists.{Each}
use Rattle.prelude.specs.Prelude.{when◌then◌else◌}
use Rattle.photograph.specs.Photographs.{Photo}
use Rattle.footprint.specs.Footprints.{scene_footprint}
use Rattle.sampling.specs.Sampling.{cell_of, pixels_read, interpolate}
use Rattle.sampling.specs.Marks.{Buffers, buffers, written, ones, reach, marked}
use Rattle.sampling.specs.declared.CellBytes.{CellBytes}
use Rattle.footprint.specs.declared.Scene.{Scene}
use Rattle.footprint.specs.declared.Footprint.{Footprint}
use Rattle.footprint.specs.declared.Footprint.TheVariants.{Rejected, Border, Cell}
use Rattle.pixel.proofs.Places.{place-lt}
use Rattle.photograph.proofs.Pixels.{Inside}
use Rattle.photograph.proofs.Photographs.{Sized}
use Rattle.sampling.proofs.Inside.{scene_inside}
use Rattle.sample_tree.specs.declared.Meter.{Meter}
use Rattle.sample_tree.specs.Meters.{increment, increment_by}
use Rattle.sample_tree.specs.SampleTree.{SampleTree, done, sample, value, reads, sample_count}
use Rattle.sample_tree.specs.Run.{Ran, ran, run, State, state, after, sampler, Runs}
use Rattle.sample_tree.specs.Sheets.{sheet, copy}
use Rattle.sample_tree.proofs.Inside.{reads-inside}
use Rattle.sample_tree.proofs.Sheets.{white, sheet_white, pasted, pasted_++, length_pasted, pasted_cleared}

module _ {A : Type 0} (e : Scene) (p : Photo) where
  -- whatever the state
  pub run_value : (t : SampleTree A) (s : State) → (run (sampler e p) t s).answer ≡ value e p t
  unfolding run sampler value
  run_value (done a) s = refl
  run_value (sample q k) s = run_value (k (interpolate p (scene_footprint e q))) (sampler e p q s).state

  pub run-counts : (t : SampleTree A) (s : State) → (run (sampler e p) t s).state.meter ≡ increment_by (sample_count e p t) s.meter
  unfolding run sampler sample_count increment_by
  run-counts (done a) s = refl
  run-counts (sample q k) s = run-counts (k (interpolate p (scene_footprint e q))) (sampler e p q s).state

-- no buffer grows or shrinks
length-written : (w x0 y0 x1 y1 : ℕ) (v : CellBytes) (s : List ℕ) → length (written w x0 y0 x1 y1 v s) ≡ length s
length-written w x0 y0 x1 y1 v s = simp length-set

marked_long : (p : Photo) (w : ℕ) (at : Footprint) (b : Buffers) → (length (marked p w at b).sheet ≡ length b.sheet) × (length (marked p w at b).copy ≡ length b.copy)
unfolding marked
marked_long p w Rejected b = (refl, refl)
marked_long p w (Border v) b = (refl, refl)
marked_long p w (Cell x0 y0 x1 y1 fx fy) b = go (reach (y1 * w + x1) b)
  where
    cell : CellBytes
    cell = cell_of p x0 y0 x1 y1

    go : (t : Bool) → (length (when t then buffers (written w x0 y0 x1 y1 ones b.sheet) (written w x0 y0 x1 y1 cell b.copy) else b).sheet ≡ length b.sheet)
        × (length (when t then buffers (written w x0 y0 x1 y1 ones b.sheet) (written w x0 y0 x1 y1 cell b.copy) else b).copy ≡ length b.copy)
    go true = (length-written w x0 y0 x1 y1 ones b.sheet, length-written w x0 y0 x1 y1 cell b.copy)
    go false = (refl, refl)

run_long : {A : Type 0} (e : Scene) (p : Photo) (t : SampleTree A) (s : State)
    → (length (run (sampler e p) t s).state.sheet ≡ length s.sheet) × (length (run (sampler e p) t s).state.copy ≡ length s.copy)
unfolding run sampler
run_long e p (done a) s = (refl, refl)
run_long e p (sample q k) s =
    let rest = run_long e p (k (interpolate p (scene_footprint e q))) (sampler e p q s).state in
    let here = marked_long p e.width (scene_footprint e q) (buffers s.sheet s.copy) in
    (rest.0 ∙ here.0, rest.1 ∙ here.1)

-- four pixels of the picture, in buffers of width × height bytes or more
marked_all : (p : Photo) (w h : ℕ) (at : Footprint) (s c : List ℕ) → Each (Inside w h) (pixels_read at) → w * h ≤ length s → w * h ≤ length c
    → marked p w at (buffers s c) ≡ buffers (pasted white w (pixels_read at) s) (pasted p w (pixels_read at) c)
unfolding marked pixels_read pasted
marked_all p w h Rejected s c ins hs hc = refl
marked_all p w h (Border v) s c ins hs hc = refl
marked_all p w h (Cell x0 y0 x1 y1 fx fy) s c ins hs hc =
    let last = ins.1.1.1.0 in
    let below : y1 * w + x1 < w * h = place-lt w h x1 y1 last.across last.down in
    rw (lt-ltb (y1 * w + x1) (length s) (le_trans below hs), lt-ltb (y1 * w + x1) (length c) (le_trans below hc))

module _ {A : Type 0} (e : Scene) (p : Photo) (size : Sized e.width e.height) where
  run_pastes : (t : SampleTree A) (s c : List ℕ) (m : Meter) → e.width * e.height ≤ length s → e.width * e.height ≤ length c
      → run (sampler e p) t (state s c m)
      ≡ ran (value e p t) (state (pasted white e.width (reads e p t) s) (pasted p e.width (reads e p t) c) (increment_by (sample_count e p t) m))
  unfolding run sampler value reads sample_count increment_by pasted
  run_pastes (done a) s c m hs hc = refl
  run_pastes (sample q k) s c m hs hc =
      let w = e.width in
      let at = scene_footprint e q in
      ap (λ (b : Buffers). run (sampler e p) (k (interpolate p at)) (after b m)) (marked_all p w e.height at s c (scene_inside e size q) hs hc)
      ∙ run_pastes (k (interpolate p (scene_footprint e q))) (pasted white w (pixels_read at) s) (pasted p w (pixels_read at) c) (increment m)
      (subst (λ (n : ℕ). w * e.height ≤ n) (sym (length_pasted white w (pixels_read at) s)) hs)
      (subst (λ (n : ℕ). w * e.height ≤ n) (sym (length_pasted p w (pixels_read at) c)) hc)
      ∙ rw (pasted_++ white w (pixels_read at) (reads e p (k (interpolate p at))) s, pasted_++ p w (pixels_read at) (reads e p (k (interpolate p at))) c)

  -- from a cleared sheet and a cleared copy, behind which other bytes may lie
  pub run_cleared : (t : SampleTree A) (s c : List ℕ) (m : Meter)
      → run (sampler e p) t (state (replicate (e.width * e.height) 0 ++ s) (replicate (e.width * e.height) 0 ++ c) m)
      ≡ ran (value e p t) (state (sheet e.width e.height (reads e p t) ++ s) (copy e.width e.height p (reads e p t) ++ c) (increment_by (sample_count e p t) m))
  run_cleared t s c m =
      let w = e.width in
      let h = e.height in
      run_pastes t (replicate (w * h) 0 ++ s) (replicate (w * h) 0 ++ c) m (long s) (long c)
      ∙ rw (pasted_cleared white w h (reads e p t) s size.wide (reads-inside e size p t), pasted_cleared p w h (reads e p t) c size.wide (reads-inside e size p t), sheet_white w h (reads e p t))
    where
      long : (t : List ℕ) → e.width * e.height ≤ length (replicate (e.width * e.height) 0 ++ t)
      long t = simp (length-append, length-replicate) (omega arith)

-- ---- of a function that runs a step

module _ {A : Type 0} (e : Scene) (p : Photo) {t : SampleTree A} {r : A} {s s' : State} (h : Runs (sampler e p) t r s s') where
  pub ran-value : r ≡ value e p t
  ran-value = sym (ap (λ (z : Ran State A). z.answer) h.runs) ∙ run_value e p t s

  pub sheet_long : length s'.sheet ≡ length s.sheet
  sheet_long = sym (ap (λ (z : Ran State A). length z.state.sheet) h.runs) ∙ (run_long e p t s).0

  pub copy_long : length s'.copy ≡ length s.copy
  copy_long = sym (ap (λ (z : Ran State A). length z.state.copy) h.runs) ∙ (run_long e p t s).1

  pub ran-counts : s'.meter ≡ increment_by (sample_count e p t) s.meter
  ran-counts = sym (ap (λ (z : Ran State A). z.state.meter) h.runs) ∙ run-counts e p t s
