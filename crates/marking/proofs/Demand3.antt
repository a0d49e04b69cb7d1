-- Demand 3, of the marking calls: `demand_3` proves what specs/Demand3 states, of every request.
-- Why: a call that passes the entry checks leaves the sheet and the copy of its run in front of the bytes past width × height, and the tree's demand 3 holds of every
-- run. Two calls take the same steps, since these go by the grid's own modules. Bytes that begin with the blanked copy, in rows of width bytes, show at each pixel of the picture what the copy has there. Assumes nothing.
use mathlib.Core.Path.{◌≡◌, sym, ap, ◌∙◌}
use mathlib.Core.Logic.{◌↔◌}
use Prim.Native.Nat.{ℕ, ◌+◌, ◌*◌, ◌≤◌, ◌<◌}
use native.Mathlib.Omega.{arith}
use mathlib.Core.Bool.{Bool, true, false}
use mathlib.Core.List.{List, ◌++◌}
use lib.Dec.{T}
use lib.ListN.{length, get_or, take, drop}
use lib.Seq.{get_or-take, take_at, drop_at}
use Rattle.std.specs.Prelude.{Result, Ok, is_ok}
use Rattle.std.specs.Result.{result_and}
use Rattle.prelude.specs.Prelude.{when◌then◌else◌, bit}
use Rattle.number.specs.declared.Refusal.{Refusal}
use Rattle.photograph.specs.Photographs.{Photo, pixel}
use Rattle.pixel.proofs.Places.{place-lt}
use Rattle.photograph.proofs.Pixels.{Inside}
use Rattle.photograph.proofs.Photographs.{Sized, size_checked, good_rows}
use Rattle.sample_tree.specs.SampleTree.{SampleTree, value}
use Rattle.sample_tree.specs.Sheets.{is_read, sheet, copy}
use Rattle.sample_tree.proofs.Inside.{reads-inside}
use lib.Ieee.Bits.{is_true}
use Rattle.sample_tree.proofs.Sheets.{each_read, sheet-at, copy_at, length-sheet, length-copy}
use Rattle.sample_tree.proofs.Demand3 as one_sample
use Rattle.corners.specs.Corners.{Answer}
use Rattle.rounds.specs.Rounds.{rounds}
use Rattle.request.specs.declared.Request.{Request}
use Rattle.request.specs.Requests.{Photograph, source_corners, scene_of, shown, entry}
use Rattle.refine.specs.Refine.{plan_of, refinement, result, reads_of}
use Rattle.marking.specs.Marking.{area, marking_entry, refine_marking, sheet_after, copy_after}
use Rattle.marking.specs.Demand3.{Call, reads_in, at, SameMarks, AgreesWhereMarked, OverTheCopy, Demand3}
use Rattle.request.proofs.Checks.{photograph-passes, other_photograph}
use Rattle.marking.proofs.Entered.{entered, enters_marking}

-- ---- lists

-- a list at a place in its front
front_at : (n : ℕ) (l f : List ℕ) (i : ℕ) → take n l ≡ f → i < n → get_or l i 0 ≡ get_or f i 0
front_at n l f i e h = sym (get_or-take n l i 0 h) ∙ ap (λ (m : List ℕ). get_or m i 0) e

-- a bit that is 1
one_true : (b : Bool) → bit b ≡ 1 → T b
one_true true h = tt
one_true false h = absurd (omega arith)

module _ (r : Request) (grid : List ℕ) where
  -- ---- the run of a call

  -- what its photograph shows
  abbrev seen : Call r grid → Photo
  seen a = shown a.photograph

  -- its sheet, of width × height bytes
  abbrev sheet_of : Call r grid → List ℕ
  sheet_of a = sheet r.width r.height (reads_in r grid a)

  -- its copy
  abbrev copy_of : Call r grid → List ℕ
  copy_of a = copy r.width r.height (seen a) (reads_in r grid a)

  -- ---- what a call returns and leaves

  -- it returns what its run ends in
  pub returned : (a : Call r grid) → a.answer ≡ result r a.modules a.photograph
  unfolding refine_marking
  returned a = a.ended.answer ∙ ap (λ (z : Result (Unit {0}) Refusal). result_and z (result r a.modules a.photograph)) a.passes

  -- it leaves the run's sheet in front of what it was lent past width × height
  sheet-left : (a : Call r grid) → a.sheet' ≡ sheet_of a ++ drop (area r) a.sheet
  unfolding sheet_after
  sheet-left a = a.ended.sheet ∙ ap (λ (z : Result (Unit {0}) Refusal). when is_ok z then sheet_of a ++ drop (area r) a.sheet else a.sheet) a.passes

  -- and so the run's copy
  copy-left : (a : Call r grid) → a.copy' ≡ copy_of a ++ drop (area r) a.copy
  unfolding copy_after
  copy-left a = a.ended.copy ∙ ap (λ (z : Result (Unit {0}) Refusal). when is_ok z then copy_of a ++ drop (area r) a.copy else a.copy) a.passes

  -- the first width × height bytes of both
  sheet-front : (a : Call r grid) → take (area r) a.sheet' ≡ sheet_of a
  sheet-front a = rw (sheet-left a) (take_at (sheet_of a) _ (area r) (length-sheet r.width r.height (reads_in r grid a)))

  copy-front : (a : Call r grid) → take (area r) a.copy' ≡ copy_of a
  copy-front a = rw (copy-left a) (take_at (copy_of a) _ (area r) (length-copy r.width r.height (seen a) (reads_in r grid a)))

  -- and those behind, which are as they were
  sheet_untouched : (a : Call r grid) → drop (area r) a.sheet' ≡ drop (area r) a.sheet
  sheet_untouched a = rw (sheet-left a) (drop_at (sheet_of a) _ (area r) (length-sheet r.width r.height (reads_in r grid a)))

  copy_untouched : (a : Call r grid) → drop (area r) a.copy' ≡ drop (area r) a.copy
  copy_untouched a = rw (copy-left a) (drop_at (copy_of a) _ (area r) (length-copy r.width r.height (seen a) (reads_in r grid a)))

  -- ---- at a pixel

  module _ (a : Call r grid) (x y : ℕ) where
    -- the sheet has a 1 where the pixel is read
    marked : x < r.width → y < r.height → at r grid a.sheet' x y ≡ bit (is_read x y (reads_in r grid a))
    marked hx hy =
        front_at (area r) a.sheet' (sheet_of a) (y * r.width + x) (sheet-front a) (place-lt r.width r.height x y hx hy)
        ∙ sheet-at r.width r.height (reads_in r grid a) x y hx hy

    -- so where it has a 1 the pixel is read
    one_read : x < r.width → y < r.height → at r grid a.sheet' x y ≡ 1 → T (is_read x y (reads_in r grid a))
    one_read hx hy one = one_true (is_read x y (reads_in r grid a)) (sym (marked hx hy) ∙ one)

    -- bytes that begin with the copy have the photograph's value where the pixel is read, else 0
    over_at : (bytes : List ℕ) → take (area r) bytes ≡ copy_of a → x < r.width → y < r.height
        → at r grid bytes x y ≡ (when is_read x y (reads_in r grid a) then seen a x y else 0)
    over_at bytes begins hx hy =
        front_at (area r) bytes (copy_of a) (y * r.width + x) begins (place-lt r.width r.height x y hx hy)
        ∙ copy_at r.width r.height (seen a) (reads_in r grid a) x y hx hy

  -- ---- a call has passed the entry checks

  -- those of the refinement call among them
  enters : (a : Call r grid) → entry r a.modules a.photograph ≡ Ok tt
  enters a = (entered r a.modules a.photograph (length a.sheet) (length a.copy) a.passes).0

  -- so its size is within the limits
  pub size : Call r grid → Sized r.width r.height
  size a = size_checked r.width r.height (photograph-passes r a.modules a.photograph (enters a)).0

  -- what it reads lies in the picture
  inside : (a : Call r grid) (x y : ℕ) → is_read x y (reads_in r grid a) ≡ true → Inside r.width r.height (pixel x y)
  unfolding reads_of
  inside a x y = each_read (Inside r.width r.height) x y (reads_in r grid a) (reads-inside (scene_of r) (size a) (seen a) (refinement r a.modules))

  -- and the tree's demand 3 holds of its run
  demand : (a : Call r grid) → one_sample.Demand3 (scene_of r) (refinement r a.modules)
  demand a = one_sample.demand_3 (scene_of r) (size a) (refinement r a.modules)

  -- ---- two calls

  module _ (a b : Call r grid) where
    -- they take the same steps: bytes behind the grid's modules are not looked at
    same_steps : refinement r b.modules ≡ refinement r a.modules
    unfolding refinement
    same_steps = ap (λ (ms : List ℕ). rounds (plan_of r) ms (source_corners r)) (b.same_grid ∙ sym a.same_grid)

    -- so the second one's answer, sheet and copy are those of the first one's steps over its photograph
    returned_by : b.answer ≡ value (scene_of r) (seen b) (refinement r a.modules)
    unfolding result
    returned_by = returned b ∙ ap (λ (u : SampleTree Answer). value (scene_of r) (seen b) u) same_steps

    sheet-by : take (area r) b.sheet' ≡ one_sample.SheetOf (scene_of r) (refinement r a.modules) (seen b)
    unfolding reads_of
    sheet-by = sheet-front b ∙ ap (λ (u : SampleTree Answer). one_sample.SheetOf (scene_of r) u (seen b)) same_steps

    copy-by : take (area r) b.copy' ≡ one_sample.CopyOf (scene_of r) (refinement r a.modules) (seen b)
    unfolding reads_of
    copy-by = copy-front b ∙ ap (λ (u : SampleTree Answer). one_sample.CopyOf (scene_of r) u (seen b)) same_steps

    -- where they leave the same, their runs do
    same_runs : SameMarks r grid a b → one_sample.SameMarks (scene_of r) (refinement r a.modules) (seen a) (seen b)
    unfolding reads_of
    same_runs same = record { sheets = sym sheet-by ∙ same.sheets ∙ sheet-front a; copies = sym copy-by ∙ same.copies ∙ copy-front a }

    -- and the other way
    same_calls : one_sample.SameMarks (scene_of r) (refinement r a.modules) (seen a) (seen b) → SameMarks r grid a b
    unfolding reads_of
    same_calls same = record { sheets = sheet-by ∙ same.sheets ∙ sym (sheet-front a); copies = copy-by ∙ same.copies ∙ sym (copy-front a) }

    -- sheets and copies are equal exactly when the photographs agree where the first call marked
    exactly_when : SameMarks r grid a b ↔ AgreesWhereMarked r grid a b
    unfolding reads_of
    exactly_when = let runs = (demand a).exactly_when (seen a) (seen b) in (
      λ same x y hx hy one. runs.0 (same_runs same) x y (hx, hy, one_read a x y hx hy one),
      λ agrees. same_calls (runs.1 (λ x y m. agrees x y m.0 m.1 (marked a x y m.0 m.1 ∙ ap bit (is_true (is_read x y (reads_in r grid a)) m.2)))),
    )

    -- then they return the same
    then_same : SameMarks r grid a b → b.answer ≡ a.answer
    unfolding result
    then_same same = returned_by ∙ ((demand a).then_alike (seen a) (seen b) (same_runs same)).ends ∙ sym (returned a)

    -- the blanked copy agrees there with the first photograph
    over_agrees : OverTheCopy r grid a b → AgreesWhereMarked r grid a b
    over_agrees over x y hx hy one =
        ap (λ (s : ℕ). get_or b.photograph.bytes (y * s + x) 0) over.stride
        ∙ over_at a x y b.photograph.bytes (over.bytes ∙ copy-front a) hx hy
        ∙ ap (λ (k : Bool). when k then seen a x y else 0) (is_true (is_read x y (reads_in r grid a)) (one_read a x y hx hy one))

    -- so a call over it leaves the same
    copy_again : OverTheCopy r grid a b → SameMarks r grid a b
    copy_again over = exactly_when.1 (over_agrees over)

  -- rows of width bytes pass the entry checks where another photograph does
  copy-passes : (a : Call r grid) (q : Photograph) (s c : ℕ) → q.stride ≡ r.width → area r ≤ length q.bytes
      → area r ≤ s → area r ≤ c → marking_entry r a.modules q s c ≡ Ok tt
  copy-passes a q s c stride long =
      enters_marking r a.modules q s c (other_photograph r a.modules a.photograph (enters a) q (rw stride (good_rows r.width r.height (length q.bytes) (size a) long)))

pub demand_3 : (r : Request) (grid : List ℕ) → Demand3 r grid
demand_3 r grid = record {
  marked = marked r grid;
  copied = λ a x y. over_at r grid a x y a.copy' (copy-front r grid a);
  inside = λ a x y read. let lies = inside r grid a x y read in (lies.across, lies.down);
  sheet_untouched = sheet_untouched r grid;
  copy_untouched = copy_untouched r grid;
  exactly_when = exactly_when r grid;
  then_same = then_same r grid;
  copy_returns = λ a b over. then_same r grid a b (copy_again r grid a b over);
  copy_again = copy_again r grid;
  copy-passes = copy-passes r grid;
}
