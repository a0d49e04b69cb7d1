-- The marking calls: the entry check by `Sheet`, what they return, and what they leave in the sheet and the copy
-- that they are lent. Definitions only, to be believed; `RunsMarked` and `Ready` are internal, what
-- the function behind the checks promises and asks.
use Rattle.std.specs.Prelude.{◌≡◌, ℕ, ◌*◌, ◌≤◌, true, ◌&&◌, List, [], ◌∷◌, ◌++◌, leb, length, drop, Result, is_ok}
use Rattle.std.specs.Result.{result_and}
use Rattle.prelude.specs.Checks.{check, first}
use Rattle.prelude.specs.Prelude.{when◌then◌else◌}
use Rattle.number.specs.declared.Refusal.{Refusal}
use Rattle.number.specs.declared.Refusal.TheVariants as refusal
use Rattle.photograph.specs.Photographs.{Photo, good_size}
use Rattle.footprint.specs.declared.Scene.{Scene}
use Rattle.sample_tree.specs.SampleTree.{SampleTree, value, reads}
use Rattle.sample_tree.specs.Sheets as Sheets
use Rattle.corners.specs.Corners.{Answer}
use Rattle.request.specs.declared.Request.{Request}
use Rattle.request.specs.Requests.{Photograph, entry_checks, shown}
use Rattle.refine.specs.Refine.{result, reads_of}

-- the bytes of the sheet, and of the copy, that a run writes
abbrev pub area : Request → ℕ
area r = r.width * r.height

-- the entry checks, `Sheet` the last, with a sheet and a copy of so many bytes
abbrev pub marking_entry : Request → List ℕ → Photograph → ℕ → ℕ → Result (Unit {0}) Refusal
marking_entry r ms p sheet_bytes copy_bytes = first (entry_checks r ms p ++ check refusal.Sheet (leb (area r) sheet_bytes && leb (area r) copy_bytes) ∷ [])

-- The step t, in the scene e over the photograph p, ends in r. It takes the sheet from s to s' and the copy from c to c'.
pub record RunsMarked {A : Type 0} (e : Scene) (p : Photo) (t : SampleTree A) (r : A) (s s' c c' : List ℕ) : Type 0 where
  pub answer : r ≡ value e p t
  pub sheet : s' ≡ Sheets.sheet e.width e.height (reads e p t) ++ drop (e.width * e.height) s
  pub copy : c' ≡ Sheets.copy e.width e.height p (reads e p t) ++ drop (e.width * e.height) c

-- ---- a call over the photograph p that is lent the sheet s and the copy c

module _ (r : Request) (ms : List ℕ) (p : Photograph) (s c : List ℕ) where
  -- what its entry checks come to
  abbrev pub entered : Result (Unit {0}) Refusal
  entered = marking_entry r ms p (length s) (length c)

  -- what it returns
  unfoldable pub refine_marking : Answer
  refine_marking = result_and entered (result r ms p)

  -- the sheet after it
  unfoldable pub sheet_after : List ℕ
  sheet_after = when is_ok entered then Sheets.sheet r.width r.height (reads_of r ms p) ++ drop (area r) s else s

  -- the copy after it
  unfoldable pub copy_after : List ℕ
  copy_after = when is_ok entered then Sheets.copy r.width r.height (shown p) (reads_of r ms p) ++ drop (area r) c else c

-- What a marking call promises: it returns a, and takes the sheet from s to s' and the copy from c to c'.
pub record Marks (r : Request) (ms : List ℕ) (p : Photograph) (a : Answer) (s s' c c' : List ℕ) : Type 0 where
  pub answer : a ≡ refine_marking r ms p s c
  pub sheet : s' ≡ sheet_after r ms p s c
  pub copy : c' ≡ copy_after r ms p s c

-- what a run behind the entry checks goes by
pub record Ready (r : Request) (s c : List ℕ) : Type 0 where
  pub size : good_size r.width r.height ≡ true
  pub sheet : area r ≤ length s
  pub copy : area r ≤ length c
