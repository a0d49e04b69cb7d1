-- Demand 3: what two marking calls over one request tell of each other, as they return and leave the
-- sheets and copies that they were lent. Definitions only, to be believed: `demand_3` in
-- proofs/Demand3 proves it of every request, so with and without a camera, refused behind the entry
-- checks or not.
use Rattle.std.specs.Prelude.{◌≡◌, ◌↔◌, ℕ, ◌+◌, ◌*◌, ◌≤◌, ◌<◌, true, List, length, get_or, take, drop, Ok}
use Rattle.prelude.specs.Prelude.{when◌then◌else◌, bit}
use Rattle.photograph.specs.Photographs.{Pixel}
use Rattle.sample_tree.specs.Sheets.{is_read}
use Rattle.corners.specs.Corners.{Answer}
use Rattle.request.specs.declared.Request.{Request}
use Rattle.request.specs.Requests.{Photograph, cells, shown}
use Rattle.refine.specs.Refine.{reads_of}
use Rattle.marking.specs.Marking.{area, marking_entry, Marks}

-- The request and its label's modules are what all calls share: width, height, rough corners, scales, grid, polarity, camera and settings.
module _ (r : Request) (grid : List ℕ) where
  -- A marking call that passes the entry checks and has ended as its contract says. Its own are the photograph with its stride and the bytes between rows, the bytes
  -- behind the grid's modules, and what sheet and copy held before.
  pub record Call : Type 0 where
    pub photograph : Photograph
    pub modules : List ℕ
    pub answer : Answer
    pub sheet : List ℕ
    pub sheet' : List ℕ
    pub copy : List ℕ
    pub copy' : List ℕ
    pub same_grid : take (cells r) modules ≡ grid
    pub ended : Marks r modules photograph answer sheet sheet' copy copy'
    pub passes : marking_entry r modules photograph (length sheet) (length copy) ≡ Ok tt

  -- the pixels that the definition lists as read
  abbrev pub reads_in : Call → List Pixel
  reads_in a = reads_of r a.modules a.photograph

  -- a pixel's byte in a sheet or a copy
  abbrev pub at : List ℕ → ℕ → ℕ → ℕ
  at bytes x y = get_or bytes (y * r.width + x) 0

  -- the second call left the first one's sheet and copy, over width × height
  pub record SameMarks (a b : Call) : Type 0 where
    pub sheets : take (area r) b.sheet' ≡ take (area r) a.sheet'
    pub copies : take (area r) b.copy' ≡ take (area r) a.copy'

  -- the second photograph has the first one's value at every pixel marked for the first
  abbrev pub AgreesWhereMarked : Call → Call → Type 0
  AgreesWhereMarked a b = (x y : ℕ) → x < r.width → y < r.height → at a.sheet' x y ≡ 1 → shown b.photograph x y ≡ shown a.photograph x y

  -- the second photograph is the first call's blanked copy, its stride the width. Other bytes may lie behind it
  pub record OverTheCopy (a b : Call) : Type 0 where
    pub bytes : take (area r) b.photograph.bytes ≡ take (area r) a.copy'
    pub stride : b.photograph.stride ≡ r.width

  pub record Demand3 : Type 0 where
    -- 1. a call marks exactly the pixels that the definition lists as read, which all lie in the picture, and copies those alone
    pub marked : (a : Call) (x y : ℕ) → x < r.width → y < r.height → at a.sheet' x y ≡ bit (is_read x y (reads_in a))
    pub copied : (a : Call) (x y : ℕ) → x < r.width → y < r.height → at a.copy' x y ≡ (when is_read x y (reads_in a) then shown a.photograph x y else 0)
    pub inside : (a : Call) (x y : ℕ) → is_read x y (reads_in a) ≡ true → (x < r.width) × (y < r.height)
    -- and bytes past width × height are untouched
    pub sheet_untouched : (a : Call) → drop (area r) a.sheet' ≡ drop (area r) a.sheet
    pub copy_untouched : (a : Call) → drop (area r) a.copy' ≡ drop (area r) a.copy
    -- 2. sheets and copies are both equal exactly when the second photograph has the first one's value at every pixel marked for the first
    pub exactly_when : (a b : Call) → SameMarks a b ↔ AgreesWhereMarked a b
    -- 3. then both return the same: the refusal, or corners, edge counts and flags
    pub then_same : (a b : Call) → SameMarks a b → b.answer ≡ a.answer
    -- 4. a call over the blanked copy returns the same, and leaves the same sheet and copy again
    pub copy_returns : (a b : Call) → OverTheCopy a b → b.answer ≡ a.answer
    pub copy_again : (a b : Call) → OverTheCopy a b → SameMarks a b
    -- and the blanked copy passes the entry checks, with a sheet and a copy that are long enough
    pub copy-passes : (a : Call) (q : Photograph) (s c : ℕ) → q.stride ≡ r.width → area r ≤ length q.bytes → area r ≤ s → area r ≤ c
        → marking_entry r a.modules q s c ≡ Ok tt
