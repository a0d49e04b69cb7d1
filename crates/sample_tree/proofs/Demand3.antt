-- Demand 3, for every step that looks at a photograph: what the mark sheet and the blanked copy of a run tell.
-- Why: the sheet and the copy hold nothing but the pixels read and their bytes, and by the agreement theorem a step that reads those bytes again runs as it did.
-- `demand_3` below proves it of any scene whose size passes its check. Assumes nothing.
use mathlib.Core.Path.{◌≡◌, refl, sym, ap, ◌∙◌, subst}
use mathlib.Core.Logic.{◌↔◌}
use Prim.Native.Nat.{ℕ, ◌+◌, ◌*◌, ◌<◌}
use native.Mathlib.Omega.{arith}
use mathlib.Core.Bool.{Bool, true, false}
use mathlib.Core.List.{List, ◌++◌}
use lib.Dec.{T}
use lib.ListN.{get_or, get_or-append}
use Rattle.prelude.specs.Prelude.{when◌then◌else◌, bit}
use Rattle.photograph.specs.Photographs.{Photo, photo, Pixel}
use Rattle.footprint.specs.declared.Scene.{Scene}
use Rattle.pixel.proofs.Places.{place-lt}
use Rattle.sampling.proofs.Interpolation.{Same}
use Rattle.photograph.proofs.Photographs.{Sized}
use Rattle.sample_tree.specs.SampleTree.{SampleTree, reads}
use Rattle.sample_tree.specs.Sheets.{is_read, sheet, copy}
use Rattle.sample_tree.proofs.Agreement.{Alike, alike}
use Rattle.sample_tree.proofs.Inside.{reads-inside}
use lib.Ieee.Bits.{is_true}
use Rattle.sample_tree.proofs.Sheets.{read_each, sheet-at, copy_at, copy_ext, length-copy}

module _ {A : Type 0} (e : Scene) (t : SampleTree A) where
  -- what a marking run over p leaves
  abbrev pub SheetOf : Photo → List ℕ
  SheetOf p = sheet e.width e.height (reads e p t)

  abbrev pub CopyOf : Photo → List ℕ
  CopyOf p = copy e.width e.height p (reads e p t)

  -- the pixel is in the picture, and the run over p reads it
  abbrev pub Marked : Photo → ℕ → ℕ → Type 0
  Marked p x y = (x < e.width) × (y < e.height) × T (is_read x y (reads e p t))

  -- q has p's value at every pixel marked for p
  abbrev pub AgreesWhereMarked : Photo → Photo → Type 0
  AgreesWhereMarked p q = (x y : ℕ) → Marked p x y → q x y ≡ p x y

  -- the run over q leaves the same sheet and the same copy
  pub record SameMarks (p q : Photo) : Type 0 where
    pub sheets : SheetOf q ≡ SheetOf p
    pub copies : CopyOf q ≡ CopyOf p

  pub record Demand3 : Type 0 where
    -- the sheet has a 1 exactly at the pixels read
    pub marked : (p : Photo) (x y : ℕ) → x < e.width → y < e.height → get_or (SheetOf p) (y * e.width + x) 0 ≡ bit (is_read x y (reads e p t))
    -- sheet and copy are equal exactly when the second photograph has the first one's value at every pixel marked for the first
    pub exactly_when : (p q : Photo) → SameMarks p q ↔ AgreesWhereMarked p q
    -- and then both runs end in the same, read the same, and take as many samples
    pub then_alike : (p q : Photo) → SameMarks p q → Alike e p q t
    -- a run over the blanked copy, whose stride is the width, and behind which other bytes may lie
    pub copy_replays : (p : Photo) (behind : List ℕ) → Alike e p (photo (CopyOf p ++ behind) e.width) t
    pub copy_again : (p : Photo) (behind : List ℕ) → SameMarks p (photo (CopyOf p ++ behind) e.width)

-- ---- the proof

one≢zero : ◌≡◌ {A = ℕ} 1 0 → ⊥
one≢zero h = omega arith

module _ {A : Type 0} (e : Scene) (size : Sized e.width e.height) (t : SampleTree A) where
  runs_alike : (p q : Photo) → AgreesWhereMarked e t p q → Alike e p q t
  runs_alike p q f = alike e p q t (read_each (Same p q) e.width e.height (reads e p t) (reads-inside e size p t) (λ x y hx hy r. f x y (hx, hy, r)))

  same_marks : (p q : Photo) → AgreesWhereMarked e t p q → SameMarks e t p q
  same_marks p q f =
      let rs : reads e q t ≡ reads e p t = (runs_alike p q f).reading in
      record {
        sheets = ap (λ (r : List Pixel). sheet e.width e.height r) rs;
        copies = ap (λ (r : List Pixel). copy e.width e.height q r) rs
            ∙ copy_ext e.width e.height p q (reads e p t) size.wide (λ x y hx hy r. f x y (hx, hy, r));
      }

  same_pixels : (p q : Photo) → SameMarks e t p q → AgreesWhereMarked e t p q
  same_pixels p q same x y m = go (is_read x y (reads e q t)) refl
    where
      rp : is_read x y (reads e p t) ≡ true
      rp = is_true (is_read x y (reads e p t)) m.2

      at-sheet : bit (is_read x y (reads e q t)) ≡ bit (is_read x y (reads e p t))
      at-sheet = sym (sheet-at e.width e.height (reads e q t) x y m.0 m.1) ∙ ap (λ (l : List ℕ). get_or l (y * e.width + x) 0) same.sheets
          ∙ sheet-at e.width e.height (reads e p t) x y m.0 m.1

      at_copy : (when is_read x y (reads e q t) then q x y else 0) ≡ (when is_read x y (reads e p t) then p x y else 0)
      at_copy = sym (copy_at e.width e.height q (reads e q t) x y m.0 m.1) ∙ ap (λ (l : List ℕ). get_or l (y * e.width + x) 0) same.copies
          ∙ copy_at e.width e.height p (reads e p t) x y m.0 m.1

      go : (b : Bool) → is_read x y (reads e q t) ≡ b → q x y ≡ p x y
      go true rq = rw (rq, rp) at at_copy
      go false rq = absurd (one≢zero (sym (rw (rq, rp) at at-sheet)))

  copy_agrees : (p : Photo) (behind : List ℕ) → AgreesWhereMarked e t p (photo (CopyOf e t p ++ behind) e.width)
  copy_agrees p behind x y m =
      get_or-append (CopyOf e t p) behind 0 (y * e.width + x)
      (subst (λ (n : ℕ). y * e.width + x < n) (sym (length-copy e.width e.height p (reads e p t))) (place-lt e.width e.height x y m.0 m.1))
      ∙ copy_at e.width e.height p (reads e p t) x y m.0 m.1
      ∙ ap (λ (b : Bool). when b then p x y else 0) (is_true (is_read x y (reads e p t)) m.2)

  pub demand_3 : Demand3 e t
  demand_3 = record {
    marked = λ p x y hx hy. sheet-at e.width e.height (reads e p t) x y hx hy;
    exactly_when = λ p q. (same_pixels p q, same_marks p q);
    then_alike = λ p q same. runs_alike p q (same_pixels p q same);
    copy_replays = λ p behind. runs_alike p (photo (CopyOf e t p ++ behind) e.width) (copy_agrees p behind);
    copy_again = λ p behind. same_marks p (photo (CopyOf e t p ++ behind) e.width) (copy_agrees p behind);
  }
