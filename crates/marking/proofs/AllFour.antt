-- The marking calls against document 01's reading, in which a sample reads all four pixels, also where a fraction is 0: over a photograph of bytes a call returns the same, and it marks
-- and keeps no pixel that it would not under that reading. It is the tree's `keeps-no_more`, of the refinement. Assumes nothing.
use mathlib.Core.Path.{◌≡◌, sym, ◌∙◌}
use mathlib.Core.Logic.{◌⊎◌}
use Prim.Native.Nat.{ℕ, ◌<◌}
use mathlib.Core.List.{List}
use Rattle.prelude.proofs.Lists.{Each}
use Rattle.photograph.specs.Photographs.{Pixel}
use Rattle.photograph.proofs.Bytes.{photo-bytes}
use Rattle.sample_tree.specs.AllFour.{value_of_four, reads_of_four}
use Rattle.sample_tree.specs.Sheets.{sheet, copy}
use Rattle.sample_tree.proofs.AllFour as tree
use Rattle.sample_tree.proofs.Sheets.{sheet-at, copy_at}
use Rattle.request.specs.declared.Request.{Request}
use Rattle.request.specs.Requests.{scene_of, shown}
use Rattle.refine.specs.Refine.{refinement, result, reads_of}
use Rattle.marking.specs.Demand3.{Call, reads_in, at}
use Rattle.marking.proofs.Demand3.{returned, size, demand_3}

module _ (r : Request) (grid : List ℕ) (a : Call r grid) where
  -- the pixels that document 01's reading reads
  abbrev pub four_reads : List Pixel
  four_reads = reads_of_four (scene_of r) (shown a.photograph) (refinement r a.modules)

  pub record KeepsNoMore : Type 0 where
    -- the call returns what the refinement ends in under document 01's reading
    pub answers : a.answer ≡ value_of_four (scene_of r) (shown a.photograph) (refinement r a.modules)
    -- at a pixel of the picture: what its sheet marks is marked there too
    pub sheets : (x y : ℕ) → x < r.width → y < r.height → at r grid a.sheet' x y ≡ 1 → at r grid (sheet r.width r.height four_reads) x y ≡ 1
    -- and its copy is painted over, or has the byte that the copy has there
    pub copies : (x y : ℕ) → x < r.width → y < r.height
        → (at r grid a.copy' x y ≡ 0) ⊎ (at r grid a.copy' x y ≡ at r grid (copy r.width r.height (shown a.photograph) four_reads) x y)

  pub keeps-no_more : Each (λ v. v < 256) a.photograph.bytes → KeepsNoMore
  unfolding result reads_of
  keeps-no_more bytes =
      let run = tree.keeps-no_more (scene_of r) (size r grid a) (shown a.photograph) (photo-bytes a.photograph.bytes a.photograph.stride bytes) (refinement r a.modules) in
      let marks = demand_3 r grid in
      record {
        answers = returned r grid a ∙ run.ends;
        sheets = λ x y hx hy one. run.sheets x y hx hy (sheet-at r.width r.height (reads_in r grid a) x y hx hy ∙ sym (marks.marked a x y hx hy) ∙ one);
        copies = λ x y hx hy.
            rw (marks.copied a x y hx hy, ← copy_at r.width r.height (shown a.photograph) (reads_in r grid a) x y hx hy) (run.copies x y hx hy);
      }
