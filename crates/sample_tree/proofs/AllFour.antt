-- A run against document 01's reading, in which a sample reads all four pixels, also where a fraction is 0: over a photograph of bytes it ends in the same, and it reads, marks and
-- copies no pixel that the other does not. Why: each sample shows the same, so the run goes the same way, and the column or the row that it leaves out is the only one that it
-- reads less. `keeps-no_more` below proves it of every step, in any scene whose size passes its check. Assumes nothing.
use mathlib.Core.Path.{◌≡◌, refl, sym, ap, ◌∙◌, subst}
use mathlib.Core.Logic.{◌⊎◌, inl, inr}
use Prim.Native.Nat.{ℕ, ◌+◌, ◌*◌, ◌<◌}
use native.Mathlib.Omega.{arith}
use mathlib.Core.Bool.{Bool, true, false}
use lib.Dec.{T}
use lib.ListN.{get_or}
use lib.Ieee.Bits.{is_true}
use Rattle.prelude.specs.Prelude.{when◌then◌else◌, bit}
use Rattle.prelude.proofs.Lists.{Each, each_both, each_append}
use Rattle.pixel.specs.declared.SourcePixel.{SourcePixel}
use Rattle.photograph.specs.Photographs.{Photo, Pixel}
use Rattle.photograph.proofs.Bytes.{Bytes}
use Rattle.photograph.proofs.Photographs.{Sized}
use Rattle.footprint.specs.declared.Scene.{Scene}
use Rattle.footprint.specs.Footprints.{scene_footprint}
use Rattle.std.specs.Prelude.{Option}
use lib.Ieee.{Float}
use Rattle.sampling.specs.Sampling.{pixels_read, interpolate}
use Rattle.sampling.proofs.AllFour.{scene_same, scene_part}
use Rattle.sample_tree.specs.SampleTree.{SampleTree, done, sample, value, reads}
use Rattle.sample_tree.specs.AllFour.{four_footprint, value_of_four, reads_of_four}
use Rattle.sample_tree.specs.Sheets.{is_read, sheet, copy}
use Rattle.sample_tree.proofs.Sheets.{listed, each_read, sheet-at, copy_at}

module _ {A : Type 0} (e : Scene) (t : SampleTree A) (p : Photo) where
  -- the run over p, against document 01's reading
  pub record KeepsNoMore : Type 0 where
    pub ends : value e p t ≡ value_of_four e p t
    -- a pixel that it reads the other reads too
    pub reading : (x y : ℕ) → T (is_read x y (reads e p t)) → T (is_read x y (reads_of_four e p t))
    -- at a pixel of the picture: what its sheet marks the other's marks too
    pub sheets : (x y : ℕ) → x < e.width → y < e.height
        → get_or (sheet e.width e.height (reads e p t)) (y * e.width + x) 0 ≡ 1
        → get_or (sheet e.width e.height (reads_of_four e p t)) (y * e.width + x) 0 ≡ 1
    -- and its copy is painted over, or has the byte that the other's has
    pub copies : (x y : ℕ) → x < e.width → y < e.height
        → (get_or (copy e.width e.height p (reads e p t)) (y * e.width + x) 0 ≡ 0)
        ⊎ (get_or (copy e.width e.height p (reads e p t)) (y * e.width + x) 0 ≡ get_or (copy e.width e.height p (reads_of_four e p t)) (y * e.width + x) 0)

-- ---- the proof

module _ (e : Scene) (size : Sized e.width e.height) (p : Photo) (bytes : Bytes p) where
  same_sample : (q : SourcePixel) → interpolate p (scene_footprint e q) ≡ interpolate p (four_footprint e q)
  same_sample q = scene_same e (omega arith) (omega arith) p bytes q

  same_end : {A : Type 0} (t : SampleTree A) → value e p t ≡ value_of_four e p t
  unfolding value value_of_four
  same_end (done a) = refl
  same_end (sample q k) = same_end (k (interpolate p (scene_footprint e q))) ∙ ap (λ (s : Option Float). value_of_four e p (k s)) (same_sample q)

  part : {A : Type 0} (P : Pixel → Type 0) (t : SampleTree A) → Each P (reads_of_four e p t) → Each P (reads e p t)
  unfolding reads reads_of_four
  part P (done a) r = tt
  part P (sample q k) r =
      let both = each_both P (pixels_read (four_footprint e q)) (reads_of_four e p (k (interpolate p (four_footprint e q)))) r in
      each_append P (pixels_read (scene_footprint e q)) (reads e p (k (interpolate p (scene_footprint e q))))
      (scene_part e (omega arith) (omega arith) q P both.0)
      (part P (k (interpolate p (scene_footprint e q))) (subst (λ (s : Option Float). Each P (reads_of_four e p (k s))) (sym (same_sample q)) both.1))

  module _ {A : Type 0} (t : SampleTree A) where
    in_part : (x y : ℕ) → T (is_read x y (reads e p t)) → T (is_read x y (reads_of_four e p t))
    in_part x y r =
        each_read (λ c. T (is_read c.column c.row (reads_of_four e p t))) x y (reads e p t)
        (part (λ c. T (is_read c.column c.row (reads_of_four e p t))) t (listed (λ c. T (is_read c.column c.row (reads_of_four e p t))) (reads_of_four e p t) (λ x y h. h)))
        (is_true (is_read x y (reads e p t)) r)

    pub keeps-no_more : KeepsNoMore e t p
    keeps-no_more = record {
      ends = same_end t;
      reading = in_part;
      sheets = λ x y hx hy one. sheet-at e.width e.height (reads_of_four e p t) x y hx hy
          ∙ marked (is_read x y (reads e p t)) (is_read x y (reads_of_four e p t)) (in_part x y) (sym (sheet-at e.width e.height (reads e p t) x y hx hy) ∙ one);
      copies = λ x y hx hy.
          rw (copy_at e.width e.height p (reads e p t) x y hx hy, copy_at e.width e.height p (reads_of_four e p t) x y hx hy)
          (kept (is_read x y (reads e p t)) (is_read x y (reads_of_four e p t)) (in_part x y) (p x y));
    }
      where
        marked : (a b : Bool) → (T a → T b) → bit a ≡ 1 → bit b ≡ 1
        marked true true f h = refl
        marked true false f h = absurd (f tt)
        marked false b f h = absurd (omega arith)

        kept : (a b : Bool) → (T a → T b) → (v : ℕ) → ((when a then v else 0) ≡ 0) ⊎ ((when a then v else 0) ≡ (when b then v else 0))
        kept true true f v = inr refl
        kept true false f v = absurd (f tt)
        kept false b f v = inl refl
