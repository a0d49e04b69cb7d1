-- What the sheet and the copy of a run hold, and how the code comes to them: pixels written one after another onto cleared bytes come to the copy, and to the sheet where
-- each is written as 1; bytes past width × height stay as they were. Why: a pixel of the picture has a place of its own below width × height, so what is written there
-- says nothing of any other pixel. Assumes nothing.
use mathlib.Core.Path.{◌≡◌, refl, sym, ap, ◌∙◌, subst}
use Prim.Native.Nat.{ℕ, ◌+◌, ◌*◌, ◌/◌, ◌%◌, ◌≤◌, ◌<◌}
use native.Mathlib.Nat.{mod-lt, div-lt_iff_lt-mul, mul_comm, le_trans, div-add-mod', le_refl}
use mathlib.Core.Bool.{Bool, true, false, ◌&&◌, ◌||◌, true≢false}
use mathlib.Core.List.{List, [], ◌∷◌, ◌++◌}
use lib.Dec.{T, eqb, eqb_refl}
use lib.Ieee.Bits.{is_true}
use lib.ListN.{get_or, length, set, length-set, replicate, length-replicate, get_or-replicate}
use lib.Seq.{set-append_left, get_or-set_same, get_or-set_other, ext_get_or}
use borrow.Author.Tests.{eqb-true, eqb-false}
use Rattle.prelude.proofs.Tests.{or_left, or_right, and_both}
use Rattle.prelude.proofs.Tables.{length-table, get_or-table, table_ext}
use Rattle.prelude.proofs.Lists.{Each}
use Rattle.prelude.specs.Prelude.{when◌then◌else◌, bit}
use Rattle.photograph.specs.Photographs.{Photo, Pixel, pixel}
use Rattle.pixel.proofs.Places.{place-lt}
use Rattle.photograph.proofs.Pixels.{Inside, place-column, place-row}
use Rattle.sample_tree.specs.Sheets.{is_read, sheet, copy}

-- ---- whether a pixel is in a list

-- what holds of every pixel that is in a list holds of each of the list
pub listed : (P : Pixel → Type 0) (cs : List Pixel) → ((x y : ℕ) → T (is_read x y cs) → P (pixel x y)) → Each P cs
listed P [] f = tt
listed P (c ∷ cs) f = (
  f c.column c.row
      (or_left (eqb c.column c.column && eqb c.row c.row) (is_read c.column c.row cs)
      (and_both (eqb c.column c.column) (eqb c.row c.row) (eqb_refl c.column) (eqb_refl c.row))),
  listed P cs (λ x y r. f x y (or_right (eqb x c.column && eqb y c.row) (is_read x y cs) r)),
)

-- what holds of each pixel of a list holds of one that is in it
pub each_read : (P : Pixel → Type 0) (x y : ℕ) (cs : List Pixel) → Each P cs → is_read x y cs ≡ true → P (pixel x y)
each_read P x y [] b r = absurd (true≢false (sym r))
each_read P x y (c ∷ cs) b r = go (eqb x c.column) refl (eqb y c.row) refl r (each_read P x y cs b.1)
  where
    go : (s : Bool) → eqb x c.column ≡ s → (t : Bool) → eqb y c.row ≡ t → ((s && t) || is_read x y cs) ≡ true
        → (is_read x y cs ≡ true → P (pixel x y)) → P (pixel x y)
    go true es true et k rest = rw (eqb-true x c.column es, eqb-true y c.row et) b.0
    go true es false et k rest = rest k
    go false es t et k rest = rest k

-- the first of them, where the list is of pixels of the picture
pub read_each : (P : Pixel → Type 0) (w h : ℕ) (cs : List Pixel) → Each (Inside w h) cs
    → ((x y : ℕ) → x < w → y < h → T (is_read x y cs) → P (pixel x y)) → Each P cs
read_each P w h cs b f =
    listed P cs (λ x y r. let i = each_read (Inside w h) x y cs b (is_true (is_read x y cs) r) in f x y i.across i.down r)

-- ---- what they hold at a place

pub sheet-at : (w h : ℕ) (rs : List Pixel) (x y : ℕ) → x < w → y < h → get_or (sheet w h rs) (y * w + x) 0 ≡ bit (is_read x y rs)
unfolding sheet
sheet-at w h rs x y hx hy =
    get_or-table (w * h) (λ i. bit (is_read (i % w) (i / w) rs)) (y * w + x) 0 (place-lt w h x y hx hy)
    ∙ rw (place-column w x y hx, place-row w x y hx)

pub copy_at : (w h : ℕ) (p : Photo) (rs : List Pixel) (x y : ℕ) → x < w → y < h → get_or (copy w h p rs) (y * w + x) 0 ≡ (when is_read x y rs then p x y else 0)
unfolding copy
copy_at w h p rs x y hx hy =
    get_or-table (w * h) (λ i. when is_read (i % w) (i / w) rs then p (i % w) (i / w) else 0) (y * w + x) 0 (place-lt w h x y hx hy)
    ∙ rw (place-column w x y hx, place-row w x y hx)

pub length-sheet : (w h : ℕ) (rs : List Pixel) → length (sheet w h rs) ≡ w * h
unfolding sheet
length-sheet w h rs = length-table (w * h) (λ i. bit (is_read (i % w) (i / w) rs))

pub length-copy : (w h : ℕ) (p : Photo) (rs : List Pixel) → length (copy w h p rs) ≡ w * h
unfolding copy
length-copy w h p rs = length-table (w * h) (λ i. when is_read (i % w) (i / w) rs then p (i % w) (i / w) else 0)

row_lt : (w h i : ℕ) → 0 < w → i < w * h → i / w < h
row_lt w h i pos b = (div-lt_iff_lt-mul pos).1 (subst (λ (k : ℕ). i < k) (mul_comm w h) b)

-- two copies made after one list are equal where the photographs agree on it
pub copy_ext : (w h : ℕ) (p q : Photo) (rs : List Pixel) → 0 < w
    → ((x y : ℕ) → x < w → y < h → T (is_read x y rs) → q x y ≡ p x y) → copy w h q rs ≡ copy w h p rs
unfolding copy
copy_ext w h p q rs pos f =
    table_ext (w * h) (λ i. when is_read (i % w) (i / w) rs then q (i % w) (i / w) else 0) (λ i. when is_read (i % w) (i / w) rs then p (i % w) (i / w) else 0)
    (λ i b. pick (is_read (i % w) (i / w) rs) (q (i % w) (i / w)) (p (i % w) (i / w)) (λ r. f (i % w) (i / w) (mod-lt i pos) (row_lt w h i pos b) r))
  where
    pick : (t : Bool) (a c : ℕ) → (T t → a ≡ c) → (when t then a else 0) ≡ (when t then c else 0)
    pick true a c g = g tt
    pick false a c g = refl

-- the sheet is the copy of a photograph that is 1 everywhere
abbrev pub white : Photo
white x y = 1

pub sheet_white : (w h : ℕ) (rs : List Pixel) → copy w h white rs ≡ sheet w h rs
unfolding sheet copy
sheet_white w h rs = table_ext (w * h) _ _ (λ i b. as-bit (is_read (i % w) (i / w) rs))
  where
    as-bit : (b : Bool) → (when b then 1 else 0) ≡ bit b
    as-bit true = refl
    as-bit false = refl

-- ---- as a run writes them: what a photograph shows, at each pixel's place, one after another

unfoldable pub pasted : Photo → ℕ → List Pixel → List ℕ → List ℕ
pasted p w [] s = s
pasted p w (c ∷ cs) s = pasted p w cs (set s (c.row * w + c.column) (p c.column c.row))

module _ (p : Photo) (w : ℕ) where
  pub pasted_++ : (a b : List Pixel) (s : List ℕ) → pasted p w (a ++ b) s ≡ pasted p w b (pasted p w a s)
  unfolding pasted
  pasted_++ [] b s = refl
  pasted_++ (c ∷ a) b s = pasted_++ a b (set s (c.row * w + c.column) (p c.column c.row))

  pub length_pasted : (a : List Pixel) (s : List ℕ) → length (pasted p w a s) ≡ length s
  unfolding pasted
  length_pasted [] s = refl
  length_pasted (c ∷ a) s = length_pasted a (set s (c.row * w + c.column) (p c.column c.row)) ∙ length-set s (c.row * w + c.column) (p c.column c.row)

  pasted_at : (a : List Pixel) (s : List ℕ) (h x y : ℕ) → Each (Inside w h) a → x < w → y < h → w * h ≤ length s
      → get_or (pasted p w a s) (y * w + x) 0 ≡ (when is_read x y a then p x y else get_or s (y * w + x) 0)
  unfolding pasted
  pasted_at [] s h x y ha hx hy hl = refl
  pasted_at (c ∷ a) s h x y ha hx hy hl =
      pasted_at a (set s i v) h x y ha.1 hx hy (subst (λ (n : ℕ). w * h ≤ n) (sym (length-set s i v)) hl)
      ∙ settle (is_read x y a) (eqb x c.column) refl (eqb y c.row) refl
    where
      i : ℕ
      i = c.row * w + c.column

      v : ℕ
      v = p c.column c.row

      settle : (b : Bool) (t : Bool) → eqb x c.column ≡ t → (u : Bool) → eqb y c.row ≡ u
          → (when b then p x y else get_or (set s i v) (y * w + x) 0) ≡ (when (t && u) || b then p x y else get_or s (y * w + x) 0)
      settle true true et true eu = refl
      settle true true et false eu = refl
      settle true false et u eu = refl
      settle false true et true eu =
          rw (eqb-true x c.column et, eqb-true y c.row eu)
          (get_or-set_same s i v 0 (le_trans (place-lt w h c.column c.row ha.0.across ha.0.down) hl))
      settle false true et false eu =
          get_or-set_other s i (y * w + x) v 0
          (λ q. eqb-false y c.row eu (sym (place-row w x y hx) ∙ ap (λ (j : ℕ). j / w) q ∙ place-row w c.column c.row ha.0.across))
      settle false false et u eu =
          get_or-set_other s i (y * w + x) v 0
          (λ q. eqb-false x c.column et (sym (place-column w x y hx) ∙ ap (λ (j : ℕ). j % w) q ∙ place-column w c.column c.row ha.0.across))

  -- onto zeros
  pasted_zeros : (h : ℕ) (a : List Pixel) → 0 < w → Each (Inside w h) a → pasted p w a (replicate (w * h) 0) ≡ copy w h p a
  unfolding copy
  pasted_zeros h a pos ha =
      ext_get_or 0 (pasted p w a (replicate (w * h) 0)) (copy w h p a) (long ∙ sym (length-copy w h p a))
      (λ i b. let k : i < w * h = subst (λ (n : ℕ). i < n) long b in
      ap (λ (n : ℕ). get_or (pasted p w a (replicate (w * h) 0)) n 0) (sym (div-add-mod' i w))
      ∙ pasted_at a (replicate (w * h) 0) h (i % w) (i / w) ha (mod-lt i pos) (row_lt w h i pos k) (subst (λ (n : ℕ). w * h ≤ n) (sym (length-replicate (w * h) 0)) (le_refl (w * h)))
      ∙ ap (λ (z : ℕ). when is_read (i % w) (i / w) a then p (i % w) (i / w) else z)
      (ap (λ (n : ℕ). get_or (replicate (w * h) 0) n 0) (div-add-mod' i w) ∙ get_or-replicate (w * h) i 0 0 k)
      ∙ sym (get_or-table (w * h) (λ i. when is_read (i % w) (i / w) a then p (i % w) (i / w) else 0) i 0 k))
    where
      long : length (pasted p w a (replicate (w * h) 0)) ≡ w * h
      long = length_pasted a (replicate (w * h) 0) ∙ length-replicate (w * h) 0

  -- a tail that no pixel reaches stays
  pasted_append : (h : ℕ) (a : List Pixel) (s t : List ℕ) → Each (Inside w h) a → w * h ≤ length s → pasted p w a (s ++ t) ≡ pasted p w a s ++ t
  unfolding pasted
  pasted_append h [] s t ha hl = refl
  pasted_append h (c ∷ a) s t ha hl =
      let i = c.row * w + c.column in
      let v = p c.column c.row in
      ap (λ (l : List ℕ). pasted p w a l) (set-append_left s t i v (le_trans (place-lt w h c.column c.row ha.0.across ha.0.down) hl))
      ∙ pasted_append h a (set s i v) t ha.1 (subst (λ (n : ℕ). w * h ≤ n) (sym (length-set s i v)) hl)

  -- onto a cleared buffer
  pub pasted_cleared : (h : ℕ) (a : List Pixel) (t : List ℕ) → 0 < w → Each (Inside w h) a → pasted p w a (replicate (w * h) 0 ++ t) ≡ copy w h p a ++ t
  pasted_cleared h a t pos ha =
      pasted_append h a (replicate (w * h) 0) t ha (subst (λ (n : ℕ). w * h ≤ n) (sym (length-replicate (w * h) 0)) (le_refl (w * h)))
      ∙ ap (λ (l : List ℕ). l ++ t) (pasted_zeros h a pos ha)
