-- Writing to an output piece by piece: one piece behind another is one piece, also where the buffer ends within them. Assumes nothing.
use Prim.Native.Nat.{ℕ, zero, suc, ◌+◌, ◌-◌, ◌*◌, ◌/◌, ◌≤◌, ◌<◌, min}
use mathlib.Core.Path.{◌≡◌, refl, sym, ap, ◌∙◌}
use mathlib.Core.List.{List, [], ◌∷◌, ◌++◌, append_assoc}
use native.Mathlib.Omega.{arith}
use native.Mathlib.Nat.{add-suc, suc-add, add-zero, mul-suc, mul-zero, div-div-eq-div-mul}
use borrow.Author.Tests.{leb-true, leb-false}
use borrow.Rule.Slice.PartMut.{put_mid}
use lib.Dec.{leb}
use lib.ListN.{length, take, drop, get_or, set, length-append}
use lib.Seq.{sets, length-sets, set_out}
use lib.Ieee.{Float, binary64, to_bits}
use Rattle.std.proofs.lemmas.List.{take-append-drop, take_all, take_more, length-take}
use Rattle.std.proofs.lemmas.List.Edits.{sets-eq}
use Rattle.std.proofs.lemmas.Slice.{put_mid-paste}
use Rattle.std.specs.Int.{bytes_low_first}
use Rattle.prelude.proofs.Branches.{by_test}
use Rattle.fields.specs.Fields.{bytes_of, float_bytes}
use Rattle.fields.specs.Output.{Writes}
use Rattle.fields.specs.declared.output.Output.{Output}

-- ---- a buffer

pub sets_append : (l : List ℕ) (i : ℕ) (first more : List ℕ) → sets l i (first ++ more) ≡ sets (sets l i first) (i + length first) more
sets_append l i [] more = ap (λ (k : ℕ). sets l k more) (sym (add-zero i))
sets_append l i (a ∷ first) more = sets_append (set l i a) (suc i) first more ∙ ap (λ (k : ℕ). sets (sets (set l i a) (suc i) first) k more) (suc-add i (length first) ∙ sym (add-suc i (length first)))

-- nothing is stored past the end
sets_out : (l : List ℕ) (i : ℕ) (s : List ℕ) → length l ≤ i → sets l i s ≡ l
sets_out l i [] h = refl
sets_out l i (a ∷ s) h = rw (set_out l i a h) (sets_out l (suc i) s (omega arith))

-- so what is past it may be left out
cut : (l : List ℕ) (at : ℕ) (s : List ℕ) (n : ℕ) → n ≡ min (length s) (length l - at) → sets l at s ≡ sets l at (take n s)
cut l at s n most =
    by_test (leb (length s) (length l - at))
    (λ fits. rw (take_all n s (omega (arith, leb-true (length s) (length l - at) fits))))
    (λ longer.
    let less = leb-false (length s) (length l - at) longer in
    let end : length (sets l at (take n s)) ≤ at + length (take n s) = rw (length-sets l at (take n s), length-take n s) (omega arith) in
    ap (λ (t : List ℕ). sets l at t) (sym (take-append-drop n s))
    ∙ sets_append l at (take n s) (drop n s)
    ∙ sets_out (sets l at (take n s)) (at + length (take n s)) (drop n s) end)

pub wrote_none : (l : List ℕ) (at : ℕ) (s : List ℕ) → 0 ≡ min (length s) (length l - at) → l ≡ sets l at s
wrote_none l at s none = sym (cut l at s 0 none)

pub wrote_part : (l : List ℕ) (at : ℕ) (s : List ℕ) (n k : ℕ) (part : List ℕ) → n ≡ min (length s) (length l - at) → 0 < n → k ≡ n → part ≡ take n s
    → put_mid at k l part ≡ sets l at s
wrote_part l at s n k part most some long is =
    let len : length (take n s) ≡ n = rw length-take (omega arith) in
    let piece : sets l at s ≡ take at l ++ take n s ++ drop (at + n) l = cut l at s n most ∙ sets-eq (take n s) l at (omega arith) ∙ rw len in
    put_mid-paste at k l part (take n s) n is (sym long) (sym len) ∙ rw (take_all n (take n s) (omega arith), piece)

-- ---- an output

pub none : {a : Output} → Writes a a []
none = record { same = refl; wrote = refl; on = omega arith }

pub then : {a b c : Output} {s t : List ℕ} → Writes a b s → Writes b c t → Writes a c (s ++ t)
then {a} {b} {c} {s} {t} p q =
    let l = a.buffer.now in
    let long : length b.buffer.now ≡ length l = rw p.wrote (length-sets l a.at s) in
    let whole : sets b.buffer.now (a.at + length s) t ≡ sets l a.at (s ++ t) = rw p.wrote (sym (sets_append l a.at s t)) in
    record {
      same = q.same ∙ p.same;
      wrote = by_test (leb (length s) (length l - a.at))
          (λ fits.
          let here : b.at ≡ a.at + length s = omega (arith, leb-true (length s) (length l - a.at) fits, p.on) in
          q.wrote ∙ rw here whole)
          (λ longer.
          let less = leb-false (length s) (length l - a.at) longer in
          let end : length b.buffer.now ≤ b.at = omega (arith, p.on) in
          q.wrote ∙ sets_out b.buffer.now b.at t end ∙ sym (sets_out b.buffer.now (a.at + length s) t (omega arith)) ∙ whole);
      on = rw length-append (omega (arith, p.on, q.on));
    }

-- the same bytes by another name
pub as_bytes : {a b : Output} {s t : List ℕ} → s ≡ t → Writes a b s → Writes a b t
as_bytes {a} {b} e p = rw (← e) p

-- ---- a number, from its lowest byte up

pub length-bytes : (n v : ℕ) → length (bytes_of n v) ≡ n
unfolding bytes_of
length-bytes zero v = refl
length-bytes (suc n) v = ap suc (length-bytes n (v / 256))

pub length_float : (x : Float) → length (float_bytes x) ≡ 8
length_float x = length-bytes 8 (to_bits binary64 x)

-- the library's bytes
pub low_first : (v : ℕ) → bytes_low_first 0 8 v ≡ bytes_of 8 v
unfolding bytes_of
low_first v = simp div-div-eq-div-mul

-- ---- a row of things, each in w bytes

pub record Row {A : Type 0} (f : List A → List ℕ) (w : ℕ) : Type 0 where
  pub none : f [] ≡ []
  pub one : (x : A) (xs : List A) → f (x ∷ xs) ≡ f (x ∷ []) ++ f xs
  pub wide : (x : A) → length (f (x ∷ [])) ≡ w

module _ {A : Type 0} {f : List A → List ℕ} {w : ℕ} (r : Row f w) where
  pub length-row : (xs : List A) → length (f xs) ≡ w * length xs
  length-row [] = ap length r.none ∙ sym (mul-zero w)
  length-row (x ∷ xs) =
      ap length (r.one x xs)
      ∙ length-append (f (x ∷ [])) (f xs)
      ∙ rw (r.wide x, length-row xs) (omega (arith, mul-suc w (length xs)))

  row_append : (xs : List A) (x : A) → f (xs ++ x ∷ []) ≡ f xs ++ f (x ∷ [])
  row_append [] x = rw r.none
  row_append (y ∷ xs) x = rw (r.one y (xs ++ x ∷ []), row_append xs x, r.one y xs) (sym (append_assoc (f (y ∷ [])) (f xs) (f (x ∷ []))))

  -- the first i of them are written, and then one more
  pub row_more : {a b c : Output} (xs : List A) (i : ℕ) (d : A) → i < length xs → Writes a b (f (take i xs)) → Writes b c (f (get_or xs i d ∷ [])) → Writes a c (f (take (i + 1) xs))
  row_more xs i d some p q = rw (take_more xs i d some, row_append (take i xs) (get_or xs i d)) (then p q)
