-- A number that is read from a list made of parts is read from the part that it stands in; and the bytes of a number that is read are those that stand there.
-- Assumes nothing.
use Prim.Native.Nat.{ℕ, zero, suc, ◌+◌, ◌*◌, ◌/◌, ◌%◌, ◌^◌, ◌≤◌, ◌<◌}
use mathlib.Core.Path.{◌≡◌, refl, sym, ap, ◌∙◌}
use mathlib.Core.List.{List, ◌∷◌, ◌++◌}
use native.Mathlib.Omega.{arith}
use native.Mathlib.Nat.{add-suc, pow-suc}
use lib.ListN.{length, take, drop, get_or}
use Rattle.std.proofs.Math.Seq.{take-add}
use Rattle.std.proofs.lemmas.List.{get_or-append-add, get_or_append_left, drop_more, drop-drop}
use Rattle.fields.specs.Fields.{byte_at, number_at, bytes_of}

-- ---- in the part behind, and in the part before

pub number_behind : (n : ℕ) (front s : List ℕ) (i : ℕ) → number_at n (front ++ s) (length front + i) ≡ number_at n s i
unfolding number_at
number_behind zero front s i = refl
number_behind (suc n) front s i =
    let rest : number_at n (front ++ s) (suc (length front + i)) ≡ number_at n s (suc i) =
    ap (number_at n (front ++ s)) (sym (add-suc (length front) i)) ∙ number_behind n front s (suc i) in
    rw (get_or-append-add front s i 0, rest)

pub number_before : (n : ℕ) (s back : List ℕ) (i : ℕ) → i + n ≤ length s → number_at n (s ++ back) i ≡ number_at n s i
unfolding number_at
number_before zero s back i within = refl
number_before (suc n) s back i within =
    rw (get_or_append_left s back 0 i (omega arith), number_before n s back (suc i) (omega arith))

-- ---- of a list whose elements are bytes

abbrev pub Bytes : List ℕ → Type 0
Bytes s = (i : ℕ) → byte_at s i < 256

pub number_most : (n : ℕ) (s : List ℕ) (i : ℕ) → Bytes s → number_at n s i < 256 ^ n
unfolding number_at
number_most zero s i small = omega arith
number_most (suc n) s i small = omega (arith, pow-suc 256 n, small i, number_most n s (suc i) small)

pub bytes_there : (n : ℕ) (s : List ℕ) (i : ℕ) → Bytes s → i + n ≤ length s → bytes_of n (number_at n s i) ≡ take n (drop i s)
unfolding number_at bytes_of
bytes_there zero s i small within = refl
bytes_there (suc n) s i small within =
    let b = byte_at s i in
    let more = number_at n s (suc i) in
    let byte : b < 256 = small i in
    let low : (b + 256 * more) % 256 ≡ b = omega arith in
    let high : (b + 256 * more) / 256 ≡ more = omega arith in
    let next : i + 1 ≡ suc i = omega arith in
    rw (low, high, drop_more s i 0 (omega arith), next) (ap (λ (l : List ℕ). b ∷ l) (bytes_there n s (suc i) small (omega arith)))

-- one piece and the piece behind it
pub piece_more : (n m i : ℕ) (s : List ℕ) → take n (drop i s) ++ take m (drop (i + n) s) ≡ take (n + m) (drop i s)
piece_more n m i s = ap (λ (l : List ℕ). take n (drop i s) ++ take m l) (sym (drop-drop n i s)) ∙ sym (take-add n m (drop i s))
