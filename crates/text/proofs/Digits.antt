-- The digits that `io` writes are those of the definition: the fewest that hold a number are the digits that dividing it by 10 gives until it is
-- below 10, and 16 hexadecimal digits hold 64 bits. Assumes nothing.
use Prim.Native.Nat.{ℕ, zero, suc, ◌-◌, ◌*◌, ◌/◌, ◌%◌, ◌^◌, ◌≤◌, ◌<◌}
use mathlib.Core.Path.{◌≡◌, refl, ap, subst, ◌∙◌}
use mathlib.Core.List.{List, [], ◌∷◌, ◌++◌}
use native.Mathlib.Omega.{arith}
use native.Mathlib.Nat.{mod-eq_of_lt, div-lt_iff_lt-mul, le-div_iff_mul-le, pow-suc, pow-le-pow_right, one-le-pow}
use borrow.Author.Tests.{lt-ltb, le-ltb, leb-true, leb-false}
use lib.Dec.{leb, ltb}
use lib.ListN.{length, length-append}
use Rattle.io.specs.Digits.{hex_digit_ascii, last_digits, IsDigitCount}
use Rattle.prelude.proofs.Branches.{by_test, either}
use Rattle.text.specs.Text.{decimal_to, decimal, hexadecimal}

-- ---- decimal

decimal_digits : (fuel n k : ℕ) → k ≤ fuel → IsDigitCount 10 1 n k → last_digits 10 k n ≡ decimal_to fuel n
unfolding decimal_to
decimal_digits fuel n zero room f = absurd (omega (arith, f.0))
decimal_digits zero n (suc k) room f = absurd (omega arith)
decimal_digits (suc fuel) n (suc zero) room f =
    let small : n < 10 = f.1 in
    rw (mod-eq_of_lt small, lt-ltb n 10 small)
decimal_digits (suc fuel) n (suc (suc k)) room f =
    let power = pow-suc 10 k in
    let least : 10 ^ suc k ≤ n = subst (λ (m : ℕ). 10 ^ m ≤ n) (omega arith) (f.2 (omega arith)) in
    let same : suc k - 1 ≡ k = omega arith in
    let lower : 10 ^ (suc k - 1) * 10 ≤ n = rw same (omega arith) in
    let large : 10 ≤ n = omega (arith, power, one-le-pow k 10 (omega arith)) in
    let rest : IsDigitCount 10 1 (n / 10) (suc k) = (
      omega arith,
      (div-lt_iff_lt-mul {k = 10} {x = n} {y = 10 ^ suc k} (omega arith)).1 (omega (arith, pow-suc 10 (suc k), f.1)),
      (λ more. (le-div_iff_mul-le {k = 10} {x = 10 ^ (suc k - 1)} {y = n} (omega arith)).1 lower),
    ) in
    rw (le-ltb n 10 large) (ap (λ (s : List ℕ). s ++ hex_digit_ascii (n % 10) ∷ []) (decimal_digits fuel (n / 10) (suc k) (omega arith) rest))

-- ---- how many there are

-- no more than hold the number
at_most : (b least n k most : ℕ) → 0 < b → least ≤ most → n < b ^ most → IsDigitCount b least n k → k ≤ most
at_most b least n k most some less holds f = by_test (leb k most)
    (λ few. leb-true k most few)
    (λ many.
    let more : most < k = leb-false k most many in
    let power : b ^ most ≤ b ^ (k - 1) = pow-le-pow_right some (omega arith) in
    absurd (omega (arith, f.2 (omega arith))))

-- 20 decimal digits hold 64 bits
decimal-few : (n k : ℕ) → n < 2 ^ 64 → IsDigitCount 10 1 n k → k ≤ 20
decimal-few n k small f = at_most 10 1 n k 20 (omega arith) (omega arith) (omega arith) f

length-decimal_to : (k n : ℕ) → length (decimal_to k n) ≤ k
unfolding decimal_to
length-decimal_to zero n = omega arith
length-decimal_to (suc k) n =
    either (λ (s : List ℕ). length s ≤ suc k) (ltb n 10) {x = hex_digit_ascii n ∷ []} {y = decimal_to k (n / 10) ++ hex_digit_ascii (n % 10) ∷ []}
    (omega arith)
    (simp length-append (omega (arith, length-decimal_to k (n / 10))))

pub length-decimal : (n : ℕ) → length (decimal n) ≤ 21
length-decimal n = omega (arith, length-decimal_to 20 n)

length_digits : (b k n : ℕ) → length (last_digits b k n) ≡ k
length_digits b zero n = refl
length_digits b (suc k) n = simp length-append (omega (arith, length_digits b k (n / b)))

pub length-hexadecimal : (n : ℕ) → length (hexadecimal n) ≡ 17
length-hexadecimal n = ap suc (length_digits 16 16 n)

-- what `io` wrote behind a space is the field
pub decimal-field : (n k : ℕ) (s : List ℕ) → n < 2 ^ 64 → IsDigitCount 10 1 n k → s ≡ last_digits 10 k n → 32 ∷ s ≡ decimal n
decimal-field n k s small f e = ap (λ (t : List ℕ). 32 ∷ t) (e ∙ decimal_digits 20 n k (decimal-few n k small f) f)

-- and 16 hexadecimal ones
hexadecimal-width : (n k : ℕ) → n < 2 ^ 64 → IsDigitCount 16 16 n k → k ≡ 16
hexadecimal-width n k small f = omega (arith, f.0, at_most 16 16 n k 16 (omega arith) (omega arith) (omega arith) f)

pub hexadecimal-field : (n k : ℕ) (s : List ℕ) → n < 2 ^ 64 → IsDigitCount 16 16 n k → s ≡ last_digits 16 k n → 32 ∷ s ≡ hexadecimal n
hexadecimal-field n k s small f e = ap (λ (t : List ℕ). 32 ∷ t) (e ∙ ap (λ (m : ℕ). last_digits 16 m n) (hexadecimal-width n k small f))
