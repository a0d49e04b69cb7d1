-- What is written is read back: a number below 256 to the n from its n bytes, and a binary64 value from its 8. Assumes nothing.
use Prim.Native.Nat.{ℕ, zero, suc, ◌+◌, ◌*◌, ◌/◌, ◌%◌, ◌^◌, ◌<◌}
use mathlib.Core.Path.{◌≡◌, refl, ap, ◌∙◌}
use mathlib.Core.List.{List, [], ◌∷◌, ◌++◌}
use native.Mathlib.Omega.{arith}
use native.Mathlib.Nat.{div-add-mod', div-lt_iff_lt-mul, pow-suc}
use lib.Dec.{T}
use lib.Ieee.{Float, binary64, fits, of_bits, to_bits}
use lib.Ieee.Bits.{of_bits-to_bits, to_bits-lt}
use Rattle.fields.specs.Fields.{byte_at, number_at, bytes_of, float_bytes}

-- ---- a number, from its bytes

-- the byte in front is passed over
behind : (n b : ℕ) (s : List ℕ) (i : ℕ) → number_at n (b ∷ s) (suc i) ≡ number_at n s i
unfolding number_at
behind zero b s i = refl
behind (suc n) b s i = ap (λ (k : ℕ). byte_at s i + 256 * k) (behind n b s (suc i))

pub number-back : (n v : ℕ) (s : List ℕ) → v < 256 ^ n → number_at n (bytes_of n v ++ s) 0 ≡ v
unfolding number_at bytes_of
number-back zero v s small = omega arith
number-back (suc n) v s small =
    let rest : v / 256 < 256 ^ n = (div-lt_iff_lt-mul {k = 256} {x = v} {y = 256 ^ n} (omega arith)).1 (omega (arith, pow-suc 256 n)) in
    let back = behind n (v % 256) (bytes_of n (v / 256) ++ s) 0 ∙ number-back n (v / 256) s rest in
    rw back (omega (arith, div-add-mod' v 256))

-- ---- a float, from its bytes

pub float_back : (x : Float) → T (fits binary64 x) → of_bits binary64 (number_at 8 (float_bytes x ++ []) 0) ≡ x
float_back x h =
    ap (of_bits binary64) (number-back 8 (to_bits binary64 x) [] (to_bits-lt binary64 x h)) ∙ of_bits-to_bits binary64 x h
