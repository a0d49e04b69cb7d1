-- A mean by the inverse of the count in the place of a division: of every sum of at most 31 heights
-- the product and the shift give the quotient. Assumes nothing.
use mathlib.Core.Path.{◌≡◌, sym, ap, subst, ◌∙◌}
use Prim.Native.Nat.{ℕ, ◌+◌, ◌*◌, ◌/◌, ◌<◌, ◌≤◌}
use native.Mathlib.Nat.{le_of_lt, mul-add, mul_assoc, mul_comm, mul_right_comm, mul-le-mul_left, mul-le-mul_right, mul-le-mul, lt_of_mul-lt-mul_right, div-le_of_le-mul, div-add-mod, div-mul-le_self, lt-mul-div-succ, div-eq_of_lt-le}
use native.Mathlib.Omega.{arith}

-- with m = 2 to the 32 over w, and one more, n * m is n over w in units of 2 to the 32, and less
-- than a unit over w more
by_inverse : (n w : ℕ) → 0 < w → n * w < 4294967296 → n * (4294967296 / w + 1) / 4294967296 ≡ n / w
by_inverse n w p h = div-eq_of_lt-le 4294967296 lower upper
  where
    m : ℕ
    m = 4294967296 / w + 1

    near : w * m ≤ 4294967296 + w
    near = omega (arith, mul-add w (4294967296 / w) 1, div-add-mod 4294967296 w)

    lower : n / w * 4294967296 ≤ n * m
    lower =
        omega (
          arith,
          mul-le-mul_left (n / w) (le_of_lt (lt-mul-div-succ 4294967296 p)),
          mul_assoc (n / w) w m,
          mul-le-mul_right m (div-mul-le_self n w),
        )

    upper : n * m < (n / w + 1) * 4294967296
    upper =
        lt_of_mul-lt-mul_right w
        (omega (
          arith,
          mul_assoc n m w,
          ap (λ (k : ℕ). n * k) (mul_comm m w),
          mul-le-mul_left n near,
          mul-add n 4294967296 w,
          mul-le-mul_right 4294967296 (lt-mul-div-succ n p),
          mul_comm w (n / w + 1),
          ap (λ (k : ℕ). k * 4294967296) (mul_comm w (n / w + 1)),
          mul_right_comm (n / w + 1) w 4294967296,
        ))

module _ (total count inverse : ℕ) (some : 0 < count) (few : count ≤ 31) (most : total ≤ 65535 * count) (is : inverse ≡ 4294967296 / count + 1) where
  pub mean_is : total * inverse / 4294967296 ≡ total / count
  mean_is =
      ap (λ (m : ℕ). total * m / 4294967296) is
      ∙ by_inverse total count some (omega (arith, mul-le-mul {n₁ = total} {m₁ = count} {n₂ = 2031585} {m₂ = 31} (omega arith) few))

  pub mean_fits : total * inverse / 4294967296 < 65536
  mean_fits = subst (λ (n : ℕ). n < 65536) (sym mean_is) (omega (arith, div-le_of_le-mul count {m = total} {n = 65535} (omega (arith, mul_comm 65535 count))))
