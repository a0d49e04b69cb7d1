-- Where a pixel of a picture, or a module of a grid, lies among rows one behind another: at row × width + column. Assumes nothing.
use Prim.Native.Nat.{ℕ, suc, ◌+◌, ◌*◌, ◌≤◌, ◌<◌}
use native.Mathlib.Nat.{mul-le-mul, mul-le-mul_right, mul_comm, suc-mul}
use native.Mathlib.Omega.{arith}

-- a row of 32 bits times a stride of 32 bits fits 64 bits, with a column of 32 bits added
pub row-most : (y stride : ℕ) → y ≤ 4294967295 → stride ≤ 4294967295 → y * stride ≤ 18446744065119617025
row-most y stride p q = mul-le-mul p q

-- what lies in the picture lies below width × height
pub place-lt : (w h x y : ℕ) → x < w → y < h → y * w + x < w * h
place-lt w h x y hx hy =
    let m : suc y * w ≤ h * w = mul-le-mul_right w hy in
    omega (arith, m, suc-mul y w, mul_comm w h)
