-- The checks of a photograph, of its size and of its bytes: what the first says as inequalities, that both pass where the photograph is not refused, and that rows which stand one behind the other,
-- with no bytes between, pass the second. Assumes nothing.
use mathlib.Core.Path.{◌≡◌, ap, ◌∙◌, subst}
use Prim.Native.Nat.{ℕ, suc, ◌+◌, ◌-◌, ◌*◌, ◌≤◌, ◌<◌}
use native.Mathlib.Nat.{mul_comm, suc-mul, le_refl}
use native.Mathlib.Omega.{arith}
use mathlib.Core.Bool.{true, ◌&&◌}
use lib.Dec.{leb}
use borrow.Author.Tests.{leb-true, le-leb}
use Rattle.std.specs.Prelude.{Ok}
use Rattle.prelude.proofs.Checks.{ok_exactly}
use Rattle.prelude.proofs.Tests.{both}
use Rattle.photograph.specs.Photographs.{sized, good_size, good_photograph, photograph_checks, photograph_check}

-- what the check of a size says
pub record Sized (w h : ℕ) : Type 0 where
  pub wide : 0 < w
  pub high : 0 < h
  pub narrow : w ≤ 16384
  pub low : h ≤ 16384

size_limits : (n : ℕ) → sized n ≡ true → (1 ≤ n) × (n ≤ 16384)
size_limits n h = let t = both (leb 1 n) (leb n 16384) h in (leb-true 1 n t.0, leb-true n 16384 t.1)

pub size_checked : (w h : ℕ) → good_size w h ≡ true → Sized w h
size_checked w h e =
    let t = both (sized w) (sized h) e in
    let x = size_limits w t.0 in
    let y = size_limits h t.1 in
    record { wide = x.0; high = y.0; narrow = x.1; low = y.1 }

-- where the photograph is not refused both checks pass
pub good_photograph_lem : (w h stride bytes : ℕ) → photograph_check w h stride bytes ≡ Ok tt → (good_size w h ≡ true) × (good_photograph w h stride bytes ≡ true)
good_photograph_lem w h stride bytes e =
    let all = both (good_size w h) (good_photograph w h stride bytes && true) ((ok_exactly (photograph_checks w h stride bytes)).0 e) in
    (all.0, (both (good_photograph w h stride bytes) true all.1).0)

-- width × height bytes or more, in rows of width bytes, pass the check of its bytes
pub good_rows : (w h n : ℕ) → Sized w h → w * h ≤ n → good_photograph w h w n ≡ true
good_rows w h n size enough =
    let last : h ≡ suc (h - 1) = omega (arith, size.high) in
    let rows : w * h ≡ (h - 1) * w + w = mul_comm w h ∙ ap (λ (k : ℕ). k * w) last ∙ suc-mul (h - 1) w in
    rw (le-leb w w (le_refl w), le-leb w 65535 (omega arith), le-leb ((h - 1) * w + w) n (subst (λ (k : ℕ). k ≤ n) rows enough))
