-- A camera whose lens is of no kind is refused by 6, whatever its list holds: its coefficients are not numbers. Assumes nothing.
use Prim.Native.Nat.{ℕ, ◌<◌}
use mathlib.Core.Path.{◌≡◌, refl}
use mathlib.Core.Bool.{Bool, true, false, ◌&&◌}
use mathlib.Core.List.{List}
use lib.Ieee.{Float, nan, binary64, of_bits}
use native.Mathlib.Omega.{arith}
use borrow.Author.Tests.{ne_eqb}
use Rattle.std.specs.Prelude.{Err}
use Rattle.std.specs.Float.{float_is_finite}
use Rattle.ieee.specs.Parts.{is_finite}
use Rattle.number.specs.declared.Refusal.TheVariants as refusal
use Rattle.pixel.specs.declared.SourcePixel.{SourcePixel}
use Rattle.camera.specs.Camera.{valid_intrinsics, valid_lens, valid_camera, camera_answer}
use Rattle.c_views.specs.Views.{intrinsics_at, lens_of, camera_of}

-- Rust's `f64::NAN` by its bit pattern
pub no_number : of_bits binary64 0x7ff8_0000_0000_0000 ≡ nan
unfolding of_bits
no_number = refl

last_fails : (a b c : Bool) → c ≡ false → (a && b && c) ≡ false
last_fails true true c e = e
last_fails true false c e = refl
last_fails false b c e = refl

unknown_invalid : (s : List Float) (lens : ℕ) → 2 < lens → valid_lens (lens_of s lens) ≡ false
unfolding float_is_finite
unknown_invalid s lens h = rw (ne_eqb lens 0 (λ e. omega arith), ne_eqb lens 1 (λ e. omega arith), ne_eqb lens 2 (λ e. omega arith))

-- so a refinement through it ends in 6 or in a number that is tested before
pub unknown_kind-refused : (s : List Float) (lens : ℕ) → 2 < lens → valid_camera (camera_of s lens) ≡ false
unknown_kind-refused s lens h =
    last_fails (valid_intrinsics (intrinsics_at s 0)) (valid_intrinsics (intrinsics_at s 4)) (valid_lens (lens_of s lens)) (unknown_invalid s lens h)

-- and so does a place behind it
pub unknown_kind-is_6 : (s : List Float) (lens : ℕ) (p : SourcePixel) → 2 < lens → camera_answer (camera_of s lens) p ≡ Err refusal.Lens
unknown_kind-is_6 s lens p h = rw (unknown_kind-refused s lens h)
