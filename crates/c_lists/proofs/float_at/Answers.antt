-- `float_at` meets its contract: past its end a list gives the default, and Rust's NaN is no number. Assumes nothing.
use mathlib.Core.Path.{◌≡◌, refl}
use lib.Ieee.{nan, binary64, of_bits}
use Rattle.std.proofs.Common.{rules}
use Rattle.c_lists.proofs.float_at.Goals as goal

no_number : of_bits binary64 9221120237041090560 ≡ nan
unfolding of_bits
no_number = refl

pub returns : goal.returns
returns c =
    let u = rw no_number at c.unwrap_or.ensures in
    search rules
