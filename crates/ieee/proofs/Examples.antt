-- The definitions at some values, by computation. Assumes nothing.
use mathlib.Core.Path.{◌≡◌, refl}
use mathlib.Core.Bool.{true, false}
use lib.IntN.{pos}
use lib.Ieee.{nan, inf, fin, is_nan, lt}
use Rattle.ieee.specs.Parts.{maximum}

-- a NaN is passed over, on either side, and of two zeros the first is taken
max_nan : maximum nan (inf true) ≡ inf true
unfolding is_nan lt
max_nan = refl

max-of_nan : maximum (inf true) nan ≡ inf true
unfolding is_nan lt
max-of_nan = refl

max_zeros : maximum (fin true 0 (pos 0)) (fin false 0 (pos 0)) ≡ fin true 0 (pos 0)
unfolding is_nan lt
max_zeros = refl
