-- The definitions of `ieee`, opened together: a proof that computes with them unfolds this one name. Assumes nothing.
use lib.Ieee.{add, sub, mul, div, neg, lt, le, eq, of_bits, of_int, to_unsigned}
use Rattle.std.specs.Float.{float_with_sign, float_is_finite}

unfoldable pub opened : Unit {0}
unfolding add sub mul div neg lt le eq of_bits of_int to_unsigned
    float_with_sign float_is_finite
opened = tt
