-- Numbers as the fields of a printed line, in ASCII. Definitions only, to be believed.
use Rattle.std.specs.Prelude.{ℕ, zero, suc, ◌/◌, ◌%◌, List, [], ◌∷◌, ◌++◌, ltb}
use Rattle.prelude.specs.Prelude.{when◌then◌else◌}
use Rattle.io.specs.Digits.{hex_digit_ascii, last_digits}

-- the decimal digits of a number that has at most k
unfoldable pub decimal_to : ℕ → ℕ → List ℕ
decimal_to zero n = []
decimal_to (suc k) n = when ltb n 10 then hex_digit_ascii n ∷ [] else decimal_to k (n / 10) ++ hex_digit_ascii (n % 10) ∷ []

-- a field stands behind a space, 32; 20 digits hold 64 bits
abbrev pub decimal : ℕ → List ℕ
decimal n = 32 ∷ decimal_to 20 n

abbrev pub hexadecimal : ℕ → List ℕ
hexadecimal n = 32 ∷ last_digits 16 16 n
