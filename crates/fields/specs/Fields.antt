-- What the fields of a card are made of: a field is a one-byte tag, a two-byte length and contents;
-- numbers stand with the lowest byte first, and floats as the 8 bytes of their binary64 bits.
-- Definitions only, to be believed. They are total: a byte past the end of a list reads as 0.
use Rattle.std.specs.Prelude.{ℕ, zero, suc, ◌+◌, ◌*◌, ◌/◌, ◌%◌, List, [], ◌∷◌, ◌++◌, get_or, length, Float}
use Rattle.std.specs.Float.{binary64}
use Rattle.std.specs.Float.Ieee.{of_bits, to_bits}

-- ---- reading

-- a byte; past the end 0
abbrev pub byte_at : List ℕ → ℕ → ℕ
byte_at s i = get_or s i 0

-- the n bytes from i on, the lowest first
unfoldable pub number_at : ℕ → List ℕ → ℕ → ℕ
number_at zero s i = 0
number_at (suc n) s i = byte_at s i + 256 * number_at n s (suc i)

-- the float whose bits stand from i on
abbrev pub float_at : List ℕ → ℕ → Float
float_at s i = of_bits binary64 (number_at 8 s i)

-- ---- writing

-- a number in n bytes, the lowest first
unfoldable pub bytes_of : ℕ → ℕ → List ℕ
bytes_of zero v = []
bytes_of (suc n) v = v % 256 ∷ bytes_of n (v / 256)

-- a float, by its bits
abbrev pub float_bytes : Float → List ℕ
float_bytes x = bytes_of 8 (to_bits binary64 x)

-- a field of that tag
abbrev pub field : ℕ → List ℕ → List ℕ
field tag contents = tag ∷ bytes_of 2 (length contents) ++ contents
