-- Rust's `f64` in the shape of its source: the operators in infix form, and the literals by their
-- bit patterns. Definitions only, to be believed. The code's own terms are these, so that a
-- contract that cites a definition is met by the same operations in the same order.
use Rattle.std.specs.Prelude.{ℕ, Bool, pos, Float}
use Rattle.std.specs.Float.{binary64}
use Rattle.std.specs.Float.Ieee.{add, sub, mul, div, neg, lt, le, eq, of_bits, of_int, to_unsigned}

infixl 60 ◌⊕◌ ◌⊖◌
infixl 70 ◌⊗◌ ◌⊘◌
infix 50 ◌≺◌ ◌≼◌ ◌≐◌
abbrev pub ◌⊕◌ : Float → Float → Float
x ⊕ y = add binary64 x y

abbrev pub ◌⊖◌ : Float → Float → Float
x ⊖ y = sub binary64 x y

abbrev pub ◌⊗◌ : Float → Float → Float
x ⊗ y = mul binary64 x y

abbrev pub ◌⊘◌ : Float → Float → Float
x ⊘ y = div binary64 x y

-- Rust's `x < y`, `x <= y` and `x == y`. Its `x > y` is `y ≺ x`.
abbrev pub ◌≺◌ : Float → Float → Bool
x ≺ y = lt x y

abbrev pub ◌≼◌ : Float → Float → Bool
x ≼ y = le x y

abbrev pub ◌≐◌ : Float → Float → Bool
x ≐ y = eq x y

-- Rust's `n as f64`, exact below 2 to the 53
abbrev pub float : ℕ → Float
float n = of_int binary64 (pos n)

-- Rust's `x as u32`: the whole part of a number that is at least 0
abbrev pub whole_part : Float → ℕ
whole_part x = to_unsigned 32 x

-- ---- the literals of the source

abbrev pub f0 : Float
f0 = of_bits binary64 0

abbrev pub f1 : Float
f1 = of_bits binary64 0x3ff0_0000_0000_0000

abbrev pub f2 : Float
f2 = of_bits binary64 0x4000_0000_0000_0000

abbrev pub f3 : Float
f3 = of_bits binary64 0x4008_0000_0000_0000

abbrev pub minus_f1 : Float
minus_f1 = neg f1

abbrev pub f½ : Float
f½ = of_bits binary64 0x3fe0_0000_0000_0000

abbrev pub f1_5 : Float
f1_5 = of_bits binary64 0x3ff8_0000_0000_0000

abbrev pub f10 : Float
f10 = of_bits binary64 0x4024_0000_0000_0000

abbrev pub f100 : Float
f100 = of_bits binary64 0x4059_0000_0000_0000

abbrev pub f0_15 : Float
f0_15 = of_bits binary64 0x3fc3_3333_3333_3333

abbrev pub f0_35 : Float
f0_35 = of_bits binary64 0x3fd6_6666_6666_6666

abbrev pub f0_70 : Float
f0_70 = of_bits binary64 0x3fe6_6666_6666_6666

abbrev pub f1e_minus6 : Float
f1e_minus6 = of_bits binary64 0x3eb0_c6f7_a0b5_ed8d

abbrev pub f1e_minus9 : Float
f1e_minus9 = of_bits binary64 0x3e11_2e0b_e826_d695

-- 2 to the -52, Rust's `f64::EPSILON`
abbrev pub ε : Float
ε = of_bits binary64 0x3cb0_0000_0000_0000

-- 2 to the 20, the farthest that a corner may lie
abbrev pub f2^20 : Float
f2^20 = of_bits binary64 0x4130_0000_0000_0000
