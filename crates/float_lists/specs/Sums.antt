-- The sum of a list, whether all of a list are so, and what a loop over an index adds up: for every length.
-- Definitions only, to be believed.
use Rattle.std.specs.Prelude.{ℕ, zero, suc, Bool, not, List, get_or, Float, fold}
use Rattle.std.specs.List.{list_all}
use Rattle.std.specs.Float.{nan}
use Rattle.ieee.specs.Parts.{is_finite}
use Rattle.ieee.specs.Floats.{◌⊕◌, ◌≺◌, f0}

-- a list's value at an index; past its end there is none
abbrev pub at : List Float → ℕ → Float
at xs i = get_or xs i nan

-- the sum of the values, from +0 and from the first on
abbrev pub total : List Float → Float
total xs = fold (λ (t x : Float). t ⊕ x) f0 xs

-- the sum of n terms, from +0 on
abbrev pub sum_to : ℕ → (ℕ → Float) → Float
sum_to zero f = f0
sum_to (suc n) f = sum_to n f ⊕ f n

-- whether all of the values are finite
abbrev pub finite : List Float → Bool
finite xs = list_all is_finite xs

-- whether none of the values is below 0
abbrev pub not_negative : List Float → Bool
not_negative xs = list_all (λ (x : Float). not (x ≺ f0)) xs
