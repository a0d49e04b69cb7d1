-- A refusal's number is never an answer's, and tells which refusal it is. By cases. Assumes nothing.
use Rattle.std.proofs.Common.{◌≡◌, ℕ, ◌<◌, refl, sym, ◌∙◌, ap}
use native.Mathlib.Omega.{arith}
use Rattle.std.specs.Prelude.{◌-◌, List, [], ◌∷◌, get_or}
use Rattle.number.specs.Numbers.{number}
use Rattle.number.specs.declared.Refusal.{Refusal}
use Rattle.number.specs.declared.Refusal.TheVariants.{Size, Photograph, Grid, Scale, Corner, Lens, Sheet, Quad, Thin, Line, Overflow, Card, Points, Pairing, Finite, Weight, Outside, Parallel, Profile, Place, Window, Room, Form, Count, Settings}

-- the refusals in the order of their numbers
all : List Refusal
all = Size ∷ Photograph ∷ Grid ∷ Scale ∷ Corner ∷ Lens ∷ Sheet ∷ Quad ∷ Thin ∷ Line ∷ Overflow ∷ Card ∷ Points ∷ Pairing ∷ Finite ∷ Weight ∷ Outside ∷ Parallel ∷ Profile ∷ Place ∷ Window ∷ Room ∷ Form ∷ Count ∷ Settings ∷ []

-- the refusal of a number; where there is none, some refusal
refusal_of : ℕ → Refusal
refusal_of n = get_or all (n - 1) Place

back : (r : Refusal) → refusal_of (number r) ≡ r
unfolding refusal_of all
back Size = refl
back Photograph = refl
back Grid = refl
back Scale = refl
back Corner = refl
back Lens = refl
back Sheet = refl
back Quad = refl
back Thin = refl
back Line = refl
back Overflow = refl
back Card = refl
back Points = refl
back Pairing = refl
back Finite = refl
back Weight = refl
back Outside = refl
back Parallel = refl
back Profile = refl
back Place = refl
back Window = refl
back Room = refl
back Form = refl
back Count = refl
back Settings = refl

-- no refusal has the number of an answer
pub number_positive : (r : Refusal) → 0 < number r
number_positive Size = omega arith
number_positive Photograph = omega arith
number_positive Grid = omega arith
number_positive Scale = omega arith
number_positive Corner = omega arith
number_positive Lens = omega arith
number_positive Sheet = omega arith
number_positive Quad = omega arith
number_positive Thin = omega arith
number_positive Line = omega arith
number_positive Overflow = omega arith
number_positive Card = omega arith
number_positive Points = omega arith
number_positive Pairing = omega arith
number_positive Finite = omega arith
number_positive Weight = omega arith
number_positive Outside = omega arith
number_positive Parallel = omega arith
number_positive Profile = omega arith
number_positive Place = omega arith
number_positive Window = omega arith
number_positive Room = omega arith
number_positive Form = omega arith
number_positive Count = omega arith
number_positive Settings = omega arith

-- two refusals of one number are the same
pub number_tells : (r s : Refusal) → number r ≡ number s → r ≡ s
number_tells r s e = sym (back r) ∙ ap refusal_of e ∙ back s
