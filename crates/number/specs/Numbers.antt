-- The refusals of document 01, each with its number there, and from 21 on those of document 02.
-- Definitions only, to be believed.
use Rattle.std.specs.Prelude.{ℕ, Result, Ok, Err}
use Rattle.number.specs.declared.Refusal.{Refusal}
use Rattle.number.specs.declared.Refusal.TheVariants.{Size, Photograph, Grid, Scale, Corner, Lens, Sheet, Quad, Thin, Line, Overflow, Card, Points, Pairing, Finite, Weight, Outside, Parallel, Profile, Place, Window, Room, Form, Count, Settings}

abbrev pub answer : ℕ
answer = 0

abbrev pub number : Refusal → ℕ
-- width or height outside its limits
number Size = 1
-- the stride is wrong, or the bytes are too few
number Photograph = 2
-- the dimension is wrong, the modules are too few, or one is neither 0 nor 1
number Grid = 3
-- a scale is not finite or not above 0
number Scale = 4
-- a corner is not finite, or lies beyond 2 to the 20 after the division
number Corner = 5
-- a camera number is not finite, or a focal length is not above 0
number Lens = 6
-- sheet or copy is shorter than width times height
number Sheet = 7
-- four corners have no map
number Quad = 8
-- fewer than two valid edges in the first round
number Thin = 9
-- the points of a line do not spread
number Line = 10
-- centroid, direction or a residual is not finite
number Overflow = 11
-- a card is malformed, or its output buffer is too short
number Card = 12
-- fewer than 2 points
number Points = 13
-- points and weights differ in number
number Pairing = 14
-- a point or a weight is not finite
number Finite = 15
-- the sum of the weights is not above 0, or a weight is negative
number Weight = 16
-- there is no sample
number Outside = 17
-- two lines are parallel
number Parallel = 18
-- a profile has no edge point
number Profile = 19
-- there is no source position
number Place = 20
-- a window is even, below 3 or above 31
number Window = 21
-- a smoothed scan does not fit where it is to be written
number Room = 22
-- a result card is malformed, or of the other form
number Form = 23
-- a count is above 255, the largest of an older result card
number Count = 24
-- a setting is out of its range or not finite
number Settings = 25

-- what a call returns has a number: 0 where it is an answer, and else that of its refusal
abbrev pub number_of : {A : Type 0} → Result A Refusal → ℕ
number_of (Ok a) = answer
number_of (Err refusal) = number refusal
