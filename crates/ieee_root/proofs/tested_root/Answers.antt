-- `ieee_root::tested_root` meets its contract. The tests against 0.0 leave the values above zero, whose patterns `Inputs.antt` reads. Assumes nothing.
use mathlib.Core.Path.{◌≡◌, sym, ap, ◌∙◌, subst}
use Prim.Native.Nat.{ℕ, ◌+◌, ◌-◌, ◌*◌, ◌/◌, ◌%◌, ◌^◌, ◌≤◌, ◌<◌}
use native.Mathlib.Omega.{arith}
use lib.Dec.{T}
use lib.Count.{count_leading_zeros}
use lib.Ieee.{Float, binary64, fits, to_bits, lt, eq}
use lib.Ieee.Positive.{above}
use Rattle.ieee_root.specs.Root.{root, root_units}
use Rattle.ieee.proofs.Patterns.{yes, zero_is, zero_by_zero}
use Rattle.ieee_root.proofs.Inputs.{above_zero, root_zero, root_none, small_root, infinite_root, normal_root, Lifted, lifted, lifted_same}
use Rattle.ieee_root.proofs.tested_root.Goals as goal
use Rattle.ieee_root.proofs.tested_root.Goals.{Else-b-eq2047, Start, Then-b-lt4503599627370496, Then-x}

abbrev x : Start → Float
x c = c.args.x

abbrev b : Start → ℕ
b c = to_bits binary64 (x c)

held : (c : Start) → T (fits binary64 (x c))
held c = yes c.well_formed.0.1

over : (c : Then-x) → T (above (x c.before))
over c = above_zero (x c.before) (ap (λ (z : Float). lt z (x c.before)) (sym zero_is) ∙ c.if-x.true)

-- ---- a subnormal value

small : (c : Then-b-lt4503599627370496) → (0 < b c.before.before) × (root binary64 (x c.before.before) ≡ root_units binary64 (b c.before.before * 2 ^ 1074))
small c = small_root (x c.before.before) (held c.before.before) (over c.before) c.if-b-lt4503599627370496.true

lift : (c : Then-b-lt4503599627370496) → (11 ≤ count_leading_zeros 64 (b c.before.before)) × Lifted (b c.before.before) (count_leading_zeros 64 (b c.before.before) - 11)
lift c = lifted (b c.before.before) (small c).0 c.if-b-lt4503599627370496.true

-- ---- a normal value

large : (c : Else-b-eq2047) → (b c.before.before.before / 2 ^ 52 < 2047)
    × (root binary64 (x c.before.before.before) ≡ root_units binary64 ((2 ^ 52 + b c.before.before.before % 2 ^ 52) * 2 ^ (b c.before.before.before / 2 ^ 52 + 1073)))
large c =
    let d = c.before.before in
    normal_root (x d.before) (held d.before) (over d) c.if-b-lt4503599627370496.false c.if-b-eq2047.false

-- ---- the answers

pub overflow_sub-s : goal.overflow_sub-s
overflow_sub-s c = (lift (goal.at.overflow_sub-s c).Then-b-lt4503599627370496).0

pub invariant_of-scaled_root : goal.invariant_of-scaled_root
invariant_of-scaled_root c =
    let l = (lift (goal.at.invariant_of-scaled_root c).Then-b-lt4503599627370496).1 in
    record { normal = subst (λ (m : ℕ). (2 ^ 52 ≤ m) × (m < 2 ^ 53)) (sym l.1) (l.2, l.3) }

pub scaled_root-requires : goal.scaled_root-requires
scaled_root-requires c =
    let l = (lift (goal.at.scaled_root-requires c).Then-b-lt4503599627370496).1 in
    let h = l.0 in
    record { exponent = (omega arith, omega arith) }

pub returns-then-b-lt4503599627370496 : goal.returns-then-b-lt4503599627370496
returns-then-b-lt4503599627370496 c =
    let d = (goal.at.returns-then-b-lt4503599627370496 c).Then-b-lt4503599627370496 in
    let l = (lift d).1 in
    let y = b (goal.at.returns-then-b-lt4503599627370496 c).Start in
    let s = count_leading_zeros 64 y - 11 in
    c.scaled_root.ensures
    ∙ ap (λ (m : ℕ). root_units binary64 (m * 2 ^ (1074 - s))) l.1
    ∙ ap (root_units binary64) (lifted_same y s l.0)
    ∙ sym (small d).1

pub returns-then-b-eq2047 : goal.returns-then-b-eq2047
returns-then-b-eq2047 c =
    let d = (goal.at.returns-then-b-eq2047 c).Then-x in
    infinite_root (x (goal.at.returns-then-b-eq2047 c).Start) (held (goal.at.returns-then-b-eq2047 c).Start) (over d) c.if-b-eq2047.true

pub normal_root-requires : goal.normal_root-requires
normal_root-requires c =
    let d = (goal.at.normal_root-requires c).Else-b-eq2047 in
    record { normal = (d.before.if-b-lt4503599627370496.false, (large d).0) }

pub returns-then-x : goal.returns-then-x
returns-then-x c = c.normal_root.ensures ∙ sym (large (goal.at.returns-then-x c).Else-b-eq2047).1

pub returns-then-x-2 : goal.returns-then-x-2
returns-then-x-2 c = root_zero (x (goal.at.returns-then-x-2 c).Start) (ap (eq (x (goal.at.returns-then-x-2 c).Start)) (sym zero_is) ∙ c.if-x-2.true)

pub returns : goal.returns
returns c =
    let y = x (goal.at.returns c).Start in
    zero_by_zero ∙ root_none y (ap (λ (z : Float). lt z y) (sym zero_is) ∙ c.if-x.false) (ap (eq y) (sym zero_is) ∙ c.if-x-2.false)
