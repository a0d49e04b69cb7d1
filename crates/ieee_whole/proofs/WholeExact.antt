-- `floor_of x` is the largest whole number that is at most x, and `ceil_of x` the smallest that is at least x, for every finite x of binary64. They are held against every whole number,
-- those that binary64 lacks included, and compared by Rust's `<=`.
-- Why: from 2 ^ 53 on a value is whole itself, and below that the format holds every whole number, so the one that the definition names is rounded to itself. Assumes nothing.
use Rattle.std.proofs.Common.{ℕ, ◌*◌, Bool, not, T, ap, subst}
use lib.Ieee.{Float, nan, inf, fin, binary64, up, down, neg, fits}
use lib.Ieee.Exact.{HasValue}
use lib.Ieee.Fits.{neg-fits}
use lib.Ieee.Scale.{finite}
use Rattle.ieee.specs.Floats.{◌≼◌}
use Rattle.ieee_whole.specs.Whole.{floor_of, ceil_of}
use Rattle.ieee_whole.proofs.Whole.{ceil-is}
use Rattle.ieee_whole.proofs.WholeLaws.{floor_to, floor-value, floor-fits, at-most-x, largest_whole}
use Rattle.ieee_whole.proofs.AtMost.{neg-at-most, neg-neg}

-- y is n or -n for a whole number n
abbrev pub IsWhole : Float → Type 0
IsWhole y = (s : Bool) × (n : ℕ) × HasValue y s n 1

-- r is a value of binary64 and a whole number, is at most x, and no whole number lies between
pub record LargestBelow (x r : Float) : Type 0 where
  pub held : T (fits binary64 r)
  pub whole : IsWhole r
  pub at_most : T (r ≼ x)
  pub largest : (y : Float) → IsWhole y → T (y ≼ x) → T (y ≼ r)

-- the same from above
pub record SmallestAbove (x r : Float) : Type 0 where
  pub held : T (fits binary64 r)
  pub whole : IsWhole r
  pub at_least : T (x ≼ r)
  pub smallest : (y : Float) → IsWhole y → T (x ≼ y) → T (r ≼ y)

pub floor_exact : (x : Float) → T (fits binary64 x) → T (finite x) → LargestBelow x (floor_of x)
floor_exact nan F P = absurd P
floor_exact (inf s) F P = absurd P
floor_exact (fin s m e) F P =
    let r = floor_of (fin s m e) in
    let v : HasValue r s (floor_to s (m * up e) (down e)) 1 = floor-value s m e F in
    record { held = floor-fits s m e; whole = (s, floor_to s (m * up e) (down e), v); at_most = at-most-x s m e r v; largest = λ y w. largest_whole s m e r v y w.0 w.1 w.2 }

-- ---- ceil, as the floor of -x negated

neg-whole : (x : Float) → IsWhole x → IsWhole (neg x)
unfolding neg
neg-whole nan w = absurd w.2
neg-whole (inf s) w = absurd w.2
neg-whole (fin s m e) w = (not w.0, w.1, (ap not w.2.0, w.2.1))

neg-finite : (x : Float) → T (finite x) → T (finite (neg x))
unfolding neg
neg-finite nan P = P
neg-finite (inf s) P = P
neg-finite (fin s m e) P = P

mirrored : (x r : Float) → LargestBelow (neg x) r → SmallestAbove x (neg r)
mirrored x r L = record {
  held = neg-fits binary64 r L.held;
  whole = neg-whole r L.whole;
  at_least = subst (λ (z : Float). T (z ≼ neg r)) (neg-neg x) (neg-at-most r (neg x) L.at_most);
  smallest = λ y w h. subst (λ (z : Float). T (neg r ≼ z)) (neg-neg y) (neg-at-most (neg y) r (L.largest (neg y) (neg-whole y w) (neg-at-most x y h)));
}

pub ceil_exact : (x : Float) → T (fits binary64 x) → T (finite x) → SmallestAbove x (ceil_of x)
ceil_exact x F P = subst (λ (r : Float). SmallestAbove x r) (ceil-is x) (mirrored x (floor_of (neg x)) (floor_exact (neg x) (neg-fits binary64 x F) (neg-finite x P)))
