-- line.rs, `fit_line_tls_weighted` (79 to 129): the weighted line fit, with the stand-in for the
-- Rust's angle. Definitions only, to be believed.
use Rattle.std.specs.Prelude.{Bool, not, ◌&&◌, ◌||◌, List, ltb, eqb, length, Float, Result, Ok, Err}
use Rattle.std.specs.Float.Ieee.{neg}
use Rattle.std.specs.Float.{binary64}
use Rattle.prelude.specs.Prelude.{when◌then◌else◌}
use Rattle.number.specs.declared.Refusal.{Refusal}
use Rattle.number.specs.declared.Refusal.TheVariants as refusal
use Rattle.ieee.specs.Parts.{is_finite}
use Rattle.ieee_root.specs.Root.{root}
use Rattle.ieee.specs.Floats.{◌⊕◌, ◌⊖◌, ◌⊗◌, ◌⊘◌, ◌≐◌, ◌≼◌, f0, f1, f2, ε}
use Rattle.pixel.specs.Pixels.{source, direction}
use Rattle.pixel.specs.declared.SourcePixel.{SourcePixel}
use Rattle.pixel.specs.declared.Direction.{Direction}
use Rattle.line.specs.declared.Line2.{Line2}
use Rattle.line.specs.Line.{line}
use Rattle.float_lists.specs.Sums.{at, total, sum_to, finite, not_negative}
use Rattle.line_fit.specs.declared.Moments.{Moments}

-- ---- the direction of the larger spread

-- a is sxx - syy, b is 2 * sxy, h the root of a * a + b * b
abbrev pub half_angle_direction : Float → Float → Float → Direction
half_angle_direction a b h =
    when f0 ≼ a
    then (let c = root binary64 ((h ⊕ a) ⊘ (f2 ⊗ h)) in direction c (b ⊘ (f2 ⊗ h ⊗ c)))
    else (let m = root binary64 ((h ⊖ a) ⊘ (f2 ⊗ h)) in
    let s = when f0 ≼ b then m else neg m in
    direction (b ⊘ (f2 ⊗ h ⊗ s)) s)

abbrev pub principal_direction : Moments → Direction
principal_direction m =
    let a = m.sxx ⊖ m.syy in
    let b = f2 ⊗ m.sxy in
    let h = root binary64 (a ⊗ a ⊕ b ⊗ b) in
    when h ≐ f0 then direction f1 f0 else half_angle_direction a b h

-- ---- `fit_line_tls_weighted`: by `Points`, `Pairing`, `Finite`, `Weight` for the sum or for one below 0, `Line`, `Overflow`

abbrev pub finite_place : SourcePixel → Bool
finite_place p = is_finite p.0 && is_finite p.1

abbrev pub finite_direction : Direction → Bool
finite_direction d = is_finite d.x && is_finite d.y

-- the sum of the values times their weights, over the sum of the weights
abbrev pub mean : List Float → List Float → Float
mean xs ws = sum_to (length xs) (λ i. at xs i ⊗ at ws i) ⊘ total ws

-- the points' weighted centroid
abbrev pub centroid : (xs ys ws : List Float) → SourcePixel
centroid xs ys ws = source (mean xs ws) (mean ys ws)

-- the scatter of points around a place
abbrev pub scatter : (xs ys ws : List Float) → SourcePixel → Moments
scatter xs ys ws c =
    record {
      sxx = sum_to (length xs) (λ i. at ws i ⊗ (at xs i ⊖ c.0) ⊗ (at xs i ⊖ c.0));
      sxy = sum_to (length xs) (λ i. at ws i ⊗ (at xs i ⊖ c.0) ⊗ (at ys i ⊖ c.1));
      syy = sum_to (length xs) (λ i. at ws i ⊗ (at ys i ⊖ c.1) ⊗ (at ys i ⊖ c.1));
    }

abbrev pub fit_moments : SourcePixel → Moments → Result Line2 Refusal
fit_moments c m =
    when m.sxx ⊕ m.syy ≼ ε then Err refusal.Line else
    when not (finite_place c) then Err refusal.Overflow else
    when not (finite_direction (principal_direction m)) then Err refusal.Overflow else
    Ok (line c (principal_direction m))

-- points and as many weights, all finite
abbrev pub fit_finite : (xs ys ws : List Float) → Result Line2 Refusal
fit_finite xs ys ws =
    when total ws ≼ f0 || not (not_negative ws) then Err refusal.Weight else
    fit_moments (centroid xs ys ws) (scatter xs ys ws (centroid xs ys ws))

-- points and as many weights
abbrev pub fit_paired : (xs ys ws : List Float) → Result Line2 Refusal
fit_paired xs ys ws =
    when finite xs && finite ys && finite ws then fit_finite xs ys ws else Err refusal.Finite

-- the points (x, y), a list of each coordinate, and their weights
abbrev pub fit_line : (xs ys ws : List Float) → Result Line2 Refusal
fit_line xs ys ws =
    when ltb (length xs) 2 || ltb (length ys) 2 then Err refusal.Points else
    when eqb (length xs) (length ys) && eqb (length xs) (length ws) then fit_paired xs ys ws else Err refusal.Pairing
