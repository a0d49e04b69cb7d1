-- The cases that document 01 works on paper, P1 to P12: one list, and one proof that the definitions yield its results. And its grey photograph, which
-- gives 9. Everything is computed from the definitions. Assumes nothing.
use Prim.Native.Nat.{ℕ, ◌*◌}
use mathlib.Core.Bool.{Bool, true, false, ◌&&◌}
use mathlib.Core.List.{List, [], ◌∷◌, map}
use lib.Dec.{T, eqb}
use lib.ListN.{length, replicate}
use lib.Ieee.{Float, binary64, neg, to_bits}
use Rattle.std.specs.Prelude.{None, Result, Ok, Err}
use Rattle.number.specs.Numbers.{answer, number, number_of}
use Rattle.number.specs.declared.Refusal.{Refusal}
use Rattle.ieee.proofs.Opened as Ieee
use Rattle.ieee_root.proofs.Opened as Root
use Rattle.footprint.proofs.Opened as Footprint
use Rattle.sampling.proofs.Opened as Sampling
use Rattle.sample_tree.proofs.Opened as SampleTree
use Rattle.profile.proofs.Opened as Profile
use Rattle.grid.proofs.Opened as Grids
use Rattle.probes.proofs.Opened as Probes
use Rattle.edge.proofs.Opened as Edge
use Rattle.round.proofs.Opened as Round
use Rattle.rounds.proofs.Opened as Rounds
use Rattle.refine.proofs.Opened as Refine
use Rattle.ieee.specs.Floats.{◌⊘◌, f0, f1, f2, f3, f½, float}
use Rattle.consts.specs.Consts.{defaults}
use Rattle.pixel.specs.Pixels.{source, direction, edge_point}
use Rattle.pixel.specs.declared.SourcePixel.{SourcePixel}
use Rattle.pixel.specs.declared.WorkingPixel.{WorkingPixel}
use Rattle.homography.specs.declared.PerspectiveTransform.{PerspectiveTransform}
use Rattle.homography.specs.Homography.{map_point}
use Rattle.quad.specs.Quad.{square_to_quad, map_answer}
use Rattle.line.specs.declared.Line2.{Line2}
use Rattle.line.specs.Line.{line, crossing, cross_answer}
use Rattle.footprint.specs.declared.BorderMode.TheVariants.{Reject}
use Rattle.sampling.specs.Sampling.{sample_bilinear}
use Rattle.fit.specs.Fit.{fit_edge}
use Rattle.aitken.specs.Aitken.{aitken}
use Rattle.profile.specs.declared.Ray.{Ray}
use Rattle.profile.specs.Profile.{passed}
use Rattle.edge_point.specs.EdgePoint.{point_answer}
use Rattle.grid.specs.Grids.{Grid}
use Rattle.probes.specs.Probes.{probes_of}
use Rattle.request.specs.declared.Request.{Request}
use Rattle.request.specs.Requests.{Photograph}
use Rattle.refine.specs.Refine.{refine}

pub data Case : Type 0 where
  -- a profile's samples: its peak's offset and weight
  samples : List ℕ → (inward_differs : Bool) → Case
  -- three projections: where they tend
  projections : (x0 x1 x2 step : Float) → Case
  -- a place in the picture 0 100 / 200 40: its sample
  pixels : (x y : Float) → Case
  -- a border that is all dark: how many probes each edge has
  border : (dim : ℕ) → Case
  -- four corners: where their map sends a place
  corners : List SourcePixel → (u v : Float) → Case
  -- two lines: their crossing
  lines : Line2 → Line2 → Case

-- a number of document 01, and values
pub record Outcome : Type 0 where
  pub number : ℕ
  pub values : List Float

abbrev gives : List Float → Outcome
gives vs = record { number = answer; values = vs }

abbrev refuses : ℕ → Outcome
refuses n = record { number = n; values = [] }

-- ---- what the definitions yield

-- what a call returns: the values of an answer, and none of a refusal
of : {A : Type 0} → (A → List Float) → Result A Refusal → Outcome
of values (Ok a) = gives (values a)
of values (Err e) = refuses (number e)

-- from the origin along the x axis, so that a place there is its offset
rightwards : Bool → Ray
rightwards inward_differs = record { coarse = source f0 f0; normal = direction f1 f0; step = f1; inverted = false; inward_differs = inward_differs }

all_dark : ℕ → Grid
all_dark dim = record { dim = dim; modules = replicate (dim * dim) 1 }

outcome : Case → Outcome
outcome (samples vs inward_differs) =
    of (λ p. p.pos.0 ∷ p.weight ∷ []) (point_answer (passed defaults (rightwards inward_differs) (source f0 f0) (map float vs)))
outcome (projections x0 x1 x2 step) =
    of (λ p. p.pos.0 ∷ []) (point_answer (aitken (direction f1 f0) step (edge_point (source x2 f0) f1) (x0 ∷ x1 ∷ x2 ∷ [])))
outcome (pixels x y) = of (λ v. v ∷ []) (sample_bilinear (0 ∷ 100 ∷ 200 ∷ 40 ∷ []) 2 2 2 x y Reject)
outcome (border dim) = gives (map (λ e. float (length (probes_of defaults (all_dark dim) e))) (0 ∷ 1 ∷ 2 ∷ 3 ∷ []))
outcome (corners q u v) = of (λ (m : PerspectiveTransform). (map_point m u v).0 ∷ (map_point m u v).1 ∷ []) (map_answer (square_to_quad q))
outcome (lines a b) = of (λ (p : SourcePixel). p.0 ∷ p.1 ∷ []) (cross_answer (crossing a b))

-- ---- the list

quarters : ℕ → Float
quarters n = float n ⊘ float 4

pub cases : List (Case × Outcome)
cases =
    -- P1 to P5
    (samples (20 ∷ 20 ∷ 20 ∷ 70 ∷ 120 ∷ 120 ∷ 120 ∷ []) false, gives (f0 ∷ float 100 ∷ []))
    ∷ (samples (20 ∷ 20 ∷ 20 ∷ 70 ∷ 120 ∷ 120 ∷ 120 ∷ []) true, gives (neg f½ ∷ float 100 ∷ []))
    ∷ (samples (20 ∷ 20 ∷ 20 ∷ 26 ∷ 32 ∷ 32 ∷ 32 ∷ []) false, gives (f0 ∷ float 12 ∷ []))
    ∷ (samples (20 ∷ 20 ∷ 20 ∷ 26 ∷ 31 ∷ 31 ∷ 31 ∷ []) false, refuses 19)
    ∷ (samples (0 ∷ 0 ∷ 20 ∷ 12 ∷ 20 ∷ 24 ∷ 20 ∷ []) false, refuses 19)
    -- P6 to P8
    ∷ (projections f0 f½ (quarters 3) f1, gives (f1 ∷ []))
    ∷ (projections f0 f2 f3 f1, gives (float 4 ∷ []))
    ∷ (projections f0 f1 (quarters 7) f1, refuses 19)
    -- P9
    ∷ (pixels f½ f½, gives (float 85 ∷ []))
    ∷ (pixels f1 f1, gives (float 40 ∷ []))
    ∷ (pixels (quarters 5) f0, refuses 17)
    -- P10
    ∷ (border 3, gives (replicate 4 f0))
    ∷ (border 21, gives (replicate 4 (float 36)))
    ∷ (border 35, gives (replicate 4 (float 64)))
    ∷ (border 36, gives (replicate 4 (float 33)))
    -- P11
    ∷ (corners (source f0 f0 ∷ source f2 f0 ∷ source f1 f1 ∷ source f0 f1 ∷ []) f1 f1, gives (f1 ∷ f1 ∷ []))
    -- P12
    ∷ (lines (line (source f0 f0) (direction f1 f0)) (line (source f3 (float 4)) (direction f0 f1)), gives (f3 ∷ f0 ∷ []))
    ∷ []

-- whether two are the same, value for value by their bits
same_values : List Float → List Float → Bool
same_values [] [] = true
same_values [] (y ∷ ys) = false
same_values (x ∷ xs) [] = false
same_values (x ∷ xs) (y ∷ ys) = eqb (to_bits binary64 x) (to_bits binary64 y) && same_values xs ys

pub right : List (Case × Outcome) → Bool
right [] = true
right (c ∷ cs) = eqb (outcome c.0).number c.1.number && same_values (outcome c.0).values c.1.values && right cs

pub worked : T (right cases)
unfolding right same_values cases outcome of rightwards all_dark quarters to_bits Ieee.opened Root.opened Footprint.opened Sampling.opened Profile.opened Grids.opened Probes.opened
worked = tt

-- ---- the grey photograph

at : Float → Float → WorkingPixel
at x y = record { 0 = x; 1 = y }

pub grey : Request
grey = record {
  width = 4;
  height = 4;
  dim = 2;
  sx = f1;
  sy = f1;
  corners = at f0 f0 ∷ at f2 f0 ∷ at f2 f2 ∷ at f0 f2 ∷ [];
  inverted = false;
  view = None;
  settings = defaults;
}

pub grey_photograph : Photograph
grey_photograph = record { bytes = replicate 16 128; stride = 4 }

pub grey_is-thin : T (eqb (number_of (refine grey (1 ∷ 1 ∷ 1 ∷ 1 ∷ []) grey_photograph)) 9)
unfolding grey grey_photograph at
    Ieee.opened Root.opened Footprint.opened Sampling.opened SampleTree.opened fit_edge Profile.opened Grids.opened Probes.opened Edge.opened Round.opened Rounds.opened Refine.opened
grey_is-thin = tt
