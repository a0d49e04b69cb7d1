-- refine.rs, the peak of a profile: the gradients of its seven samples, their unfolding, the one
-- that counts and the vertex there (268 to 323). Definitions only, to be believed; `inner_gradients`
-- is internal, the five that the code works out at once.
use Rattle.std.specs.Prelude.{ℕ, zero, suc, ◌+◌, ◌-◌, Bool, not, ◌&&◌, ◌||◌, List, ltb, get_or, Float, Option, Some, None}
use Rattle.std.specs.Float.{nan}
use Rattle.prelude.specs.Prelude.{when◌then◌else◌}
use Rattle.ieee.specs.Parts.{is_finite, magnitude}
use Rattle.ieee.specs.Floats.{◌⊕◌, ◌⊖◌, ◌⊗◌, ◌⊘◌, ◌≺◌, ◌≼◌, float, f0, f1, minus_f1, f2, f3, f½, f1e_minus9}
use Rattle.consts.specs.declared.Settings.{Settings}
use Rattle.peak.specs.declared.Gradients.{Gradients}
use Rattle.peak.specs.declared.Peak.{Peak}

-- ---- gradients

-- central differences; none at either end
abbrev pub gradient : List Float → ℕ → Float
gradient s i = when ltb 0 i && ltb i 6 then get_or s (i + 1) nan ⊖ get_or s (i - 1) nan else f0

-- gradients i, i + 2, .. added from a, up to n of them
abbrev pub tail_sum : List Float → ℕ → ℕ → Float → Float
tail_sum s zero i a = a
tail_sum s (suc n) i a = when ltb i 7 then tail_sum s n (i + 2) (a ⊕ gradient s i) else a

-- unfolded by stride 2, one module, where the inward neighbour is light
abbrev pub corrected : Bool → List Float → ℕ → Float
corrected inward_differs s i = when inward_differs then tail_sum s 4 i f0 else gradient s i

-- those that a peak can need
abbrev pub inner_gradients : (ℕ → Float) → Gradients
inner_gradients g = record { g1 = g 1; g2 = g 2; g3 = g 3; g4 = g 4; g5 = g 5 }

-- ---- the peak

-- of the sign that the polarity gives an edge, and not below the contrast floor
abbrev pub above_contrast_floor : Settings → Bool → Float → Bool
above_contrast_floor s inverted g = float s.contrast_floor ≼ g ⊗ (when inverted then minus_f1 else f1)

-- 3 first, then of 2 and 4 the one of larger magnitude, then 2
abbrev pub peak_index : Settings → Bool → (ℕ → Float) → Option ℕ
peak_index s inverted g =
    let ok : ℕ → Bool = λ i. above_contrast_floor s inverted (g i) in
    when ok 3 then Some 3 else
    when ok 2 && ok 4 then (when magnitude (g 2) ≺ magnitude (g 4) then Some 4 else Some 2) else
    when ok 2 then Some 2 else when ok 4 then Some 4 else None

-- the vertex of the parabola through three gradients, the middle one at i
abbrev pub vertex : Float → Float → Float → ℕ → Option Peak
vertex gm1 g0 gp1 i =
    let denom = gm1 ⊖ f2 ⊗ g0 ⊕ gp1 in
    let delta = f½ ⊗ (gm1 ⊖ gp1) ⊘ denom in
    when magnitude denom ≺ f1e_minus9 then None else
    when not (is_finite delta) || (f1 ≺ magnitude delta) then None else
    Some (record { offset = (float i ⊖ f3) ⊕ delta; weight = magnitude g0 })

abbrev pub peak_at : (ℕ → Float) → Option ℕ → Option Peak
peak_at g None = None
peak_at g (Some i) = vertex (g (i - 1)) (g i) (g (i + 1)) i

abbrev pub peak : Settings → Bool → Bool → List Float → Option Peak
peak s inverted inward_differs samples = peak_at (corrected inward_differs samples) (peak_index s inverted (corrected inward_differs samples))
