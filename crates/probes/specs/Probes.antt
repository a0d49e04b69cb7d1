-- refine.rs, the selection of probes (531 to 561): two in each dark border module of the middle of an
-- edge, decimated to a limit. Definitions only, to be believed.
use Rattle.std.specs.Prelude.{ℕ, zero, suc, ◌+◌, ◌-◌, ◌/◌, ◌%◌, min, Bool, not, ◌||◌, List, [], ◌∷◌, ◌++◌, ltb, eqb, length, take, Float}
use Rattle.prelude.specs.Prelude.{when◌then◌else◌}
use Rattle.ieee.specs.Floats.{◌⊕◌, ◌⊖◌, ◌⊘◌, ◌≺◌, float}
use Rattle.consts.specs.Consts.{max_edge_points}
use Rattle.consts.specs.declared.Settings.{Settings}
use Rattle.grid.specs.declared.LabelEdge.{LabelEdge}
use Rattle.grid.specs.Grids.{Grid, edge_of, border_dark, inward_dark}
use Rattle.probes.specs.declared.Probe.{Probe}

-- ---- candidates

-- whether a place, in modules from an edge's start, lies in the margin at either end
abbrev pub near_end : Settings → ℕ → Float → Bool
near_end s dim at = (at ≺ s.edge_margin_modules) || (float dim ⊖ s.edge_margin_modules ≺ at)

-- the candidate at a fraction of module m, if it lies in the middle of the edge
abbrev pub candidate_at : Settings → Grid → LabelEdge → ℕ → Float → List Probe
candidate_at s g e m fraction =
    let at = float m ⊕ fraction in
    when near_end s g.dim at then [] else
    record { t = at ⊘ float g.dim; inward_differs = not (inward_dark g e m) } ∷ []

abbrev pub module_candidates : Settings → Grid → LabelEdge → ℕ → List Probe
module_candidates s g e m =
    when border_dark g e m then candidate_at s g e m s.probe_fraction_first ++ candidate_at s g e m s.probe_fraction_second else []

-- those of n modules from m on, behind those that there are
unfoldable pub candidates_from : Settings → Grid → LabelEdge → ℕ → ℕ → List Probe → List Probe
candidates_from s g e zero m got = got
candidates_from s g e (suc n) m got = candidates_from s g e n (suc m) (got ++ module_candidates s g e m)

abbrev pub candidates : Settings → Grid → LabelEdge → List Probe
candidates s g e = candidates_from s g e g.dim 0 []

-- ---- every k-th

-- of a list whose first has place i, those whose place is a multiple of k
unfoldable pub every_from : ℕ → ℕ → List Probe → List Probe
every_from k i [] = []
every_from k i (x ∷ xs) = when eqb (i % k) 0 then x ∷ every_from k (suc i) xs else every_from k (suc i) xs

-- the ceiling of n / most
abbrev pub decimation : ℕ → ℕ → ℕ
decimation n most = (n + (most - 1)) / most

-- at most so many: beyond that every k-th, k the ceiling of how often they fit
abbrev pub decimated : ℕ → List Probe → List Probe
decimated most ps = when ltb most (length ps) then take most (every_from (decimation (length ps) most) 0 ps) else ps

-- ---- the probes of an edge, by its number

abbrev pub probes_of : Settings → Grid → ℕ → List Probe
probes_of s g e = decimated (min s.max_points_per_edge max_edge_points) (candidates s g (edge_of e))
