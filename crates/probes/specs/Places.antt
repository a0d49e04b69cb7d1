-- The places of an edge, two in each module and counted from its start: what the two passes over them promise. Definitions only.
-- Internal: contracts inside the crate cite it, no public one does, and nothing here has to be believed.
use Rattle.std.specs.Prelude.{◌≡◌, ℕ, zero, suc, ◌+◌, ◌-◌, ◌*◌, ◌/◌, ◌%◌, ◌≤◌, ◌<◌, Bool, not, ◌&&◌, List, [], ◌∷◌, ◌++◌, eqb, length, take, drop, Float}
use Rattle.prelude.specs.Prelude.{when◌then◌else◌}
use Rattle.ieee.specs.Floats.{◌⊕◌, ◌⊘◌, float}
use Rattle.consts.specs.declared.Settings.{Settings}
use Rattle.grid.specs.declared.LabelEdge.{LabelEdge}
use Rattle.grid.specs.Grids.{Grid, border_dark, inward_dark}
use Rattle.probes.specs.Probes.{near_end, candidate_at, candidates, every_from, decimated}
use Rattle.probes.specs.declared.Probe.{Probe}

-- ---- places

-- the fraction of its module at which place j lies
abbrev pub fraction_at : Settings → ℕ → Float
fraction_at s j = when eqb (j % 2) 0 then s.probe_fraction_first else s.probe_fraction_second

-- where place j lies, in modules
abbrev pub place_at : Settings → ℕ → Float
place_at s j = float (j / 2) ⊕ fraction_at s j

abbrev pub probe_at : Settings → Grid → LabelEdge → ℕ → Probe
probe_at s g e j = record { t = place_at s j ⊘ float g.dim; inward_differs = not (inward_dark g e (j / 2)) }

-- whether place j is one
abbrev pub is_candidate : Settings → Grid → LabelEdge → ℕ → Bool
is_candidate s g e j = border_dark g e (j / 2) && not (near_end s g.dim (place_at s j))

-- the candidate at place j, if there is one
abbrev pub candidate : Settings → Grid → LabelEdge → ℕ → List Probe
candidate s g e j = when border_dark g e (j / 2) then candidate_at s g e (j / 2) (fraction_at s j) else []

-- those of n places from j on
unfoldable pub candidates_of : Settings → Grid → LabelEdge → ℕ → ℕ → List Probe
candidates_of s g e zero j = []
candidates_of s g e (suc n) j = candidate s g e j ++ candidates_of s g e n (suc j)

-- those from place j to the edge's end
abbrev pub onward : Settings → Grid → LabelEdge → ℕ → List Probe
onward s g e j = candidates_of s g e (2 * g.dim - j) j

-- ---- the passes

-- how many candidates there are, at most two in each module
pub record Counted (s : Settings) (g : Grid) (e : LabelEdge) (n : ℕ) : Type 0 where
  pub all : n ≡ length (candidates s g e)
  pub few : n ≤ 8589934592

-- to take every k-th of n candidates, up to `most`, is to thin them
pub record Thins (n most k : ℕ) : Type 0 where
  pub some : 0 < k
  pub right : (ps : List Probe) → length ps ≡ n → take most (every_from k 0 ps) ≡ decimated most ps

-- from a place on, behind so many candidates, the next one is at place j
pub record Sought (s : Settings) (g : Grid) (e : LabelEdge) (from skip j : ℕ) : Type 0 where
  pub inside : j < 2 * g.dim
  pub left : drop skip (onward s g e from) ≡ probe_at s g e j ∷ onward s g e (j + 1)

-- every k-th of the candidates from a place on, behind `skip` of them, and `left` at most
abbrev pub coming : Settings → Grid → LabelEdge → (k at skip left : ℕ) → List Probe
coming s g e k at skip left = take left (every_from k 0 (drop skip (onward s g e at)))
