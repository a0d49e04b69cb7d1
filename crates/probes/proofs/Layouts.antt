-- Where the modules of an edge lie: from its start on, one apart along a row and dim apart along a column. Assumes nothing.
use mathlib.Core.Path.{◌≡◌, refl}
use Prim.Native.Nat.{ℕ, ◌+◌, ◌-◌, ◌*◌, ◌≤◌, ◌<◌}
use native.Mathlib.Nat.{add_comm, mul-one}
use native.Mathlib.Omega.{arith}
use mathlib.Core.Bool.{Bool}
use mathlib.Core.List.{List}
use lib.Dec.{eqb}
use lib.ListN.{get_or}
use Rattle.pixel.proofs.Places.{row-most}
use Rattle.grid.specs.declared.LabelEdge.{LabelEdge}
use Rattle.grid.specs.declared.LabelEdge.TheVariants.{Top, Right, Bottom, Left}
use Rattle.grid.specs.Grids.{grid_of, dark, edge_dark, border_dark, inward_dark}
use Rattle.probes.specs.Layouts.{start_of, stride_of, dark_at}

-- a row and a column of 32 bits
place-fits : (row dim column : ℕ) → row ≤ 4294967295 → dim ≤ 4294967295 → column ≤ 4294967295 → row * dim + column < 18446744073709551616
place-fits row dim column p q l = omega (arith, row-most row dim p q)

-- of those that lie a step apart, b says whether module m is dark, and its place fits 64 bits
pub record Lies (ms : List ℕ) (m : ℕ) (b : Bool) (first step : ℕ) : Type 0 where
  pub dark : b ≡ dark_at ms first step m
  pub fits : first + m * step < 18446744073709551616

along-row : (ms : List ℕ) (m first : ℕ) → first + m < 18446744073709551616 → Lies ms m (eqb (get_or ms (first + m) 0) 1) first 1
along-row ms m first l = record { dark = rw mul-one; fits = rw mul-one l }

along-column : (ms : List ℕ) (m first dim : ℕ) → m * dim + first < 18446744073709551616 → Lies ms m (eqb (get_or ms (m * dim + first) 0) 1) first dim
along-column ms m first dim l = rw (add_comm (m * dim) first) (record { dark = refl; fits = rw (add_comm first) l })

edge_lies : (dim : ℕ) (e : LabelEdge) (m depth : ℕ) (ms : List ℕ) → dim ≤ 4294967295 → m ≤ 4294967295 → depth ≤ 4294967295
    → Lies ms m (edge_dark (grid_of dim ms) e m depth) (start_of dim e depth) (stride_of dim e)
unfolding edge_dark dark
edge_lies dim Top m depth ms p q l = along-row ms m (depth * dim) (place-fits depth dim m l p q)
edge_lies dim Right m depth ms p q l = along-column ms m (dim - 1 - depth) dim (place-fits m dim (dim - 1 - depth) q p (omega arith))
edge_lies dim Bottom m depth ms p q l = along-row ms m ((dim - 1 - depth) * dim) (place-fits (dim - 1 - depth) dim m (omega arith) p q)
edge_lies dim Left m depth ms p q l = along-column ms m depth dim (place-fits m dim depth q p l)

module _ (dim : ℕ) (e : LabelEdge) (m : ℕ) (ms : List ℕ) {first step : ℕ} (step_lies : step ≡ stride_of dim e) (p : dim ≤ 4294967295) (q : m ≤ 4294967295) where
  lies : (depth : ℕ) → depth ≤ 4294967295 → first ≡ start_of dim e depth → Lies ms m (edge_dark (grid_of dim ms) e m depth) first step
  lies depth l h = rw (h, step_lies) (edge_lies dim e m depth ms p q l)

  pub border_lies : first ≡ start_of dim e 0 → Lies ms m (border_dark (grid_of dim ms) e m) first step
  border_lies = lies 0 (omega arith)

  pub inward_lies : first ≡ start_of dim e 1 → Lies ms m (inward_dark (grid_of dim ms) e m) first step
  inward_lies = lies 1 (omega arith)
