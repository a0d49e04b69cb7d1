-- An edge is valid exactly where it has a line: of a round's edges so far where it is of the fit of each, so that as many are
-- valid as have a line. Assumes nothing.
use mathlib.Core.Path.{◌≡◌, refl}
use Prim.Native.Nat.{ℕ, zero, suc, ◌+◌}
use mathlib.Core.Bool.{cond}
use mathlib.Core.List.{List, [], ◌∷◌}
use lib.ListN.{set}
use Rattle.std.specs.Prelude.{Option, is_some, count_by, fold}
use Rattle.line.specs.declared.Line2.{Line2}
use Rattle.fit.specs.declared.EdgeStat.{EdgeStat}
use Rattle.fit.specs.declared.EdgeFit.{EdgeFit}
use Rattle.edges.specs.declared.Edges.{Edges}
use Rattle.edges.specs.Edges.{no_edges, with_edge}

pub data Valid : List (Option Line2) → List EdgeStat → Type 0 where
  none : Valid [] []
  more : {l : Option Line2} {s : EdgeStat} {ls : List (Option Line2)} {ss : List EdgeStat} → s.valid ≡ is_some l → Valid ls ss → Valid (l ∷ ls) (s ∷ ss)

pub no_edges_valid : Valid no_edges.lines no_edges.edge_stats
no_edges_valid = more refl (more refl (more refl (more refl none)))

set_valid : (e : ℕ) (l : Option Line2) (s : EdgeStat) {ls : List (Option Line2)} {ss : List EdgeStat} → s.valid ≡ is_some l → Valid ls ss → Valid (set ls e l) (set ss e s)
set_valid e l s h none = none
set_valid zero l s h (more k v) = more h v
set_valid (suc e) l s h (more k v) = more k (set_valid e l s h v)

pub with_edge_valid : (e : ℕ) (got : Edges) (f : EdgeFit) → f.stat.valid ≡ is_some f.line → Valid got.lines got.edge_stats → Valid (with_edge e got f).lines (with_edge e got f).edge_stats
with_edge_valid e got f h v = set_valid e f.line f.stat h v

counted : (n : ℕ) {ls : List (Option Line2)} {ss : List EdgeStat} → Valid ls ss
    → fold (λ (m : ℕ) (l : Option Line2). m + cond (is_some l) 1 0) n ls ≡ fold (λ (m : ℕ) (s : EdgeStat). m + cond s.valid 1 0) n ss
counted n none = refl
counted n (more {l} h v) = rw h (counted (n + cond (is_some l) 1 0) v)

pub valid_count : {ls : List (Option Line2)} {ss : List EdgeStat} → Valid ls ss → count_by is_some ls ≡ count_by (λ (s : EdgeStat). s.valid) ss
valid_count v = counted 0 v
