-- `Edge::next_candidate` meets its contract. The loop's invariant: what is left from place j on, behind `left` candidates, is what was sought.
use mathlib.Core.Path.{◌≡◌}
use lib.ListN.{drop}
use Rattle.grid.specs.Grids.{grid_of}
use Rattle.probes.specs.Places.{onward}
use Rattle.probes.proofs.Edge.next_candidate.Given as goal

abbrev pub invariant-loop-j : goal.invariant-loop-j
invariant-loop-j l =
    let g = grid_of l.self.dim l.self.modules.now in
    drop l.left (onward l.self.settings g l.self.edge l.j) ≡ drop l.skip (onward l.self.settings g l.self.edge l.from)
