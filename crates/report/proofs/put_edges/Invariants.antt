-- `report::put_edges` meets its contract. The loop's invariant: the lines below i are written. Assumes nothing.
use mathlib.Core.Bool.{false}
use lib.ListN.{get_or}
use Rattle.fit.specs.Fit.{stat}
use Rattle.fields.specs.Output.{Writes}
use Rattle.report.specs.Lines.{edge_line, each_below}
use Rattle.report.proofs.put_edges.Given as goal

abbrev pub invariant-loop-i : goal.invariant-loop-i
invariant-loop-i l = Writes l.initial.out l.out (each_below l.i (λ i. edge_line i (get_or l.r.edge_stats i (stat 0 0 0 false))))
