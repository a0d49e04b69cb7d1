-- `report::put_edges` meets its contract. The loop's invariant: the lines below i are written. Assumes nothing.
use native.Mathlib.Numerals.{add-one}
use Rattle.fields.proofs.Writes.{none, then}
use Rattle.report.proofs.put_edges.Goals as goal

pub loop-i-init : goal.loop-i-init
loop-i-init c = none

pub loop-i-preserved : goal.loop-i-preserved
loop-i-preserved c = rw add-one (then c.loop-i.invariant c.put_edge.ensures)
