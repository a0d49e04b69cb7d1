-- `report::put_corners` meets its contract. The loop's invariant: the lines below i are written. Assumes nothing.
use mathlib.Core.Bool.{false}
use lib.ListN.{get_or}
use Rattle.pixel.specs.Pixels.{corner}
use Rattle.fields.specs.Output.{Writes}
use Rattle.report.specs.Lines.{corner_line, each_below}
use Rattle.report.proofs.put_corners.Given as goal

abbrev pub invariant-loop-i : goal.invariant-loop-i
invariant-loop-i l = Writes l.initial.out l.out (each_below l.i (λ i. corner_line i (corner l.r.corners i) (get_or l.r.corner_refined i false)))
