-- `read_sample` meets its contract: a case for each footprint, whose fourth pixel is its last. Assumes nothing.
use Rattle.sampling.specs.Sampling.{Ordered}
use Rattle.footprint.specs.declared.Footprint.{Footprint}
use mathlib.Core.Path.{subst}
use Rattle.sampling.proofs.Interpolation.{reads_rejected, reads_border, reads_cell}
use Rattle.sampling.proofs.read_sample.Goals as goal

pub invariant_of-cell : goal.invariant_of-cell
invariant_of-cell c = record { ordered = subst (λ (z : Footprint). Ordered z) c.in-Cell.is c.requires }

pub returns-in-Rejected : goal.returns-in-Rejected
returns-in-Rejected c = reads_rejected _ _ _ c.in-Rejected.is

pub returns-in-Border : goal.returns-in-Border
returns-in-Border c = reads_border _ _ _ c.in-Border.is

pub returns-in-Cell : goal.returns-in-Cell
returns-in-Cell c =
    reads_cell _ _ _ _ _ _ _ _ _ c.in-Cell.is c.cell_at-bytes.ensures c.mark_cell.ensures c.bilinear_of.ensures
