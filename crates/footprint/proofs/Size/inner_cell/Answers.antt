-- `Size::inner_cell` meets its contract: both coordinates lie between whole numbers. Assumes nothing.
use Rattle.std.proofs.Common.{arith}
use Rattle.footprint.proofs.Inner.{inner_cell}
use Rattle.footprint.proofs.Size.inner_cell.Goals as goal

pub returns : goal.returns
returns c = inner_cell _ _ (omega arith) (omega arith) _ _ c.requires c.in_ok-across.ensures c.in_ok-down.ensures
