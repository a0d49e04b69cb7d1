-- `localize_edge_point` meets its contract: what `localize` finds is what its step is worth. Assumes nothing.
use Rattle.sample_tree.proofs.Samplers.{samples_value}
use mathlib.Core.Path.{◌∙◌}
use Rattle.edge_point.proofs.localize_edge_point.Goals as goal

pub returns : goal.returns
returns c = c.ok_or.ensures.value ∙ rw (← c.in_ok-check_entry.ensures, ← samples_value c.localize-point.ensures)
