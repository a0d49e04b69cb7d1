-- `probes::probes_of` meets its contract: every k-th candidate, k as `decimation` gives it for their number, is what decimating them leaves. Assumes nothing.
use mathlib.Core.Path.{◌∙◌}
use Rattle.probes.proofs.Decimated.{selected}
use Rattle.probes.proofs.probes_of.Goals as goal

pub returns : goal.returns
returns c =
    let side = c.new-side.ensures in
    selected _ _ _ _ _ _ (rw side.settings c.min-most.ensures) c.count_candidates-n.ensures c.decimation.ensures
    ∙ rw (side.settings, side.modules, side.dim, side.edge, c.from.ensures)
