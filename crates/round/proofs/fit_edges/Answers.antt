-- `fit_edges` meets its contract. The loop's invariant: what is left of the tree are the edges from `e` on. Assumes nothing.
use mathlib.Core.Path.{◌≡◌, sym, ◌∙◌}
use Rattle.std.specs.Prelude.{Err}
use Rattle.std.proofs.Common.{rules}
use Rattle.edges.proofs.Fits.{put_where-ok, refused_where-err}
use Rattle.round.proofs.EdgeByEdge.{next_edge, edge_stops, all-fitted}
use Rattle.round.proofs.fit_edges.Goals as goal

pub returns-in_err-edges-clause-answer : goal.returns-in_err-edges-clause-answer
returns-in_err-edges-clause-answer c =
    let refused : c.from_residual.result ≡ Err c.in_err-edges.field-0.0 = search rules in
    let stopped = refused_where-err _ _ _ (sym c.with.ensures ∙ c.in_err-edges.was) in
    rw refused (edge_stops _ _ _ _ _ c.loop-e-test.true c.loop-e.invariant.0 c.side_of.ensures c.refine_edge-fit.ensures.answer stopped)

pub loop-e-preserved : goal.loop-e-preserved
loop-e-preserved c =
    let fitted = put_where-ok _ _ _ (sym c.with.ensures ∙ c.in_ok-edges.was) in
    (next_edge _ _ _ _ _ c.loop-e-test.true c.loop-e.invariant.0 c.side_of.ensures c.refine_edge-fit.ensures.answer fitted.1 fitted.2, c.refine_edge-fit.ensures.left)

pub returns-clause-answer : goal.returns-clause-answer
returns-clause-answer c = all-fitted _ _ _ _ _ c.loop-e-test.false c.loop-e.invariant.0
