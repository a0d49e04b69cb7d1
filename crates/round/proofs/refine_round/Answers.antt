-- `refine_round` meets its contract: no map ends it, and else its edges are fitted and end it. Assumes nothing.
use mathlib.Core.Path.{◌≡◌, sym, ◌∙◌}
use Rattle.std.specs.Prelude.{Err}
use Rattle.std.proofs.Common.{rules}
use Rattle.corners.proofs.Ends.{ended_where-ok, refused_where-err}
use Rattle.round.proofs.Mapped.{no-map, edges_stop, edges_end}
use Rattle.round.proofs.refine_round.Goals as goal

pub returns-in_err-map-clause-answer : goal.returns-in_err-map-clause-answer
returns-in_err-map-clause-answer c =
    let refused : c.from_residual.result ≡ Err c.in_err-map.field-0.0 = search rules in
    rw refused (no-map _ _ _ c.square_to_quad.ensures c.in_err-map.was)

pub returns-in_err-round_end-clause-answer : goal.returns-in_err-round_end-clause-answer
returns-in_err-round_end-clause-answer c =
    let refused : c.from_residual-in_err-round_end.result ≡ Err c.in_err-round_end.field-0.0 = search rules in
    let stopped = refused_where-err c.args.q _ (sym c.round_end.ensures ∙ c.in_err-round_end.was) in
    rw refused (edges_stop _ _ _ c.square_to_quad.ensures c.in_ok-map.was c.fit_edges-edges.ensures.answer stopped)

pub returns-clause-answer : goal.returns-clause-answer
returns-clause-answer c =
    let ended = ended_where-ok c.args.q _ (sym c.round_end.ensures ∙ c.in_ok-round_end.was) in
    edges_end _ _ _ c.square_to_quad.ensures c.in_ok-map.was c.fit_edges-edges.ensures.answer ended.1 ended.2
