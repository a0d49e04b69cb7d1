-- An edge's fit under the default settings, and what is written of it: zeros where there is none. Definitions only, to be
-- believed.
use Rattle.std.specs.Prelude.{ℕ, List, take, Float, None, Result, unwrap_or}
use Rattle.std.specs.Result.{result_unwrap_or}
use Rattle.number.specs.declared.Refusal.{Refusal}
use Rattle.consts.specs.Consts.{defaults, max_edge_points}
use Rattle.line.specs.declared.Line2.{Line2}
use Rattle.fit.specs.declared.EdgeFit.{EdgeFit}
use Rattle.fit.specs.Fit.{edge_fit, fit_edge, points_of}
use Rattle.edges.specs.Edges.{no_stat}
use Rattle.c_buffers.specs.Buffers.{zero_line}

abbrev pub edge_of : List Float → List Float → List Float → ℕ → Float → Result EdgeFit Refusal
edge_of xs ys ws probed side = fit_edge defaults probed side (take max_edge_points (points_of xs ys ws))

abbrev pub written : Result EdgeFit Refusal → EdgeFit
written fit = result_unwrap_or fit (edge_fit None no_stat)

abbrev pub line_written : Result EdgeFit Refusal → Line2
line_written fit = unwrap_or (written fit).line zero_line
