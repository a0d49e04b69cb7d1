-- `line_fit::weighted_sum`: the total is the sum of the terms up to i. Assumes nothing.
use mathlib.Core.Path.{◌≡◌}
use Rattle.ieee.specs.Floats.{◌⊗◌}
use Rattle.float_lists.specs.Sums.{at, sum_to}
use Rattle.line_fit.proofs.weighted_sum.Given as goal

abbrev pub invariant-loop-i : goal.invariant-loop-i
invariant-loop-i l = l.total ≡ sum_to l.i (λ k. at l.values k ⊗ at l.weights k)
