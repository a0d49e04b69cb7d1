-- `line_fit::Points::scatter`: each of the three is the sum of its terms up to i. Assumes nothing.
use mathlib.Core.Path.{◌≡◌}
use Rattle.ieee.specs.Floats.{◌⊖◌, ◌⊗◌}
use Rattle.float_lists.specs.Sums.{at, sum_to}
use Rattle.line_fit.proofs.Points.scatter.Given as goal

abbrev pub invariant-loop-i : goal.invariant-loop-i
invariant-loop-i l =
    record {
      sxx : l.sxx ≡ sum_to l.i (λ k. at l.self.weights.now k ⊗ (at l.self.xs.now k ⊖ l.c.0) ⊗ (at l.self.xs.now k ⊖ l.c.0));
      sxy : l.sxy ≡ sum_to l.i (λ k. at l.self.weights.now k ⊗ (at l.self.xs.now k ⊖ l.c.0) ⊗ (at l.self.ys.now k ⊖ l.c.1));
      syy : l.syy ≡ sum_to l.i (λ k. at l.self.weights.now k ⊗ (at l.self.ys.now k ⊖ l.c.1) ⊗ (at l.self.ys.now k ⊖ l.c.1));
    }
