-- `localize_by` meets its contract. The invariant of each loop is what is left of the tree: of the profile after k samples, of the point after so many passes.
use mathlib.Core.Path.{◌≡◌}
use lib.ListN.{length}
use Rattle.profile.proofs.SampleProfile.{Sampled}
use Rattle.profile.proofs.Passes.{Passed}
use Rattle.profile.proofs.localize_by.Given as goal

abbrev pub invariant-loop-k : goal.invariant-loop-k
invariant-loop-k l =
    (length l.samples ≡ 7) × Sampled l.normal l.step l.center l.initial.sampler l.sampler l.k l.samples

abbrev pub invariant-loop-pass : goal.invariant-loop-pass
invariant-loop-pass l =
    (length l.samples ≡ 7) × (length l.xs ≡ 3) × Passed l.settings l.ray l.initial.point l.initial.sampler l.sampler l.pass l.point l.xs
