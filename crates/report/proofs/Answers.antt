-- What is written of an answer whose number is 0: the lines of its corners and edges behind the first. Assumes nothing.
use mathlib.Core.Path.{◌≡◌, ◌∙◌}
use Prim.Native.Nat.{ℕ}
use Rattle.number.specs.Numbers as number
use Rattle.fields.specs.declared.output.Output.{Output}
use Rattle.fields.specs.Output.{Writes}
use Rattle.fields.proofs.Writes.{then}
use Rattle.corners.specs.declared.NumberedAnswer.{NumberedAnswer}
use Rattle.report.specs.Lines.{result_line, corner_lines, edge_lines, numbered_lines}

pub all_lines : {before after corners edges : Output} {n : ℕ} (a : NumberedAnswer) → a.number ≡ number.answer
    → Writes before after (result_line n) → Writes after corners (corner_lines a.refined) → Writes corners edges (edge_lines a.refined)
    → n ≡ a.number → Writes before edges (numbered_lines a)
all_lines a zero first second third same = rw zero (then (rw (same ∙ zero) at first) (then second third))
