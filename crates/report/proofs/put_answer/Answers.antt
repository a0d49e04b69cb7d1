-- `report::put_answer` meets its contract: behind the number 0 stand the lines of corners and edges. Assumes nothing.
use Rattle.std.proofs.Common.{rules}
use Rattle.report.proofs.Answers.{all_lines}
use Rattle.report.proofs.put_answer.Goals as goal

pub returns-then-answer-eq-ANSWER : goal.returns-then-answer-eq-ANSWER
returns-then-answer-eq-ANSWER c = all_lines c.args.answer c.if-answer-eq-ANSWER.true c.put_result.ensures c.put_corners.ensures c.put_edges.ensures (search rules)
