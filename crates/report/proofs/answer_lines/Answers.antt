-- `report::answer_lines` meets its contract: the lines fit the buffer. Assumes nothing.
use mathlib.Core.Path.{◌≡◌, ◌∙◌}
use native.Mathlib.Omega.{arith}
use lib.ListN.{length}
use lib.Seq.{sets}
use Rattle.report.specs.Lines.{numbered_lines}
use Rattle.report.proofs.Lines.{whole_numbered, puts_answer}
use Rattle.report.proofs.answer_lines.Goals as goal

pub returns : goal.returns
returns g c =
    let given = c.into-given.result in
    let new = c.new-out.ensures in
    let put = c.put_answer.ensures in
    let wrote : c.put_answer.new.out.buffer.now ≡ sets c.args.buffer.now 0 (numbered_lines given) = put.wrote ∙ rw (new.bytes, new.at) in
    let long : length c.new-out.result.buffer.now ≡ 1024 = rw new.bytes (omega arith) in
    let both = whole_numbered given _ _ _ (omega arith) wrote (omega (arith, put.on, new.at, long)) in
    record {
      prefix_len = both.0;
      numbered = (given, c.into-given.ensures, both.1);
      puts = λ a is. puts_answer a (is given c.into-given.ensures) both.1;
    }
