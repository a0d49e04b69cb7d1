-- `result_card::write::put_result` meets its contract: a buffer that is too short is left, and the card is written to another one. Assumes nothing.
use mathlib.Core.Path.{◌≡◌, sym, ◌∙◌}
use native.Mathlib.Omega.{arith}
use Prim.Native.Nat.{◌≤◌}
use borrow.Author.Tests.{le-leb}
use lib.ListN.{length}
use lib.Seq.{sets}
use Rattle.std.proofs.Common.{rules}
use Rattle.result_card.specs.declared.form.Form.TheVariants.{Newer}
use Rattle.result_card.specs.ResultCard.{result_card}
use Rattle.result_card.proofs.CardLayout.{at_front}
use Rattle.result_card.proofs.write.put_result.Goals as goal

pub returns-then-out-size : goal.returns-then-out-size
returns-then-out-size c =
    let new = c.new-card.ensures in
    let put = c.put_fields.ensures.card in
    let card = result_card Newer c.args.r in
    let room : 105 ≤ length c.args.out.now = omega (arith, c.size.ensures.0, c.if-out-size.true) in
    let same = sym (put.same ∙ new.same) in
    let wrote : c.put_fields.new.out.buffer.now ≡ sets c.args.out.now 0 card = put.wrote ∙ rw (new.bytes, new.at) in
    rw (le-leb 105 (length c.args.out.now) room) (at_front card _ _ 105 c.put_fields.ensures.len room (search (rules, same, wrote)))
