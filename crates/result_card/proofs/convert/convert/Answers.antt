-- `result_card::convert::convert` meets its contract: the other card stands at the front, and behind it what was there. Assumes nothing.
use mathlib.Core.Path.{◌≡◌, sym, ◌∙◌}
use lib.Seq.{sets}
use Rattle.std.proofs.Common.{rules}
use Rattle.result_card.specs.Convert.{converted}
use Rattle.result_card.specs.ResultCard.{card_size}
use Rattle.result_card.proofs.CardLayout.{at_front}
use Rattle.result_card.proofs.convert.convert.Goals as goal

pub returns : goal.returns
returns c =
    let put = c.put_converted.ensures.card in
    let card = converted c.args.from c.args.to c.args.card.now in
    let same = sym (put.same ∙ c.new.ensures.same) in
    let wrote : c.put_converted.new.out.buffer.now ≡ sets c.args.out.now 0 card = put.wrote ∙ rw (c.new.ensures.bytes, c.new.ensures.at) in
    at_front card _ _ (card_size c.args.to) c.put_converted.ensures.len c.requires.1 (search (rules, same, wrote))
