-- `result_card::convert::put_converted` meets its contract: what stands before the counts, their field in the other form, and what stands behind them.
-- Assumes nothing.
use mathlib.Core.Path.{◌≡◌, sym}
use native.Mathlib.Omega.{arith}
use Prim.Native.Nat.{◌-◌}
use lib.ListN.{length, take, drop}
use Rattle.std.proofs.lemmas.List.{take_all, length-drop}
use Rattle.result_card.specs.ResultCard.{flags_at}
use Rattle.fields.proofs.Writes.{then, as_bytes}
use Rattle.result_card.proofs.Cards.{card_says, front_long, stats_long, length-converted}
use Rattle.result_card.proofs.convert.put_converted.Goals as goal

pub slice_bounds-put_part-end : goal.slice_bounds-put_part-end
slice_bounds-put_part-end c = sym (front_long c.args.from c.args.to c.args.card.now (card_says c.args.from c.args.card.now c.requires).long)

pub put_part-requires : goal.put_part-requires
put_part-requires c = omega (arith, front_long c.args.from c.args.to c.args.card.now (card_says c.args.from c.args.card.now c.requires).long)

pub returns-clause-card : goal.returns-clause-card
returns-clause-card c =
    let f = c.args.from in
    let g = c.args.to in
    let card = c.args.card.now in
    let long = (card_says f card c.requires).long in
    let rest : take (length card - flags_at f) (drop (flags_at f) card) ≡ drop (flags_at f) card =
    take_all (length card - flags_at f) (drop (flags_at f) card) (omega (arith, length-drop (flags_at f) card)) in
    rw (stats_long f g card long)
    (then (then c.put_part.ensures (then (rw (c.tag.ensures, c.stat_size.ensures.0) at c.put_header.ensures) (rw c.read_stats.ensures at c.put_stats.ensures))) (as_bytes rest (rw c.flags_at.ensures.0 at c.put_part-2.ensures)))

pub returns-clause-len : goal.returns-clause-len
returns-clause-len c = length-converted c.args.from c.args.to c.args.card.now (card_says c.args.from c.args.card.now c.requires).long
