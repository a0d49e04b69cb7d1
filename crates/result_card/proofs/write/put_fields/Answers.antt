-- `result_card::write::put_fields` meets its contract: six pieces, one behind the other, are the card. Assumes nothing.
use mathlib.Core.Path.{◌≡◌}
use lib.ListN.{length}
use Rattle.std.proofs.Common.{rules}
use Rattle.prelude.proofs.Lists.{length_mapped}
use Rattle.fields.proofs.Writes.{then}
use Rattle.result_card.proofs.CardLayout.{laid_out, length-result}
use Rattle.result_card.proofs.write.put_fields.Goals as goal
use Rattle.result_card.proofs.write.put_fields.Goals.{Start}

four_corners : (start : Start) → length start.args.r.corners ≡ 4
four_corners start = search (rules, length_mapped)

four_stats : (start : Start) → length start.args.r.edge_stats ≡ 4
four_stats start = search (rules, length_mapped)

four_flags : (start : Start) → length start.args.r.corner_refined ≡ 4
four_flags start = search rules

pub returns : goal.returns
returns c =
    let start = (goal.at.returns c).Start in
    let r = start.args.r in
    let f = start.args.form in
    record {
      card = rw (laid_out f r (four_corners start) (four_stats start) (four_flags start))
          (rw (c.tag.ensures, c.stat_size.ensures.0) at (then c.put_header.ensures (then c.put_corners.ensures (then c.put_header-2.ensures (then c.put_stats.ensures (then c.put_header-3.ensures c.put_flags.ensures))))));
      len = length-result f r (four_corners start) (four_stats start) (four_flags start);
    }
