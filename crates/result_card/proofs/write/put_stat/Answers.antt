-- `result_card::write::put_stat` meets its contract: three counts are written, and behind them whether the edge is valid. Assumes nothing.
use Rattle.std.proofs.Common.{rules}
use Rattle.fields.proofs.Writes.{then}
use Rattle.result_card.proofs.write.put_stat.Goals as goal

pub returns : goal.returns
returns c = then (then (then c.put_count.ensures c.put_count-2.ensures) c.put_count-3.ensures) (search (rules, c.put.ensures))
