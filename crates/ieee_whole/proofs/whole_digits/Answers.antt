-- `ieee_whole::whole_digits` meets its contract: above the range, and within it. Assumes nothing.
use Rattle.std.proofs.Common.{◌∙◌, arith}
use Rattle.ieee_whole.proofs.Trimmed.{capped, between}
use Rattle.ieee_whole.proofs.whole_digits.Goals as goal

pub returns-then-x : goal.returns-then-x
returns-then-x c = capped c.args.x c.if-x.true

pub truncating_f64_to_u64-requires : goal.truncating_f64_to_u64-requires
truncating_f64_to_u64-requires c = let b = between c.args.x c.requires c.if-x.false in record { lower_bound = b.over; upper_bound = b.under }

pub overflow_cast-result : goal.overflow_cast-result
overflow_cast-result c = let b = between c.args.x c.requires c.if-x.false in omega (arith, b.fits, c.truncating_f64_to_u64.ensures)

pub returns : goal.returns
returns c = let b = between c.args.x c.requires c.if-x.false in c.truncating_f64_to_u64.ensures ∙ b.same
