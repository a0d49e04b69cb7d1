-- `ieee_whole::split_between` meets its contract: a guess whose rest has a square below it, and the digits where it does not. Assumes nothing.
use Rattle.std.proofs.Common.{arith}
use Rattle.ieee_whole.proofs.WholeGuess.{between_at}
use Rattle.ieee_whole.proofs.split_between.Goals as goal

pub returns-then-left : goal.returns-then-left
returns-then-left c =
    let guess = c.whole_guess-guess in
    between_at guess.result c.args.x (omega (arith, guess.type_inv)) c.if-left.true
