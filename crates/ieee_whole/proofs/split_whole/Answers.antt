-- `ieee_whole::split_whole` meets its contract: a guess that passes the test, and the digits where it does not. Assumes nothing.
use Rattle.std.proofs.Common.{arith}
use Rattle.ieee_whole.proofs.WholeGuess.{accepted, split_at}
use Rattle.ieee_whole.proofs.split_whole.Goals as goal

pub returns-then-left : goal.returns-then-left
returns-then-left c =
    let guess = c.whole_guess-guess in
    let x = c.args.x in
    split_at x (accepted guess.result x (omega (arith, guess.type_inv)) c.if-guess-x.true c.if-left.true)
