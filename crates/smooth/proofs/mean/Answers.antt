-- `smooth::mean`: the product and the shift give the quotient. Assumes nothing.
use Rattle.smooth.proofs.Inverses.{mean_is, mean_fits}
use Rattle.smooth.proofs.mean.Goals as goal

pub overflow_cast-result-2 : goal.overflow_cast-result-2
overflow_cast-result-2 c =
    record { fits = mean_fits c.args.total c.args.count c.inverse_of.result c.requires.0 c.requires.1 c.requires.2 c.inverse_of.ensures }

pub returns : goal.returns
returns c = mean_is c.args.total c.args.count c.inverse_of.result c.requires.0 c.requires.1 c.requires.2 c.inverse_of.ensures
