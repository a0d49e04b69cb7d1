-- `ieee_whole::whole_guess` meets its contract: the sum is a number, and the mask leaves 32 digits. Assumes nothing.
use lib.Ieee.{of_bits}
use Rattle.ieee_whole.proofs.Trimmed.{sum-is-number}
use Rattle.ieee_whole.proofs.whole_guess.Goals as goal

pub float_to_bits-result : goal.float_to_bits-result
unfolding of_bits
float_to_bits-result c = sum-is-number c.args.x _ _ _ c.requires
