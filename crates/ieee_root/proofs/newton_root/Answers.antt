-- `ieee_root::newton_root` meets its contract: the pattern that it begins with is below the infinity's. Assumes nothing.
use Prim.Native.Nat.{◌-◌, ◌/◌}
use native.Mathlib.Omega.{arith}
use Rattle.ieee.proofs.Patterns.{no_nan_small}
use Rattle.ieee_root.proofs.newton_root.Goals as goal

pub float_from_bits-y0 : goal.float_from_bits-y0
float_from_bits-y0 c = no_nan_small (0x5fe6_eb50_c7b5_37a9 - c.args.b / 2) (omega arith)
