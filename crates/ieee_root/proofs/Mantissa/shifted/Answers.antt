-- `ieee_root::Mantissa::shifted` meets its contract: `Scaled.antt` has the bounds. Assumes nothing.
use Rattle.ieee_root.proofs.Scaled.{shifted}
use Rattle.ieee_root.proofs.Mantissa.shifted.Goals as goal

pub invariant_of-result : goal.invariant_of-result
invariant_of-result c =
    let h = shifted c.args.self.digits c.args.p c.requires.parity c.args.self.normal.0 c.args.self.normal.1 in
    record { bounds = (h.1, h.2) }
