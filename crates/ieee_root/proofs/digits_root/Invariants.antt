-- `ieee_root::digits_root` meets its contract. `Digits.antt` says what the loop keeps. Assumes nothing.
use Prim.Native.Nat.{◌*◌}
use Rattle.ieee_root.proofs.Digits.{Down}
use Rattle.ieee_root.proofs.digits_root.Given as goal

abbrev pub invariant-loop-digit : goal.invariant-loop-digit
invariant-loop-digit l = Down (l.fn.a.value * 1024) l._digit l.q l.r l.rest
