-- `ieee_root::digits_root` meets its contract. `Digits.antt` says what the loop keeps. Assumes nothing.
use Prim.Native.Nat.{◌*◌, ◌^◌, ◌<◌}
use native.Mathlib.Omega.{arith}
use Rattle.ieee_root.proofs.Digits.{under, next_low, next_high}
use Rattle.ieee_root.proofs.digits_root.Goals as goal
use Rattle.ieee_root.proofs.digits_root.Goals.{In-loop-digit, then-d-t, else-d-t}

-- in the loop's body q is below 2 ^ 52, and so r is below 2 ^ 53
small : (c : In-loop-digit) → c.loop-digit.q < 2 ^ 52
small c = let l = c.loop-digit in under _ l._digit l.q l.r l.rest l.invariant c.loop-digit-test.true

pub overflow_mul-d : goal.overflow_mul-d
overflow_mul-d c = let h = small (goal.at.overflow_mul-d c).In-loop-digit in omega arith

pub overflow_add-d : goal.overflow_add-d
overflow_add-d c = let h = small (goal.at.overflow_add-d c).In-loop-digit in omega arith

pub overflow_mul-t : goal.overflow_mul-t
overflow_mul-t c = let h = small (goal.at.overflow_mul-t c).In-loop-digit in omega arith

pub overflow_add-t : goal.overflow_add-t
overflow_add-t c = let h = small (goal.at.overflow_add-t c).In-loop-digit in omega arith

pub loop-digit-preserved : goal.loop-digit-preserved
loop-digit-preserved c =
    let a = c.args.a.value in
    let l = c.loop-digit in
    let t = c.loop-digit-test.true in
    elim c.if-d-t.branch [
      | then-d-t w ↦ rw (w.q-is, w.r-is) (next_low (a * 1024) l._digit l.q l.r l.rest l.invariant t w.if-d-t.true)
      | else-d-t w ↦ rw (w.q-is, w.r-is) (next_high (a * 1024) l._digit l.q l.r l.rest l.invariant t w.if-d-t.false)
    ]
