-- `Window::smooth_whole` meets its contract: each answer is a law of `Sliding` at a record of the loop, whose window has twice its reach and one more.
-- Assumes nothing.
use mathlib.Core.Path.{◌≡◌}
use Prim.Native.Nat.{◌+◌, ◌-◌, ◌*◌, ◌<◌, min}
use native.Mathlib.Omega.{arith}
use lib.ListN.{length}
use Rattle.smooth.proofs.Sliding.{slides_long, slides_more, entered_most, leaving_fits}
use Rattle.smooth.proofs.Window.smooth_whole.Goals as goal

pub overflow_add-total-in-loop-i : goal.overflow_add-total-in-loop-i
overflow_add-total-in-loop-i c =
    let s = c.requires.0 in
    let room = c.requires.2 (omega arith) in
    let inside : c.loop-i.i < length s.0 = omega (arith, room.1, slides_long s.1) in
    record { fits = omega (arith, entered_most c.args.self.few inside (c.loop-i.invariant s.0 s.1)) }

pub mean-requires : goal.mean-requires
mean-requires c =
    let s = c.requires.0 in
    let room = c.requires.2 (omega arith) in
    let inside : c.loop-i.i < length s.0 = omega (arith, room.1, slides_long s.1) in
    (omega arith, omega arith, omega (arith, room.0, room.1, slides_long s.1, entered_most c.args.self.few inside (c.loop-i.invariant s.0 s.1)))

pub overflow_sub-total : goal.overflow_sub-total
overflow_sub-total c =
    let s = c.requires.0 in
    let room = c.requires.2 (omega arith) in
    let inside : c.loop-i.i < length s.0 = omega (arith, room.1, slides_long s.1) in
    omega (arith, c.leaving-total.ensures, leaving_fits c.args.self.few inside (c.loop-i.invariant s.0 s.1))

pub loop-i-preserved : goal.loop-i-preserved
loop-i-preserved c = λ before s.
    let reach = c.args.self.reach in
    let room = c.requires.2 (omega arith) in
    let inside : c.loop-i.i < length before = omega (arith, room.1, slides_long s) in
    let whole : min (c.loop-i.i + reach + 1) (length before) - (c.loop-i.i - reach) ≡ 2 * reach + 1 = omega (arith, room.0, room.1, slides_long s) in
    rw c.leaving-total.ensures (slides_more c.args.self.few inside (c.loop-i.invariant before s) c.mean.result (rw whole c.mean.ensures))

pub returns : goal.returns
returns c = λ before s.
    let end : c.loop-i.i ≡ c.args.to = omega arith in
    rw end at (c.loop-i.invariant before s)
