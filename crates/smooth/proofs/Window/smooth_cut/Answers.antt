-- `Window::smooth_cut` meets its contract: each answer is a law of `Sliding` at a record of the loop. Assumes nothing.
use mathlib.Core.Path.{◌≡◌}
use Prim.Native.Nat.{◌<◌}
use native.Mathlib.Omega.{arith}
use lib.ListN.{length}
use Rattle.smooth.proofs.Sliding.{slides_long, slides_more, entered_most, leaving_fits}
use Rattle.smooth.proofs.Window.smooth_cut.Goals as goal

pub overflow_add-total : goal.overflow_add-total
overflow_add-total c =
    let s = c.requires.0 in
    let inside : c.loop-i.i < length s.0 = omega (arith, slides_long s.1) in
    record { fits = omega (arith, entered_most c.args.self.few inside (c.loop-i.invariant s.0 s.1)) }

pub mean-requires : goal.mean-requires
mean-requires c =
    let s = c.requires.0 in
    let inside : c.loop-i.i < length s.0 = omega (arith, slides_long s.1) in
    (omega arith, omega arith, omega (arith, slides_long s.1, entered_most c.args.self.few inside (c.loop-i.invariant s.0 s.1)))

pub overflow_sub-total : goal.overflow_sub-total
overflow_sub-total c =
    let s = c.requires.0 in
    let inside : c.loop-i.i < length s.0 = omega (arith, slides_long s.1) in
    omega (arith, c.leaving-total.ensures, leaving_fits c.args.self.few inside (c.loop-i.invariant s.0 s.1))

pub loop-i-preserved : goal.loop-i-preserved
loop-i-preserved c = λ before s.
    let inside : c.loop-i.i < length before = omega (arith, slides_long s) in
    rw (c.height_at-total.ensures.0, c.leaving-total.ensures)
    (slides_more c.args.self.few inside (c.loop-i.invariant before s) c.mean.result
    (rw (← c.height_at-total.ensures.0, ← slides_long s, ← c.count_at.ensures) c.mean.ensures))

pub returns : goal.returns
returns c = λ before s.
    let end : c.loop-i.i ≡ c.args.to = omega arith in
    rw end at (c.loop-i.invariant before s)
