-- `localize_by` meets its contract. The invariant of each loop is what is left of the tree: of the profile after k samples, of the point after so many passes.
-- A rejected sample and a profile without a peak end it. Assumes nothing.
use native.Mathlib.Omega.{arith}
use Rattle.std.specs.Prelude.{None}
use lib.ListN.{length-set}
use Rattle.profile.proofs.SampleProfile.{none_sampled, one_sampled, sample-rejected, all_sampled}
use Rattle.profile.proofs.Passes.{pass-rejected, no-peak, one_passed, all_passed}
use Rattle.profile.proofs.localize_by.Goals as goal

pub loop-k-init : goal.loop-k-init
loop-k-init c = (c.loop-pass.invariant.0, none_sampled _ _ _ c.loop-pass.samples)

pub loop-k-preserved : goal.loop-k-preserved
loop-k-preserved c =
    let inv = c.loop-k.invariant in
    let t = c.loop-k-test.true in
    let p = c.loop-pass.point.pos in
    (simp length-set inv.0, one_sampled _ _ _ _ t inv.1 (c.places-places.ensures _ p t) (c.carried_through-carried.ensures _ p None t) c.sample.ensures inv.0 c.in-Some.is)

pub loop-pass-preserved : goal.loop-pass-preserved
loop-pass-preserved c =
    let i = c.loop-k.invariant in
    let inv = c.loop-pass.invariant in (
      i.0,
      simp length-set inv.1,
      one_passed _ _ _ _ _ c.loop-pass-test.true inv.2 _ (all_sampled _ _ _ _ (omega arith) i.0 i.1) c.find_peak.ensures inv.1 c.in-Some-find_peak.is c.offset_along.ensures
          c.projection.ensures,
    )

pub returns : goal.returns
returns c =
    let inv = c.loop-pass.invariant in
    all_passed _ _ _ _ _ (omega arith) inv.1 inv.2 c.aitken.ensures

pub returns-in_default : goal.returns-in_default
returns-in_default c =
    let inv = c.loop-k.invariant in
    let t = c.loop-k-test.true in
    let p = c.loop-pass.point.pos in
    pass-rejected _ _ _ _ _ c.loop-pass-test.true c.loop-pass.invariant.2
    (sample-rejected _ _ _ _ t inv.1 (c.places-places.ensures _ p t) (c.carried_through-carried.ensures _ p None t) c.sample.ensures c.in_default.is)

pub returns-in_default-find_peak : goal.returns-in_default-find_peak
returns-in_default-find_peak c =
    let i = c.loop-k.invariant in
    no-peak _ _ _ _ _ c.loop-pass-test.true c.loop-pass.invariant.2 _ (all_sampled _ _ _ _ (omega arith) i.0 i.1) c.find_peak.ensures c.in_default-find_peak.is
