-- How many samples a step can take, whatever the photograph shows: a bound by the tree's shape, which adds up over bound steps. And what the
-- meter says of a run that 64 bits count. By induction on the tree. Assumes nothing.
use mathlib.Core.Path.{◌≡◌, sym, ap, ◌∙◌, subst}
use Prim.Native.Nat.{ℕ, zero, suc, ◌+◌, ◌≤◌, zero-le, suc-le-suc}
use native.Mathlib.Nat.{suc-add, add-suc}
use Rattle.pixel.specs.declared.SourcePixel.{SourcePixel}
use Rattle.photograph.specs.Photographs.{Photo}
use Rattle.footprint.specs.declared.Scene.{Scene}
use Rattle.std.specs.Prelude.{Option, None, Some}
use lib.Ieee.{Float}
use Rattle.footprint.specs.Footprints.{scene_footprint}
use Rattle.sampling.specs.Sampling.{interpolate}
use Rattle.sample_tree.specs.declared.Meter.{Meter}
use Rattle.sample_tree.specs.SampleTree.{SampleTree, done, sample, one_sample, ◌>>=◌, sample_count}
use Rattle.sample_tree.specs.Options.{on_some}
use Rattle.sample_tree.specs.Run.{State, sampler, Runs}
use Rattle.sample_tree.proofs.Counts.{ticks_count}
use Rattle.sample_tree.proofs.Meaning.{ran-counts}

unfoldable pub AtMost : {A : Type 0} → ℕ → SampleTree A → Type 0
AtMost n (done a) = Unit {0}
AtMost zero (sample q k) = ⊥
AtMost (suc n) (sample q k) = (r : Option Float) → AtMost n (k r)

pub taken_most : {A : Type 0} (e : Scene) (p : Photo) (n : ℕ) (t : SampleTree A) → AtMost n t → sample_count e p t ≤ n
unfolding AtMost sample_count
taken_most e p n (done a) h = zero-le
taken_most e p zero (sample q k) h = absurd h
taken_most e p (suc n) (sample q k) h = suc-le-suc (taken_most e p n (k (interpolate p (scene_footprint e q))) (h (interpolate p (scene_footprint e q))))

pub most-done : {A : Type 0} (n : ℕ) (a : A) → AtMost n (done a)
unfolding AtMost
most-done n a = tt

pub most-sample : {A : Type 0} (n : ℕ) (q : _) (k : Option Float → SampleTree A) → ((r : Option Float) → AtMost n (k r)) → AtMost (suc n) (sample q k)
unfolding AtMost
most-sample n q k h = h

pub most_more : {A : Type 0} (m n : ℕ) (t : SampleTree A) → AtMost n t → AtMost (m + n) t
unfolding AtMost
most_more m n (done a) h = tt
most_more m zero (sample q k) h = absurd h
most_more m (suc n) (sample q k) h = subst (λ (l : ℕ). AtMost l (sample q k)) (sym (add-suc m n)) (λ r. most_more m n (k r) (h r))

pub most_bind : {A B : Type 0} (m n : ℕ) (t : SampleTree A) (f : A → SampleTree B) → AtMost m t → ((a : A) → AtMost n (f a)) → AtMost (m + n) (t >>= f)
unfolding AtMost ◌>>=◌
most_bind m n (done a) f h g = most_more m n (f a) (g a)
most_bind zero n (sample q k) f h g = absurd h
most_bind (suc m) n (sample q k) f h g =
    subst (λ (l : ℕ). AtMost l (sample q (λ r. k r >>= f))) (sym (suc-add m n)) (λ r. most_bind m n (k r) f (h r) g)

pub most_one : (q : SourcePixel) → AtMost 1 (one_sample q)
most_one q = most-sample 0 q (λ r. done r) (λ r. most-done 0 r)

-- where the first may end in nothing
pub most_bind-some : {A B : Type 0} (m n : ℕ) (t : SampleTree (Option A)) (f : A → SampleTree (Option B)) → AtMost m t → ((a : A) → AtMost n (f a)) → AtMost (m + n) (t >>= on_some f)
most_bind-some {B = B} m n t f h g = most_bind m n t (on_some f) h each
  where
    each : (r : Option _) → AtMost n (on_some f r)
    each None = most-done n None
    each (Some a) = g a

-- a run that 64 bits count is counted
pub counted : {A : Type 0} (e : Scene) (p : Photo) {t : SampleTree A} {r : A} {s s' : State} → Runs (sampler e p) t r s s'
    → s.meter.tried + sample_count e p t ≤ 18446744073709551615 → s'.meter.tried ≡ s.meter.tried + sample_count e p t
counted e p {t = t} {s = s} h l = ap (λ (z : Meter). z.tried) (ran-counts e p h) ∙ ticks_count (sample_count e p t) s.meter l
