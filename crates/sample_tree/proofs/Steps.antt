-- How a promise follows the code: a sample is taken or a callee runs a bound step, and what is left of the tree goes on to its end. These laws hold of every handler. A proof
-- of a function that samples uses them alone, and never looks at pixels or at what the state holds. Assumes nothing.
use mathlib.Core.Path.{◌≡◌, refl, sym, ap, ◌∙◌}
use Rattle.photograph.specs.Photographs.{Photo}
use Rattle.footprint.specs.declared.Scene.{Scene}
use Rattle.pixel.specs.declared.SourcePixel.{SourcePixel}
use Rattle.std.specs.Prelude.{Option, None, Some}
use Rattle.std.specs.Prelude.{Result, Ok, Err}
use lib.Ieee.{Float}
use Rattle.footprint.specs.Footprints.{scene_footprint}
use Rattle.sampling.specs.Marks.{Buffers, ReadsSample}
use Rattle.sample_tree.specs.declared.Meter.{Meter}
use Rattle.sample_tree.specs.Meters.{increment}
use Rattle.sample_tree.specs.SampleTree.{SampleTree, done, sample, one_sample, ◌>>=◌}
use Rattle.sample_tree.specs.Options.{on_some}
use Rattle.sample_tree.specs.Results.{on_ok}
use Rattle.sample_tree.specs.Run.{Ran, Handler, run, state, sampler, Runs}

-- a bound step: the second is run from where the first ends
pub run_bind : {S A B : Type 0} (ask : Handler S) (t : SampleTree A) (f : A → SampleTree B) (s : S)
    → run ask (t >>= f) s ≡ run ask (f (run ask t s).answer) (run ask t s).state
unfolding run ◌>>=◌
run_bind ask (done a) f s = refl
run_bind ask (sample q k) f s = run_bind ask (k (ask q s).answer) f (ask q s).state

-- t from s has come to u with s': what is left of t is u
pub record Leads {S A : Type 0} (ask : Handler S) (t : SampleTree A) (s : S) (u : SampleTree A) (s' : S) : Type 0 where
  pub leads : run ask t s ≡ run ask u s'

module _ {S A : Type 0} (ask : Handler S) where
  pub start : (t : SampleTree A) (s : S) → Leads ask t s t s
  start t s = record { leads = refl }

  pub then : {t u v : SampleTree A} {s s' s'' : S} → Leads ask t s u s' → Leads ask u s' v s'' → Leads ask t s v s''
  then f g = record { leads = f.leads ∙ g.leads }

  -- the end
  pub end : {t : SampleTree A} {a : A} {s s' : S} → Leads ask t s (done a) s' → Runs ask t a s s'
  unfolding run
  end f = record { runs = f.leads }

  -- and back
  pub at_end : {t : SampleTree A} {a : A} {s s' : S} → Runs ask t a s s' → Leads ask t s (done a) s'
  unfolding run
  at_end h = record { leads = h.runs }

  -- a call ran all that is left
  pub ended : {t u : SampleTree A} {a : A} {s s' s'' : S} → Leads ask t s u s' → Runs ask u a s' s'' → Runs ask t a s s''
  ended f h = record { runs = f.leads ∙ h.runs }

module _ {S A B : Type 0} (ask : Handler S) where
  -- a call ran the first step
  pub called : (t : SampleTree A) (f : A → SampleTree B) {r : A} {s s' : S} → Runs ask t r s s' → Leads ask (t >>= f) s (f r) s'
  called t f {s = s} h = record { leads = run_bind ask t f s ∙ ap (λ (z : Ran S A). run ask (f z.answer) z.state) h.runs }

module _ {S A : Type 0} (ask : Handler S) where
  -- a sample was taken
  pub sampled : (q : SourcePixel) (k : Option Float → SampleTree A) {r : Option Float} {s s' : S} → Runs ask (one_sample q) r s s' → Leads ask (sample q k) s (k r) s'
  unfolding ◌>>=◌
  sampled q k h = called ask (one_sample q) k h

-- a first step that found something, and one that found nothing
module _ {S A B : Type 0} (ask : Handler S) {s s' s'' : S} {t : SampleTree (Option A)} {r : Option B} (u : SampleTree (Option B)) (f : B → SampleTree (Option A))
    (left : Leads ask t s (u >>= on_some f) s') (ran : Runs ask u r s' s'') where
  pub found : {b : B} → r ≡ Some b → Leads ask t s (f b) s''
  found is = rw is at (then ask left (called ask u (on_some f) ran))

  pub found_none : r ≡ None → Runs ask t None s s''
  found_none is = end ask (rw is at (then ask left (called ask u (on_some f) ran)))

-- a first step that ended well, and one that ended in an error
module _ {S A B E : Type 0} (ask : Handler S) {s s' s'' : S} {t : SampleTree (Result A E)} {r : Result B E} (u : SampleTree (Result B E)) (f : B → SampleTree (Result A E))
    (left : Leads ask t s (u >>= on_ok f) s') (ran : Runs ask u r s' s'') where
  pub passed : {b : B} → r ≡ Ok b → Leads ask t s (f b) s''
  passed is = rw is at (then ask left (called ask u (on_ok f) ran))

  pub failed : {e : E} → r ≡ Err e → Runs ask t (Err e) s s''
  failed is = end ask (rw is at (then ask left (called ask u (on_ok f) ran)))

-- the refinement's handler: what it shows, marks and copies, and one more that is counted
pub shown : (e : Scene) (p : Photo) (q : SourcePixel) {r : Option Float} {b b' : Buffers} {m m' : Meter} → ReadsSample p e.width (scene_footprint e q) r b b' → m' ≡ increment m
    → Runs (sampler e p) (one_sample q) r (state b.sheet b.copy m) (state b'.sheet b'.copy m')
unfolding run sampler
shown e p q h hm = record { runs = sym (rw (h.answer, h.marks, hm)) }
