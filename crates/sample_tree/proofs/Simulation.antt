-- Two handlers that answer alike and keep related states run every step alike: an engine that holds a cell, and one that does not. By induction on the tree. Assumes nothing.
use mathlib.Core.Path.{◌≡◌, refl}
use Rattle.pixel.specs.declared.SourcePixel.{SourcePixel}
use Rattle.sample_tree.specs.SampleTree.{SampleTree, done, sample}
use Rattle.sample_tree.specs.Run.{Ran, Handler, run}

module _ {S S' : Type 0} (ask : Handler S) (ask' : Handler S') (R : S → S' → Type 0) where
  -- one answers as the other, and leaves a related state
  pub record Both {A : Type 0} (x : Ran S A) (y : Ran S' A) : Type 0 where
    pub answers : y.answer ≡ x.answer
    pub states : R x.state y.state

  pub simulates : ((q : SourcePixel) (s : S) (s' : S') → R s s' → Both (ask q s) (ask' q s'))
      → {A : Type 0} (t : SampleTree A) (s : S) (s' : S') → R s s' → Both (run ask t s) (run ask' t s')
  unfolding run
  simulates alike (done a) s s' h = record { answers = refl; states = h }
  simulates alike (sample q k) s s' h =
      let x = alike q s s' h in
      rw x.answers (simulates alike (k (ask q s).answer) (ask q s).state (ask' q s').state x.states)
