-- How a step is run: by a handler of its samples, from a state. A handler takes a place and a state to
-- what a sample there shows and the next state; the refinement's, `sampler`, is sample.rs,
-- `SourceView::sample` (744 to 750), with the marks. And what a function that samples promises,
-- whatever the handler. Definitions only, to be believed; the laws are in proofs/Steps, and what a run
-- by the refinement's handler comes to is in proofs/Meaning.
use Rattle.std.specs.Prelude.{◌≡◌, ℕ, List, Float, Option}
use Rattle.pixel.specs.declared.SourcePixel.{SourcePixel}
use Rattle.photograph.specs.Photographs.{Photo}
use Rattle.footprint.specs.Footprints.{scene_footprint}
use Rattle.sampling.specs.Sampling.{interpolate}
use Rattle.sampling.specs.Marks.{Buffers, buffers, marked}
use Rattle.footprint.specs.declared.Scene.{Scene}
use Rattle.sample_tree.specs.declared.Meter.{Meter}
use Rattle.sample_tree.specs.Meters.{increment}
use Rattle.sample_tree.specs.SampleTree.{SampleTree, done, sample}

pub record Ran (S A : Type 0) : Type 0 where
  pub answer : A
  pub state : S

abbrev pub ran : {S A : Type 0} → A → S → Ran S A
ran a s = record { answer = a; state = s }

abbrev pub Handler : Type 0 → Type 0
Handler S = SourcePixel → S → Ran S (Option Float)

unfoldable pub run : {S A : Type 0} → Handler S → SampleTree A → S → Ran S A
run ask (done a) s = ran a s
run ask (sample q k) s = run ask (k (ask q s).answer) (ask q s).state

-- Run by the handler from the state s, the step t ends in a with the state s'.
pub record Runs {S A : Type 0} (ask : Handler S) (t : SampleTree A) (a : A) (s s' : S) : Type 0 where
  pub runs : run ask t s ≡ ran a s'

-- ---- the refinement's handler

-- what it changes as it goes: the mark sheet, the copy, and the count of samples
pub record State : Type 0 where
  pub sheet : List ℕ
  pub copy : List ℕ
  pub meter : Meter

abbrev pub state : List ℕ → List ℕ → Meter → State
state s c m = record { sheet = s; copy = c; meter = m }

-- the buffers as they are then, and one more sample counted
abbrev pub after : Buffers → Meter → State
after b m = state b.sheet b.copy (increment m)

unfoldable pub sampler : Scene → Photo → Handler State
sampler e p q s = ran (interpolate p (scene_footprint e q)) (after (marked p e.width (scene_footprint e q) (buffers s.sheet s.copy)) s.meter)
