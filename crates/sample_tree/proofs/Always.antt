-- What holds of everything that a step can end in, whatever its samples show: so it holds of the step's value over any photograph, and of a bound
-- step where the second has it for whatever the first can end in. Each by induction on the step. Assumes nothing.
use Rattle.pixel.specs.declared.SourcePixel.{SourcePixel}
use Rattle.photograph.specs.Photographs.{Photo}
use Rattle.footprint.specs.declared.Scene.{Scene}
use Rattle.std.specs.Prelude.{Option}
use lib.Ieee.{Float}
use Rattle.footprint.specs.Footprints.{scene_footprint}
use Rattle.sampling.specs.Sampling.{interpolate}
use Rattle.sample_tree.specs.SampleTree.{SampleTree, done, sample, ◌>>=◌, value}

pub data Always {A : Type 0} (P : A → Type 0) : SampleTree A → Type 0 where
  ends : {a : A} → P a → Always P (done a)
  asks : {q : SourcePixel} {k : Option Float → SampleTree A} → ((r : Option Float) → Always P (k r)) → Always P (sample q k)

-- over any photograph
pub always_value : {A : Type 0} {P : A → Type 0} (e : Scene) (p : Photo) {t : SampleTree A} → Always P t → P (value e p t)
unfolding value
always_value e p (ends h) = h
always_value e p (asks {q} {k} h) = always_value e p (h (interpolate p (scene_footprint e q)))

-- what it ends in is of its type
pub always_something : {A : Type 0} (t : SampleTree A) → Always (λ _. Unit {0}) t
always_something (done a) = ends tt
always_something (sample q k) = asks (λ r. always_something (k r))

pub always_bind : {A B : Type 0} {P : A → Type 0} {Q : B → Type 0} {t : SampleTree A} {f : A → SampleTree B} → Always P t → ((a : A) → P a → Always Q (f a)) → Always Q (t >>= f)
unfolding ◌>>=◌
always_bind (ends {a} h) g = g a h
always_bind (asks h) g = asks (λ r. always_bind (h r) g)

-- where nothing need be known of what the first step ends in
pub always_after : {A B : Type 0} {Q : B → Type 0} (t : SampleTree A) {f : A → SampleTree B} → ((a : A) → Always Q (f a)) → Always Q (t >>= f)
always_after t g = always_bind (always_something t) (λ a _. g a)

pub always_weaker : {A : Type 0} {P Q : A → Type 0} {t : SampleTree A} → Always P t → ((a : A) → P a → Q a) → Always Q t
always_weaker (ends {a} h) g = ends (g a h)
always_weaker (asks h) g = asks (λ r. always_weaker (h r) g)
