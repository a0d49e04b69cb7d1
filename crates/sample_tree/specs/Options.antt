-- Steps that may end in nothing: bound, the second is not taken then. Definitions only, to be believed.
use Rattle.std.specs.Prelude.{Option, Some, None}
use Rattle.sample_tree.specs.SampleTree.{SampleTree, done, ◌>>=◌ as ◌>>=ₗ◌}

abbrev pub on_some : {A B : Type 0} → (A → SampleTree (Option B)) → Option A → SampleTree (Option B)
on_some f None = done None
on_some f (Some a) = f a

infixl 20 ◌>>=◌
abbrev pub ◌>>=◌ : {A B : Type 0} → SampleTree (Option A) → (A → SampleTree (Option B)) → SampleTree (Option B)
t >>= f = ◌>>=ₗ◌ t (on_some f)
