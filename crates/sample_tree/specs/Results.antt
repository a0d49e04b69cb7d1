-- Steps that may end in an error: bound, the second is not taken then. Definitions only, to be believed.
use Rattle.std.specs.Prelude.{Result, Ok, Err}
use Rattle.sample_tree.specs.SampleTree.{SampleTree, done, ◌>>=◌ as ◌>>=ₗ◌}

abbrev pub on_ok : {A B E : Type 0} → (A → SampleTree (Result B E)) → Result A E → SampleTree (Result B E)
on_ok f (Err e) = done (Err e)
on_ok f (Ok a) = f a

infixl 20 ◌>>=◌
abbrev pub ◌>>=◌ : {A B E : Type 0} → SampleTree (Result A E) → (A → SampleTree (Result B E)) → SampleTree (Result B E)
t >>= f = ◌>>=ₗ◌ t (on_ok f)
