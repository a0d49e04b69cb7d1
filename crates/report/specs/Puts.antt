-- What a function that writes a text whole promises. Definitions only, to be believed.
use Rattle.std.specs.Prelude.{◌≡◌, ℕ, ◌+◌, List, length}
use Rattle.std.proofs.lemmas.List.Edits.{sets}

-- the text stands in the buffer from `at` on, and ends before `next`
pub record Puts (before : List ℕ) (at : ℕ) (text after : List ℕ) (next : ℕ) : Type 0 where
  pub wrote : after ≡ sets before at text
  pub on : next ≡ at + length text
