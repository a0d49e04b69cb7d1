-- What a function that writes to an output promises. Definitions only, to be believed.
use Rattle.std.specs.Prelude.{◌≡◌, ℕ, ◌+◌, ◌-◌, min, List, length}
use Rattle.std.proofs.lemmas.List.Edits.{sets}
use Rattle.fields.specs.declared.output.Output.{Output}

-- the bytes stand in the same buffer behind what was written, as far as the buffer reaches
pub record Writes (before after : Output) (bytes : List ℕ) : Type 0 where
  pub same : after.buffer.ghost_name ≡ before.buffer.ghost_name
  pub wrote : after.buffer.now ≡ sets before.buffer.now before.at bytes
  pub on : after.at ≡ before.at + min (length bytes) (length before.buffer.now - before.at)
