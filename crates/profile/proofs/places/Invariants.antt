-- `places` meets its contract: after k turns the first k places are in.
use mathlib.Core.Path.{◌≡◌}
use Prim.Native.Nat.{ℕ, ◌<◌}
use lib.ListN.{length, get_or}
use Rattle.ieee.specs.Floats.{◌⊖◌, float, f3}
use Rattle.pixel.specs.declared.SourcePixel.{SourcePixel}
use Rattle.profile.specs.Profile.{offset_along}
use Rattle.profile.proofs.places.Given as goal

abbrev pub invariant-loop-k : goal.invariant-loop-k
invariant-loop-k l = (length l.all ≡ 7) × ((i : ℕ) (p : SourcePixel) → i < l.k → get_or l.all i p ≡ offset_along l.normal l.step l.c (float i ⊖ f3))
