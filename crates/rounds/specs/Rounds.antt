-- refine.rs, the rounds of `refine_corners` (699 to 727), as a tree of samples: each from the corners
-- of the last. Definitions only, to be believed.
use Rattle.std.specs.Prelude.{ℕ, zero, suc, ◌-◌, Bool, true, false, List, Ok, Err}
use Rattle.prelude.specs.Prelude.{when◌then◌else◌}
use Rattle.number.specs.declared.Refusal.{Refusal}
use Rattle.number.specs.declared.Refusal.TheVariants as refusal
use Rattle.pixel.specs.declared.SourcePixel.{SourcePixel}
use Rattle.sample_tree.specs.SampleTree.{SampleTree, done, ◌>>=◌}
use Rattle.sample_tree.specs.Results.{on_ok}
use Rattle.probe.specs.declared.Plan.{Plan}
use Rattle.corners.specs.declared.RefinedCorners.{RefinedCorners}
use Rattle.corners.specs.Corners.{Answer}
use Rattle.round.specs.Round.{round}

-- no map, or under two edges
abbrev pub is_weak : Refusal → Bool
is_weak refusal.Quad = true
is_weak refusal.Thin = true
is_weak other = false

-- A round's corners go on. A weak refusal ends the rounds and leaves the corners that there are; any other ends the refinement.
abbrev pub go_on : (RefinedCorners → SampleTree Answer) → RefinedCorners → Answer → SampleTree Answer
go_on further best (Ok next) = further next
go_on further best (Err refusal) = done (when is_weak refusal then Ok best else Err refusal)

-- up to n rounds more
unfoldable pub remaining_rounds : Plan → List ℕ → ℕ → RefinedCorners → SampleTree Answer
remaining_rounds p ms zero best = done (Ok best)
remaining_rounds p ms (suc n) best = round p ms best.corners >>= go_on (remaining_rounds p ms n) best

-- the first round's refusal is the refinement's
unfoldable pub rounds : Plan → List ℕ → List SourcePixel → SampleTree Answer
rounds p ms q = round p ms q >>= on_ok (remaining_rounds p ms (p.settings.rounds - 1))
