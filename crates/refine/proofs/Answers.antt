-- What every answer of a refinement is like, refused or not: it is sound (rounds/proofs/Answers) for any n that is no less
-- than the settings' limit of probes, since the rounds start from four corners that the division made. Assumes nothing.
use mathlib.Core.Path.{◌≡◌, ◌∙◌}
use Prim.Native.Nat.{ℕ, ◌≤◌}
use lib.ListN.{length, take, length-map}
use lib.Ieee.{Float}
use Rattle.std.specs.Prelude.{List, map, Result, Ok, Err}
use Rattle.std.specs.Result.{result_and}
use Rattle.number.specs.declared.Refusal.{Refusal}
use Rattle.prelude.proofs.Lists.{Four, each_made}
use Rattle.pixel.specs.Pixels.{to_source}
use Rattle.pixel.specs.declared.WorkingPixel.{WorkingPixel}
use Rattle.pixel.proofs.Values.{Fits, source_fits}
use Rattle.sample_tree.proofs.Always.{always_value}
use Rattle.probes.proofs.Counts.{probe_limit}
use Rattle.corners.specs.Corners.{Answer}
use Rattle.round.proofs.Answers.{Sound, refused-sound}
use Rattle.rounds.proofs.Answers.{rounds-sound}
use Rattle.request.specs.declared.Request.{Request}
use Rattle.request.specs.Requests.{Photograph, cells, entry, scene_of, shown, source_corners}
use Rattle.refine.specs.Refine.{plan_of, refinement, result, refine}

sources-fit : (sx sy : Float) (cs : List WorkingPixel) → length cs ≡ 4 → Four Fits (map (to_source sx sy) cs)
sources-fit sx sy cs four = record { four = length-map cs (to_source sx sy) ∙ four; each = each_made Fits (to_source sx sy) cs (source_fits sx sy) }

checked-sound : (n : ℕ) (checks : Result (Unit {0}) Refusal) (a : Answer) → Sound n a → Sound n (result_and checks a)
checked-sound n (Ok passed) a h = h
checked-sound n (Err e) a h = refused-sound n e

pub refine-sound : (n : ℕ) (r : Request) (ms : List ℕ) (p : Photograph) → probe_limit r.settings ≤ n → length r.corners ≡ 4 → Sound n (refine r ms p)
unfolding result refinement
refine-sound n r ms p limit four =
    checked-sound n (entry r ms p) (result r ms p)
    (always_value (scene_of r) (shown p) (rounds-sound n (plan_of r) (take (cells r) ms) limit (source_corners r) (sources-fit r.sx r.sy r.corners four)))
