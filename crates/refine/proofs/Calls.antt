-- What a refinement call returns: what its rounds ended in, over the label's own modules. Assumes nothing.
use mathlib.Core.Path.{◌≡◌, sym, ap, ◌∙◌}
use mathlib.Core.Logic.{dite}
use Prim.Native.Nat.{ℕ, min}
use native.Mathlib.Nat.{le_refl}
use native.Mathlib.Decide.{dec_le}
use native.Mathlib.Omega.{arith}
use lib.ListN.{length, take}
use lib.Seq.{take_all}
use Rattle.std.specs.Prelude.{List, Result, Ok}
use Rattle.std.specs.Result.{result_and}
use Rattle.number.specs.declared.Refusal.{Refusal}
use Rattle.pixel.specs.declared.SourcePixel.{SourcePixel}
use Rattle.sample_tree.specs.declared.Sampler.{Sampler}
use Rattle.sample_tree.specs.Samplers.{Samples}
use Rattle.sample_tree.proofs.Samplers.{samples_value}
use Rattle.probe.specs.declared.Plan.{Plan}
use Rattle.corners.specs.Corners.{Answer}
use Rattle.rounds.specs.Rounds.{rounds}
use Rattle.request.specs.declared.Request.{Request}
use Rattle.request.specs.Requests.{photograph, cells, scene_of, source_corners, entry}
use Rattle.refine.specs.Refine.{plan_of, refinement, result, refine}

-- no more are taken than there are
take_min : (n : ℕ) (xs : List ℕ) → take (min n (length xs)) xs ≡ take n xs
take_min n xs =
    dite (dec_le n (length xs)) (λ h. ap (λ (k : ℕ). take k xs) {x = min n (length xs)} {y = n} (omega arith))
    (λ h. ap (λ (k : ℕ). take k xs) {x = min n (length xs)} {y = length xs} (omega arith) ∙ take_all (length xs) xs (le_refl (length xs)) ∙ sym (take_all n xs (omega arith)))

module _ (r : Request) (ms : List ℕ) {before after : Sampler} {a : Answer} where
  -- the rounds of a request, by what the code lends them
  pub entered : {k : ℕ} {q : List SourcePixel} {plan : Plan} → k ≡ min (cells r) (length ms) → q ≡ source_corners r → plan ≡ plan_of r
      → Samples before after (rounds plan (take k ms) q) a → Samples before after (refinement r ms) a
  unfolding refinement
  entered hk hq hp ran = rw (sym (take_min (cells r) ms), sym hk, sym hq, sym hp) ran

  -- behind the entry checks
  pub answers : {passed : Unit {0}} → before.scene ≡ scene_of r → entry r ms (photograph before.photograph.bytes.now before.photograph.stride) ≡ Ok passed
      → Samples before after (refinement r ms) a → a ≡ refine r ms (photograph before.photograph.bytes.now before.photograph.stride)
  unfolding result
  answers scene enters ran =
      let p = photograph before.photograph.bytes.now before.photograph.stride in
      rw scene at (samples_value ran) ∙ ap (λ (e : Result (Unit {0}) Refusal). result_and e (result r ms p)) (sym enters)
