-- An edge point takes at most 21 samples: seven for each of three passes. Assumes nothing.
use mathlib.Core.Path.{◌≡◌, subst}
use Prim.Native.Nat.{ℕ, zero, suc, ◌+◌, ◌*◌, ◌≤◌}
use native.Mathlib.Omega.{arith}
use mathlib.Core.List.{List, [], ◌∷◌, ◌++◌}
use Rattle.std.specs.Prelude.{Option, Some}
use lib.Ieee.{Float}
use Rattle.ieee.specs.Floats.{◌⊖◌, float, f0, f3}
use Rattle.photograph.specs.Photographs.{Photo}
use Rattle.footprint.specs.declared.Scene.{Scene}
use Rattle.consts.specs.declared.Settings.{Settings}
use Rattle.pixel.specs.declared.SourcePixel.{SourcePixel}
use Rattle.sample_tree.specs.SampleTree.{SampleTree, done, one_sample, sample_count}
use Rattle.sample_tree.proofs.Bounds.{AtMost, taken_most, most-done, most_one, most_bind-some}
use Rattle.pixel.specs.Pixels.{edge_point}
use Rattle.pixel.specs.declared.Direction.{Direction}
use Rattle.pixel.specs.declared.EdgePoint.{EdgePoint}
use Rattle.profile.specs.declared.Ray.{Ray}
use Rattle.aitken.specs.Aitken.{projection, aitken}
use Rattle.profile.specs.Profile.{offset_along, sample_profile, profile, passed, pass, passes, localize}

module _ (normal : Direction) (step : Float) (c : SourcePixel) where
  sample-profile-most : (n k : ℕ) (got : List Float) → AtMost n (sample_profile normal step c n k got)
  unfolding sample_profile
  sample-profile-most zero k got = most-done 0 (Some got)
  sample-profile-most (suc n) k got =
      let one : 1 + n ≡ suc n = omega arith in
      subst (λ (l : ℕ). AtMost l (sample_profile normal step c (suc n) k got)) one
      (most_bind-some 1 n (one_sample (offset_along normal step c (float k ⊖ f3))) (λ v. sample_profile normal step c n (suc k) (got ++ v ∷ []))
      (most_one (offset_along normal step c (float k ⊖ f3))) (λ v. sample-profile-most n (suc k) (got ++ v ∷ [])))

module _ (settings : Settings) (ray : Ray) where
  pass-most : (c : SourcePixel) → AtMost 7 (pass settings ray c)
  pass-most c =
      let at_peak : List Float → SampleTree (Option EdgePoint) = λ s. done (passed settings ray c s) in
      most_bind-some 7 0 (profile ray.normal ray.step c) at_peak (sample-profile-most ray.normal ray.step c 7 0 [])
      (λ s. most-done 0 (passed settings ray c s))

  sevens : (n : ℕ) → 7 + 7 * n ≡ 7 * suc n
  sevens n = omega arith

  passes-most : (n : ℕ) (p : EdgePoint) (xs : List Float) → AtMost (7 * n) (passes settings ray n p xs)
  unfolding passes
  passes-most zero p xs = most-done 0 (aitken ray.normal ray.step p xs)
  passes-most (suc n) p xs =
      let f : EdgePoint → SampleTree (Option EdgePoint) = λ q. passes settings ray n q (xs ++ projection ray.normal q.pos ∷ []) in
      subst (λ (l : ℕ). AtMost l (passes settings ray (suc n) p xs)) (sevens n)
      (most_bind-some 7 (7 * n) (pass settings ray p.pos) f (pass-most p.pos) (λ q. passes-most n q (xs ++ projection ray.normal q.pos ∷ [])))

  pub at-most_21 : (e : Scene) (p : Photo) → sample_count e p (localize settings ray) ≤ 21
  at-most_21 e p = taken_most e p 21 (localize settings ray) (passes-most 3 (edge_point ray.coarse f0) [])
