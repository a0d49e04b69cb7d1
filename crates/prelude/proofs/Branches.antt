-- A test of the definitions, taken both ways: what holds of either branch holds of the choice. Assumes nothing.
use mathlib.Core.Bool.{Bool, true, false}
use mathlib.Core.Path.{◌≡◌, refl}
use Rattle.prelude.specs.Prelude.{when◌then◌else◌}

pub by_test : {A : Type 0} (b : Bool) → (b ≡ true → A) → (b ≡ false → A) → A
by_test true f g = f refl
by_test false f g = g refl

-- where the branches need not know how the test came out
pub either : {A : Type 0} (P : A → Type 0) (b : Bool) {x y : A} → P x → P y → P (when b then x else y)
either P true h k = h
either P false h k = k
