-- A result is either of its two kinds and holds one value. Assumes nothing.
use mathlib.Core.Path.{◌≡◌, sym, ap}
use mathlib.Core.Bool.{true≢false}
use Rattle.std.specs.Prelude.{Result, Ok, Err, is_ok}
use Rattle.std.specs.Result.{result_unwrap_or}

pub err_not-ok : {A E : Type 0} {e : E} {a : A} → Err e ≡ Ok a → ⊥
err_not-ok h = true≢false (sym (ap is_ok h))

pub ok_not-err : {A E : Type 0} {e : E} {a : A} → Ok a ≡ Err e → ⊥
ok_not-err h = true≢false (ap is_ok h)

pub ok_of : {A E : Type 0} {a b : A} → ◌≡◌ {A = Result A E} (Ok a) (Ok b) → a ≡ b
ok_of {a = a} h = ap (λ r. result_unwrap_or r a) h

error_or : {A E : Type 0} → E → Result A E → E
error_or d (Ok a) = d
error_or d (Err e) = e

pub err_of : {A E : Type 0} {e f : E} → ◌≡◌ {A = Result A E} (Err e) (Err f) → e ≡ f
unfolding error_or
err_of {e = e} h = ap (error_or e) h
