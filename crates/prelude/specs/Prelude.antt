-- General pieces that the library lacks: a choice that reads as the Rust's early returns, a truth
-- value as a number, and a list made by a rule. Definitions only, to be believed.
use Rattle.std.specs.Prelude.{ℕ, zero, suc, Bool, true, false, List, [], ◌∷◌}

-- `when a then b else` on lines one under another reads as the Rust's early returns
infixr 10 when◌then◌else◌
abbrev pub when◌then◌else◌ {ℓ} : {A : Type ℓ} → Bool → A → A → A
when true then a else b = a
when false then a else b = b

-- 1 for true, 0 for false
abbrev pub bit : Bool → ℕ
bit true = 1
bit false = 0

-- f 0, f 1, .. up to f (n - 1)
abbrev pub table : ℕ → (ℕ → ℕ) → List ℕ
table zero f = []
table (suc n) f = f zero ∷ table n (λ k. f (suc k))
