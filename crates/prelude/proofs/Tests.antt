-- What a test in the code says of the condition in the definition. Each is the table of its two or three truth values. Assumes nothing.
use mathlib.Core.Path.{◌≡◌, refl, sym, ◌∙◌}
use mathlib.Core.Bool.{Bool, true, false, not, ◌&&◌, ◌||◌, and_assoc, true≢false}
use lib.Dec.{T}
use lib.Ieee.{Float, eq, ne}
use borrow.Author.Tests.{not-true, not-false}

-- `if !f(..) { return .. }`, where f decides b
pub failed : {r b : Bool} → r ≡ b → not r ≡ true → b ≡ false
failed {r} e h = sym e ∙ not-true r h

pub passed : {r b : Bool} → r ≡ b → not r ≡ false → b ≡ true
passed {r} e h = sym e ∙ not-false r h

-- `if x != y { return .. }`
pub differ : (x y : Float) → ne x y ≡ true → eq x y ≡ false
unfolding ne
differ x y h = not-true (eq x y) h

pub agree : (x y : Float) → ne x y ≡ false → eq x y ≡ true
unfolding ne
agree x y h = not-false (eq x y) h

-- two conditions that one call decides, behind others that hold
pub and_pair : (a b c : Bool) {t : Bool} → a ≡ true → (b && c) ≡ t → (a && b && c) ≡ t
and_pair a b c e h = rw (and_assoc a b c, h, e)

-- two conditions that hold together
pub both : (a b : Bool) → (a && b) ≡ true → (a ≡ true) × (b ≡ true)
both true b h = (refl, h)
both false b h = absurd (true≢false (sym h))

-- of two conditions one of which holds, and of two that both fail
pub or_left : (a b : Bool) → T a → T (a || b)
or_left true b h = tt
or_left false b h = absurd h

pub or_right : (a b : Bool) → T b → T (a || b)
or_right true b h = tt
or_right false b h = h

pub and_both : (a b : Bool) → T a → T b → T (a && b)
and_both true b h k = k
and_both false b h k = h

pub neither_left : (a b : Bool) → (a || b) ≡ false → a ≡ false
neither_left true b h = h
neither_left false b h = refl

pub neither_right : (a b : Bool) → (a || b) ≡ false → b ≡ false
neither_right true b h = absurd (true≢false h)
neither_right false b h = h
