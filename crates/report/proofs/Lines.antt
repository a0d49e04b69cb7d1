-- The lines of an answer stand whole in a buffer of 1024 bytes, and are all that `io` counts there. Assumes nothing.
use Prim.Native.Nat.{ℕ, ◌≤◌, min}
use mathlib.Core.Path.{◌≡◌, refl, sym, ap, subst, ◌∙◌}
use mathlib.Core.List.{List}
use native.Mathlib.Omega.{arith}
use lib.ListN.{length}
use lib.Seq.{length-take-le, length-sets, sets}
use borrow.Author.Tests.{ne_eqb}
use Rattle.io.specs.Counts.{IsPrefixLen}
use Rattle.std.specs.Prelude.{Ok, Err}
use Rattle.number.specs.Numbers.{number}
use Rattle.number.proofs.Numbers.{number_positive}
use Rattle.corners.specs.declared.NumberedAnswer.{NumberedAnswer}
use Rattle.corners.specs.Corners.{Answer, numbered}
use Rattle.report.specs.Lines.{numbered_lines, answer_lines}
use Rattle.report.specs.Puts.{Puts}
use Rattle.report.proofs.Lengths.{length-numbered, length-answer}

-- so many bytes at the front, as `io` counts them
pub counted : (n : ℕ) (s : List ℕ) → n ≤ length s → IsPrefixLen n s
counted n s h = (h, sym (length-take-le n s h))

-- lines that are no longer than an answer's
whole_lines : (lines before after : List ℕ) (n : ℕ) → length lines ≤ 800 → length before ≡ 1024 → after ≡ sets before 0 lines → n ≡ min (length lines) 1024
    → IsPrefixLen n after × Puts before 0 lines after n
whole_lines lines before after n room long wrote on =
    let kept : length after ≡ length before = rw wrote (length-sets before 0 lines) in
    (counted n after (omega arith), record { wrote = wrote; on = omega arith })

-- whatever its number
pub whole_numbered : (a : NumberedAnswer) (before after : List ℕ) (n : ℕ) → length before ≡ 1024 → after ≡ sets before 0 (numbered_lines a) → n ≡ min (length (numbered_lines a)) 1024
    → IsPrefixLen n after × Puts before 0 (numbered_lines a) after n
whole_numbered a before after n = whole_lines (numbered_lines a) before after n (length-numbered a)

pub whole : (a : Answer) (before after : List ℕ) (n : ℕ) → length before ≡ 1024 → after ≡ sets before 0 (answer_lines a) → n ≡ min (length (answer_lines a)) 1024
    → IsPrefixLen n after × Puts before 0 (answer_lines a) after n
whole a before after n = whole_lines (answer_lines a) before after n (length-answer a)

-- by its number an answer has the lines that it has: no refusal has the number 0
pub same_lines : (a : Answer) → numbered_lines (numbered a) ≡ answer_lines a
same_lines (Ok r) = refl
same_lines (Err refusal) = rw (ne_eqb (number refusal) 0 (λ e. omega (arith, number_positive refusal))) refl

pub puts_answer : {given : NumberedAnswer} (a : Answer) {before after : List ℕ} {n : ℕ} → given ≡ numbered a → Puts before 0 (numbered_lines given) after n → Puts before 0 (answer_lines a) after n
puts_answer a {before = before} {after = after} {n = n} is puts = subst (λ (text : List ℕ). Puts before 0 text after n) (ap numbered_lines is ∙ same_lines a) puts
