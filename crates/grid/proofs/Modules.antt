-- The largest of some modules is a bit where all are. Assumes nothing.
use Rattle.std.proofs.Common.{◌≡◌, sym, ap, ◌∙◌, ℕ, max, Bool, ◌&&◌, List, [], ◌∷◌, fold, leb}
use native.Mathlib.Omega.{arith}
use mathlib.Core.Bool.{and-true, and_assoc}
use borrow.Author.Tests.{le-leb, lt-leb, leb-true, leb-false}
use Rattle.prelude.proofs.Branches.{by_test}
use Rattle.grid.specs.Grids.{bits}

max_bits : (a b : ℕ) → leb (max a b) 1 ≡ (leb a 1 && leb b 1)
max_bits a b =
    by_test (leb (max a b) 1)
    (λ small.
    let most = leb-true (max a b) 1 small in
    rw (small, le-leb a 1 (omega arith), le-leb b 1 (omega arith)))
    (λ large.
    let least = leb-false (max a b) 1 large in
    by_test (leb a 1)
    (λ low. rw (large, low, lt-leb b 1 (omega (arith, leb-true a 1 low))))
    (λ high. rw (large, high)))

fold_bits : (a : ℕ) (ms : List ℕ) → leb (fold max a ms) 1 ≡ (leb a 1 && bits ms)
unfolding bits
fold_bits a [] = sym (and-true (leb a 1))
fold_bits a (m ∷ ms) = fold_bits (max a m) ms ∙ ap (λ (t : Bool). t && bits ms) (max_bits a m) ∙ and_assoc (leb a 1) (leb m 1) (bits ms)

pub bits_largest : (ms : List ℕ) → leb (fold max 0 ms) 1 ≡ bits ms
bits_largest ms = fold_bits 0 ms
