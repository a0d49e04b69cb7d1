-- A ceiling is a floor from the other side, and from 2 ^ 53 on every value is whole. Assumes nothing.
use Rattle.std.proofs.Common.{◌≡◌, ℕ, suc, ◌+◌, ◌-◌, ◌*◌, ◌^◌, ◌<◌, Bool, true, false, T, pos, sym, refl, ap, ◌∙◌, subst, zero-lt-suc, mul_assoc, mul-lt-mul_of_pos_right, mul-one, div-one, arith, pow_pos, pow-add}
use Rattle.std.specs.Float.{round_with, ratio_floor, ratio_ceil}
use lib.Ieee.{Float, nan, inf, fin, binary64, up, down, round, neg, fits}
use lib.Ieee.Fits.{round-fits}
use lib.Ieee.Exact.{round_exact}
use lib.Ieee.Back.{whole_unique}
use Rattle.ieee_whole.specs.Whole.{floor_of, ceil_of}
use Rattle.ieee.proofs.Magnitudes.{neg-round}
use Rattle.ieee.proofs.Patterns.{fits-says}

-- ---- from 2 ^ 53 on every value is whole

pub large_is : (s : Bool) (m k : ℕ) → T (fits binary64 (fin s (suc m) (pos k))) → fin s (suc m) (pos k) ≡ round binary64 s (suc m * 2 ^ k) 1
large_is s m k f =
    let h = fits-says s m (pos k) f in
    let a = suc m * 2 ^ k in
    let e1 : suc m * 2 ^ (k + 1074) ≡ a * 2 ^ 1074 = ap (λ (z : ℕ). suc m * z) (pow-add 2 k 1074) ∙ sym (mul_assoc (suc m) (2 ^ k) (2 ^ 1074)) in
    let fine : suc m * 2 ^ (k + 1074) < 2 ^ (1074 + 1024) = subst (λ (z : ℕ). z < 2 ^ (1074 + 1024)) (sym e1) (mul-lt-mul_of_pos_right h.2 (pow_pos 1074)) in
    whole_unique binary64 (fin s (suc m) (pos k)) (round binary64 s a 1) s a f (round-fits binary64 s a 1) (refl, refl)
    (round_exact binary64 s a 1 (suc m) (k + 1074) (zero-lt-suc 0) h.0 fine (sym e1 ∙ sym (mul-one (suc m * 2 ^ (k + 1074)))))

pub raised_one : (a : ℕ) → ratio_ceil a 1 ≡ a
raised_one a = div-one (a + 1 - 1) ∙ same
  where
    same : a + 1 - 1 ≡ a
    same = omega arith

-- ---- a ceiling is a floor from the other side

pub ceil-is : (x : Float) → neg (floor_of (neg x)) ≡ ceil_of x
unfolding round_with neg
ceil-is nan = refl
ceil-is (inf true) = refl
ceil-is (inf false) = refl
ceil-is (fin true m e) = neg-round binary64 false (ratio_floor (m * up e) (down e)) 1
ceil-is (fin false m e) = neg-round binary64 true (ratio_ceil (m * up e) (down e)) 1
