-- How the root of a value lies among the values of binary64, over numbers of units: x is a units of 2 ^ -1074, and its true root is the square root of a * 2 ^ 1074 units.
-- `RootNearest.antt` states what follows of the values themselves. Assumes nothing.
use mathlib.Core.Path.{◌≡◌, refl, sym, ap, ◌∙◌, subst}
use mathlib.Core.Logic.{◌⊎◌, inl, inr}
use mathlib.Core.Bool.{Bool, true, false, true≢false}
use Prim.Native.Nat.{ℕ, zero, suc, ◌+◌, ◌-◌, ◌*◌, ◌/◌, ◌%◌, ◌^◌, ◌≤◌, ◌<◌}
use native.Mathlib.Nat.{le_trans, le_of_eq, le_of_lt, lt_of_lt_of_le, lt_of_le_of_lt, lt_of_not-le, not-le_of_lt, lt_irrefl, zero-lt-suc, sub-add_cancel, mul-one, zero-mul, mul_comm, mul_assoc, mul_left_comm, add-mul, mul-le-mul_left, mul-le-mul_right, mul-lt-mul_of_pos_right, lt_of_mul-lt-mul_right, eq_of_mul-eq-mul_right, mul-pos, eq-or-lt_of_le}
use native.Mathlib.Numerals.{add-one}
use native.Mathlib.Decide.{dec_le}
use native.Mathlib.Omega.{arith}
use lib.IntN.{pos, negsuc}
use lib.Dec.{T, leb, lit<, lit≤}
use lib.Pow.{pow_pos, pow_mono, pow-add, shl_lt}
use lib.Count.{count_leading_zeros}
use lib.Ieee.{Float, nan, inf, fin, binary64, up, down, units, fits, to_bits}
use lib.Ieee.Exact.{HasValue}
use lib.Ieee.Fits.{down_pos}
use lib.Ieee.Positive.{positive, above, value_pos}
use Rattle.std.specs.Float.{float_is_finite}
use Rattle.ieee.specs.Parts.{is_finite}
use Rattle.ieee.proofs.Counts.{pow_le_back, in-units}
use Rattle.ieee.proofs.Patterns.{fits-says}
use Rattle.ieee_root.specs.Root.{root, root_by, root_units, NearRoot}
use Rattle.ieee_root.proofs.Inputs.{Reading, subnormal, normal, infinite, reading, root-of-value, digits_between, lifted, lifted_same}
use Rattle.ieee_root.proofs.WholeRoots.{square_twice, square_next, square-middle, square_mono, Floor, root_by-is, root-units, units-value, units-fits}
use Rattle.ieee_root.proofs.Scaled.{shifted, n-low, n-lt, k-high, scaled, r-low, r-high}

-- ---- one number of units

one_value : (x : Float) (a c l : ℕ) → HasValue x false a l → HasValue x false c l → a ≡ c
one_value nan a c l h k = absurd h
one_value (inf s) a c l h k = absurd h
one_value (fin s m e) a c l h k = eq_of_mul-eq-mul_right (down e) (down_pos e) a c (sym h.1 ∙ k.1)

positive_above : (x : Float) → T (positive x) → T (above x)
positive_above nan p = absurd p
positive_above (inf s) p = absurd p
positive_above (fin true m e) p = absurd p
positive_above (fin false m e) p = p

-- ---- no root is finite of a value that is not

pub lost_root : (x : Float) → is_finite x ≡ false → is_finite (root binary64 x) ≡ false
unfolding float_is_finite root
lost_root nan h = refl
lost_root (inf true) h = refl
lost_root (inf false) h = refl
lost_root (fin s m e) h = absurd (true≢false h)

-- ---- x's root as m * 2 ^ g, with an m of 53 digits

abbrev Normalised : ℕ → Type 0
Normalised w = (m : ℕ) × (g : ℕ) × (2 ^ 52 ≤ m) × (m < 2 ^ 53) × (1022 ≤ g) × (g < 3121) × (w ≡ m * 2 ^ g)

normalised : (x : Float) (a : ℕ) → T (fits binary64 x) → T (positive x) → HasValue x false a (2 ^ 1074) → Normalised (a * 2 ^ 1074)
normalised x a F P U = go (reading x F (positive_above x P))
  where
    go : Reading (leb (2 ^ 63) (to_bits binary64 x)) (to_bits binary64 x % 2 ^ 63 / 2 ^ 52) (to_bits binary64 x % 2 ^ 52) x → Normalised (a * 2 ^ 1074)
    go (subnormal s f p v) =
        let t = to_bits binary64 x % 2 ^ 52 in
        let e : a ≡ t = one_value x a t (2 ^ 1074) U v in
        let l = (lifted t (value_pos x t (2 ^ 1074) p (pow_pos 1074) v) (native.Mathlib.Nat.mod-lt (to_bits binary64 x) (pow_pos 52))).1 in
        let z = count_leading_zeros 64 t - 11 in
        (t * 2 ^ z, 1074 - z, l.2, l.3, low z l.0, high z, ap (λ (c : ℕ). c * 2 ^ 1074) e ∙ sym (lifted_same t z l.0))
      where
        low : (z : ℕ) → z ≤ 52 → 1022 ≤ 1074 - z
        low z h = omega arith

        high : (z : ℕ) → 1074 - z < 3121
        high z = omega arith
    go (normal s j f n p v) =
        let m = 2 ^ 52 + to_bits binary64 x % 2 ^ 52 in
        (m, j + 1074, (digits_between (to_bits binary64 x)).0, (digits_between (to_bits binary64 x)).1, low j, high (to_bits binary64 x) j f n, ap (λ (c : ℕ). c * 2 ^ 1074) (one_value x a (m * 2 ^ j) (2 ^ 1074) U v) ∙ mul_assoc m (2 ^ j) (2 ^ 1074) ∙ ap (λ (c : ℕ). m * c) (sym (pow-add 2 j 1074)))
      where
        low : (j : ℕ) → 1022 ≤ j + 1074
        low j = omega arith

        high : (c j : ℕ) → c % 9223372036854775808 / 4503599627370496 ≡ suc j → (suc j ≡ 2047 → ⊥) → j + 1074 < 3121
        high c j e n = omega arith
    go (infinite e) = absurd (subst (λ (v : Float). T (positive v)) e P)

-- ---- every number has a nearest root

near_exists : (n : ℕ) → n < 2 ^ 106 → 0 < n → (r : ℕ) × NearRoot n r
near_exists n h p = go (root_by 53 n) (root_by-is 53 n h)
  where
    pick : (q : ℕ) → Floor n q → Dec (n ≤ q * q + q) → (r : ℕ) × NearRoot n r
    pick zero F (yes l) = absurd (none l)
      where
        none : n ≤ 0 * 0 + 0 → ⊥
        none l = omega arith
    pick (suc q) F (yes l) = (suc q, record { low = room (suc q * suc q) F.0; high = l })
      where
        room : (z : ℕ) → z ≤ n → z < n + suc q
        room z u = omega arith
    pick q F (no f) = (q + 1, record { low = omega (arith, square_next q, lt_of_not-le f); high = omega (arith, F.1) })

    go : (q : ℕ) → Floor n q → (r : ℕ) × NearRoot n r
    go q F = pick q F (dec_le n (q * q + q))

-- ---- the root: q * 2 ^ k units, where the root of n is nearest to q

pub record Rooted (x : Float) (a : ℕ) : Type 0 where
  pub n : ℕ
  pub k : ℕ
  pub q : ℕ
  pub square : a * 2 ^ 1074 ≡ n * 2 ^ (2 * k)
  pub near : NearRoot n q
  pub enough : 2 ^ 104 ≤ n
  pub low : 2 ^ 52 ≤ q
  pub high : q < 2 ^ 53
  pub is : HasValue (root binary64 x) false (q * 2 ^ k) (2 ^ 1074)
  pub held : T (fits binary64 (root binary64 x))

pub rooted : (x : Float) (a : ℕ) → T (fits binary64 x) → T (positive x) → HasValue x false a (2 ^ 1074) → Rooted x a
rooted x a F P U =
    let N = normalised x a F P U in
    let m = N.0 in
    let g = N.1 in
    let S = shifted m (g % 2) (native.Mathlib.Nat.mod-lt g (zero-lt-suc 1)) N.2 N.3 in
    let c = m * 2 ^ (g % 2) % 2 ^ 64 in
    let n = c * 2 ^ 52 in
    let k = g / 2 - 26 in
    let R = near_exists n (n-lt m g c S N.4 N.5) (lt_of_lt_of_le (pow_pos 104) (n-low m g c S N.4 N.5)) in
    let q = R.0 in
    let lo = r-low m g c S N.4 N.5 q R.1 in
    let hi = r-high m g c S N.4 N.5 q R.1 in
    let K : k < 2046 = lt_of_lt_of_le (k-high m g c S N.4 N.5) (lit≤ tt) in
    let e : a * 2 ^ 1074 ≡ n * 2 ^ (2 * k) = N.6 ∙ sym (scaled m g c S N.4 N.5) in
    let u : root binary64 x ≡ units binary64 false q k = root-of-value x a P U ∙ ap (root_units binary64) e ∙ root-units n k q (n-low m g c S N.4 N.5) (n-lt m g c S N.4 N.5) R.1 in
    record {
      n = n;
      k = k;
      q = q;
      square = e;
      near = R.1;
      enough = n-low m g c S N.4 N.5;
      low = lo;
      high = hi;
      is = subst (λ (v : Float). HasValue v false (q * 2 ^ k) (2 ^ 1074)) (sym u) (units-value q k lo hi K);
      held = subst (λ (v : Float). T (fits binary64 v)) (sym u) (units-fits q k lo hi K);
    }

-- ---- the values of the format: m * 2 ^ j units, with an m below 2 ^ 53

abbrev Point : ℕ → Type 0
Point n = (m : ℕ) × (j : ℕ) × (m < 2 ^ 53) × (n ≡ m * 2 ^ j)

point : (y : Float) (n : ℕ) → T (fits binary64 y) → HasValue y false n (2 ^ 1074) → Point n
point nan n F h = absurd h
point (inf s) n F h = absurd h
point (fin s zero e) n F h = (0, 0, lit< tt, eq_of_mul-eq-mul_right (down e) (down_pos e) n 0 (sym h.1 ∙ ap (λ (z : ℕ). z * 2 ^ 1074) (zero-mul (up e)) ∙ zero-mul (2 ^ 1074) ∙ sym (zero-mul (down e))))
point (fin s (suc m) (pos k)) n F h = (suc m, k + 1074, (fits-says s m (pos k) F).0, sym (mul-one n) ∙ sym h.1 ∙ mul_assoc (suc m) (2 ^ k) (2 ^ 1074) ∙ ap (λ (z : ℕ). suc m * z) (sym (pow-add 2 k 1074)))
point (fin s (suc m) (negsuc k)) n F h =
    let K : suc k ≤ 1074 = pow_le_back (suc k) 1074 (fits-says s m (negsuc k) F).1 in
    let j = 1074 - suc k in (
      suc m,
      j,
      (fits-says s m (negsuc k) F).0,
      eq_of_mul-eq-mul_right (2 ^ suc k) (pow_pos (suc k)) n (suc m * 2 ^ j)
          (sym h.1
          ∙ ap (λ (z : ℕ). z * 2 ^ 1074) (mul-one (suc m))
          ∙ ap (λ (z : ℕ). suc m * 2 ^ z) (sym (sub-add_cancel K))
          ∙ ap (λ (z : ℕ). suc m * z) (pow-add 2 j (suc k))
          ∙ sym (mul_assoc (suc m) (2 ^ j) (2 ^ suc k))),
    )

-- from 2 ^ (52 + k) units on each is a multiple of 2 ^ k
multiple : (n k : ℕ) → Point n → 2 ^ 52 * 2 ^ k ≤ n → (u : ℕ) × (n ≡ u * 2 ^ k)
multiple n k P h = go (dec_le k P.1)
  where
    go : Dec (k ≤ P.1) → (u : ℕ) × (n ≡ u * 2 ^ k)
    go (yes l) = (P.0 * 2 ^ (P.1 - k), P.3 ∙ ap (λ (z : ℕ). P.0 * 2 ^ z) (sym (sub-add_cancel l)) ∙ ap (λ (z : ℕ). P.0 * z) (pow-add 2 (P.1 - k) k) ∙ sym (mul_assoc P.0 (2 ^ (P.1 - k)) (2 ^ k)))
    go (no f) =
        absurd
        (lt_irrefl n
        (lt_of_lt_of_le (lt_of_le_of_lt (le_of_eq P.3) (lt_of_lt_of_le (shl_lt 53 P.1 P.2) (le_trans (pow_mono (short P.1 k (lt_of_not-le f))) (le_of_eq (pow-add 2 52 k))))) h))
      where
        short : (j k : ℕ) → j < k → 53 + j ≤ 52 + k
        short j k h = omega arith

-- ---- the middle of two values, by its square

-- the square of (2 * q + 1) * c / 2 against that of the root of n * (c * c)
times_square : (s c : ℕ) → s * c * (s * c) ≡ s * s * (c * c)
times_square s c = simp (mul_assoc, mul_comm, mul_left_comm)

plus : (r : ℕ) {a b : ℕ} → a ≤ b → r + a ≤ r + b
plus r h = omega arith

doubled : (k : ℕ) → 2 ^ (2 * k) ≡ 2 ^ k * 2 ^ k
doubled k = ap (λ (z : ℕ). 2 ^ z) (twice k) ∙ pow-add 2 k k
  where
    twice : (k : ℕ) → 2 * k ≡ k + k
    twice k = omega arith

module _ (n q k v : ℕ) (N : NearRoot n q) where
  abbrev c : ℕ
  c = 2 ^ k

  abbrev r : ℕ
  r = q * 2 ^ k

  four : 4 * (n * 2 ^ (2 * k)) ≡ 4 * n * (c * c)
  four = ap (λ (z : ℕ). 4 * (n * z)) (doubled k) ∙ sym (mul_assoc 4 n (c * c))

  -- v is at least the next multiple
  over : (q + 1) * c ≤ v → 4 * (n * 2 ^ (2 * k)) < (r + v) * (r + v)
  over h =
      let sum : (2 * q + 1) * c ≤ r + v = le_trans (le_of_eq (ap (λ (z : ℕ). z * c) (split q) ∙ add-mul q (q + 1) c)) (plus r h) in
      let mid : 4 * n < (2 * q + 1) * (2 * q + 1) = omega (arith, square-middle q, N.high) in
      lt_of_le_of_lt (le_of_eq four)
      (lt_of_lt_of_le (mul-lt-mul_of_pos_right mid (mul-pos (pow_pos k) (pow_pos k))) (le_trans (le_of_eq (sym (times_square (2 * q + 1) c))) (square_mono sum)))
    where
      split : (q : ℕ) → 2 * q + 1 ≡ q + (q + 1)
      split q = omega arith

  -- v is at most the multiple before
  under : (p : ℕ) → suc p ≡ q → v ≤ p * c → (r + v) * (r + v) < 4 * (n * 2 ^ (2 * k))
  under p e h =
      let sum : r + v ≤ (2 * p + 1) * c = le_trans (plus r h) (le_of_eq (sym (ap (λ (z : ℕ). z * c) (split q p e) ∙ add-mul q p c))) in
      let mid : (2 * p + 1) * (2 * p + 1) < 4 * n = go (q * q) (ap (λ (z : ℕ). z * z) (sym e ∙ sym (add-one p)) ∙ square_next p) N.low in
      lt_of_le_of_lt (square_mono sum)
      (lt_of_le_of_lt (le_of_eq (times_square (2 * p + 1) c)) (lt_of_lt_of_le (mul-lt-mul_of_pos_right mid (mul-pos (pow_pos k) (pow_pos k))) (le_of_eq (sym four))))
    where
      split : (q p : ℕ) → suc p ≡ q → 2 * p + 1 ≡ q + p
      split q p e = omega arith

      go : (z : ℕ) → z ≡ p * p + (2 * p + 1) → z < n + q → (2 * p + 1) * (2 * p + 1) < 4 * n
      go z w u = omega (arith, square-middle p)

  -- q's own square is at most n, and v is below
  just_under : q * q ≤ n → v < r → (r + v) * (r + v) < 4 * (n * 2 ^ (2 * k))
  just_under l h =
      lt_of_lt_of_le (square-lt (r + v) (2 * r) (less r v h))
      (le_trans (le_of_eq (square_twice r)) (le_trans (mul-le-mul_left 4 (le_trans (le_of_eq (times_square q c)) (mul-le-mul_right (c * c) l))) (le_of_eq (sym (mul_assoc 4 n (c * c)) ∙ sym four))))
    where
      less : (r v : ℕ) → v < r → r + v < 2 * r
      less r v h = omega arith

      square-lt : (a b : ℕ) → a < b → a * a < b * b
      square-lt a b h = lt_of_lt_of_le (omega (arith, square_next a)) (square_mono (le_trans (le_of_eq (add-one a)) h))

-- ---- the root among the values

held-root : (x : Float) (a : ℕ) → T (fits binary64 x) → T (positive x) → HasValue x false a (2 ^ 1074) → T (fits binary64 (root binary64 x))
held-root x a F P U = (rooted x a F P U).held

-- where v differs from r, the root of w lies on r's side of the middle of the two, (r + v) / 2: by squares
abbrev pub Beside : ℕ → ℕ → ℕ → Type 0
Beside w r v = (r < v → 4 * w < (r + v) * (r + v)) × (v < r → (r + v) * (r + v) < 4 * w)

pub beside_all : (x y : Float) (a r v : ℕ) → T (fits binary64 x) → T (positive x) → HasValue x false a (2 ^ 1074) → HasValue (root binary64 x) false r (2 ^ 1074)
    → T (fits binary64 y) → HasValue y false v (2 ^ 1074) → Beside (a * 2 ^ 1074) r v
beside_all x y a r v F P U R G W =
    let Z = rooted x a F P U in
    let e : r ≡ Z.q * 2 ^ Z.k = one_value (root binary64 x) r (Z.q * 2 ^ Z.k) (2 ^ 1074) R Z.is in
    subst (λ (z : ℕ). Beside (a * 2 ^ 1074) z v) (sym e) (subst (λ (w : ℕ). Beside w (Z.q * 2 ^ Z.k) v) (sym Z.square) (go Z.n Z.q Z.k Z.near Z.enough Z.low (point y v G W)))
  where
    go : (n q k : ℕ) → NearRoot n q → 2 ^ 104 ≤ n → 2 ^ 52 ≤ q → Point v → Beside (n * 2 ^ (2 * k)) (q * 2 ^ k) v
    go n q k N E L P = (λ h. above_it h, λ h. below_it h)
      where
        above_it : q * 2 ^ k < v → 4 * (n * 2 ^ (2 * k)) < (q * 2 ^ k + v) * (q * 2 ^ k + v)
        above_it h =
            let M = multiple v k P (le_trans (mul-le-mul_right (2 ^ k) L) (le_of_lt h)) in
            let l : q < M.0 = lt_of_mul-lt-mul_right (2 ^ k) (lt_of_lt_of_le h (le_of_eq M.1)) in
            over n q k v N (le_trans (mul-le-mul_right (2 ^ k) (le_trans (le_of_eq (add-one q)) l)) (le_of_eq (sym M.1)))

        before : (q : ℕ) → 2 ^ 52 ≤ q → (p : ℕ) × (suc p ≡ q)
        before zero h = absurd (not-le_of_lt (lit< tt) h)
        before (suc p) h = (p, refl)

        below_it : v < q * 2 ^ k → (q * 2 ^ k + v) * (q * 2 ^ k + v) < 4 * (n * 2 ^ (2 * k))
        below_it h = far (dec_le (2 ^ 52 * 2 ^ k) v)
          where
            step : (p u : ℕ) → suc p ≡ q → u < q → u ≤ p
            step p u e l = omega arith

            near_one : (2 ^ 52 ≡ q) ⊎ (2 ^ 52 < q) → v < 2 ^ 52 * 2 ^ k → (q * 2 ^ k + v) * (q * 2 ^ k + v) < 4 * (n * 2 ^ (2 * k))
            near_one (inl e) l = just_under n q k v N (subst (λ (z : ℕ). z * z ≤ n) e E) h
            near_one (inr g) l =
                let b = before q L in
                under n q k v N b.0 b.1 (le_trans (le_of_lt l) (mul-le-mul_right (2 ^ k) (step b.0 (2 ^ 52) b.1 g)))

            far : Dec (2 ^ 52 * 2 ^ k ≤ v) → (q * 2 ^ k + v) * (q * 2 ^ k + v) < 4 * (n * 2 ^ (2 * k))
            far (yes m) =
                let M = multiple v k P m in
                let b = before q L in
                let l : M.0 < q = lt_of_mul-lt-mul_right (2 ^ k) (lt_of_le_of_lt (le_of_eq (sym M.1)) h) in
                under n q k v N b.0 b.1 (le_trans (le_of_eq M.1) (mul-le-mul_right (2 ^ k) (step b.0 M.0 b.1 l)))
            far (no f) = near_one (eq-or-lt_of_le L) (lt_of_not-le f)

-- ---- the root within half a unit of its last place: (2 * q - 1) ^ 2 * 4 ^ k < 4 * w < (2 * q + 1) ^ 2 * 4 ^ k, with no tie on either side

pub half_unit : (n q k : ℕ) → NearRoot n q → 0 < q
    → ((2 * q - 1) * (2 * q - 1) * 2 ^ (2 * k) < 4 * (n * 2 ^ (2 * k))) × (4 * (n * 2 ^ (2 * k)) < (2 * q + 1) * (2 * q + 1) * 2 ^ (2 * k))
half_unit n zero k N p = absurd (lt_irrefl 0 p)
half_unit n (suc p) k N _ = (
  lt_of_lt_of_le (mul-lt-mul_of_pos_right (subst (λ (z : ℕ). z * z < 4 * n) (sym (odd_one p)) (low (suc p * suc p) (ap (λ (z : ℕ). z * z) (sym (add-one p)) ∙ square_next p) N.low)) (pow_pos (2 * k))) (le_of_eq (mul_assoc 4 n (2 ^ (2 * k)))),
  lt_of_le_of_lt (le_of_eq (sym (mul_assoc 4 n (2 ^ (2 * k))))) (mul-lt-mul_of_pos_right (omega (arith, square-middle (suc p), N.high)) (pow_pos (2 * k))),
)
  where
    odd_one : (p : ℕ) → 2 * suc p - 1 ≡ 2 * p + 1
    odd_one p = omega arith

    low : (z : ℕ) → z ≡ p * p + (2 * p + 1) → z < n + suc p → (2 * p + 1) * (2 * p + 1) < 4 * n
    low z e u = omega (arith, square-middle p)

-- ---- every root is a value of the format

cond_fits : (s : Bool) → T (fits binary64 (mathlib.Core.Bool.cond s nan (inf false)))
unfolding fits
cond_fits true = tt
cond_fits false = tt

pub root-fits : (x : Float) → T (fits binary64 x) → T (fits binary64 (root binary64 x))
unfolding root
root-fits nan F = F
root-fits (inf s) F = cond_fits s
root-fits (fin s zero e) F = F
root-fits (fin true (suc m) e) F = lib.Ieee.Fits.nan-fits binary64
root-fits (fin false (suc m) e) F = held-root (fin false (suc m) e) (suc m * up e * 2 ^ 1074 / down e) F (lib.Dec.lt→ltb 0 (suc m) (zero-lt-suc m)) (in-units false m e F)
