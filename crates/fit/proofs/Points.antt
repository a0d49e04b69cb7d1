-- Points that are lent as three lists: what the fits, the residuals and the dropping of points are of the lists. Assumes nothing.
use mathlib.Core.Path.{◌≡◌, refl, ap, sym, ◌∙◌}
use Prim.Native.Nat.{ℕ, zero, suc, ◌+◌, ◌-◌, ◌≤◌, ◌<◌, min}
use native.Mathlib.Numerals.{add-one}
use native.Mathlib.Omega.{arith}
use mathlib.Core.Bool.{Bool, true, false}
use mathlib.Core.List.{List, [], ◌∷◌, ◌++◌, map}
use lib.ListN.{length, take, set}
use lib.Seq.{length-take-le, take-suc-set, ext_get_or}
use lib.Ieee.{Float, nan}
use lib.Dec.{ltb}
use Rattle.std.proofs.lemmas.List.{take_min}
use Rattle.prelude.specs.Prelude.{when◌then◌else◌}
use Rattle.std.specs.Prelude.{Ok, None}
use Rattle.ieee.specs.Floats.{◌≼◌}
use Rattle.consts.specs.Consts.{max_edge_points}
use Rattle.consts.specs.declared.Settings.{Settings}
use Rattle.pixel.specs.Pixels.{source, edge_point}
use Rattle.pixel.specs.declared.EdgePoint.{EdgePoint}
use Rattle.float_lists.specs.Sums.{at}
use Rattle.line_fit.specs.LineFit.{fit_line}
use Rattle.line_fit.specs.declared.Points.{Points as LinePoints}
use Rattle.line.specs.declared.Line2.{Line2}
use Rattle.fit.specs.Lent.{HasRoom, Paired}
use Rattle.fit.specs.Fit.{points_of, fit_points, residual, residuals, inliers, stat, edge_fit, lined, refit, first_fit, fit_edge}

-- ---- three lists of one length, element by element

data Alike : (xs ys ws : List Float) → Type 0 where
  none : Alike [] [] []
  more : {x y w : Float} {xs ys ws : List Float} → Alike xs ys ws → Alike (x ∷ xs) (y ∷ ys) (w ∷ ws)

alike : (xs ys ws : List Float) → length ys ≡ length xs → length ws ≡ length xs → Alike xs ys ws
alike [] [] [] p q = none
alike [] (y ∷ ys) ws p q = absurd (omega arith)
alike [] [] (w ∷ ws) p q = absurd (omega arith)
alike (x ∷ xs) [] ws p q = absurd (omega arith)
alike (x ∷ xs) (y ∷ ys) [] p q = absurd (omega arith)
alike (x ∷ xs) (y ∷ ys) (w ∷ ws) p q = more (alike xs ys ws (omega arith) (omega arith))

same_lengths : {xs ys ws : List Float} → Alike xs ys ws → (length ys ≡ length xs) × (length ws ≡ length xs)
same_lengths none = (refl, refl)
same_lengths (more a) = (ap suc (same_lengths a).0, ap suc (same_lengths a).1)

length-points : {xs ys ws : List Float} → Alike xs ys ws → length (points_of xs ys ws) ≡ length xs
unfolding points_of
length-points none = refl
length-points (more a) = ap suc (length-points a)

-- what was lent is read back
columns : {xs ys ws : List Float} → Alike xs ys ws →
    (map (λ (p : EdgePoint). p.pos.0) (points_of xs ys ws) ≡ xs) × (map (λ (p : EdgePoint). p.pos.1) (points_of xs ys ws) ≡ ys) × (map (λ (p : EdgePoint). p.weight) (points_of xs ys ws) ≡ ws)
unfolding points_of
columns none = (refl, refl, refl)
columns (more {x} {y} {w} a) =
    (ap (λ (l : List Float). x ∷ l) (columns a).0, ap (λ (l : List Float). y ∷ l) (columns a).1, ap (λ (l : List Float). w ∷ l) (columns a).2)

residual-at : (l : Line2) {xs ys ws : List Float} (k : ℕ) → Alike xs ys ws → k < length xs → at (residuals l (points_of xs ys ws)) k ≡ residual l (source (at xs k) (at ys k))
unfolding points_of residuals
residual-at l k none h = absurd (omega arith)
residual-at l zero (more a) h = refl
residual-at l (suc k) (more a) h = residual-at l k a (omega arith)

length-residuals : (l : Line2) (ps : List EdgePoint) → length (residuals l ps) ≡ length ps
unfolding residuals
length-residuals l [] = refl
length-residuals l (p ∷ ps) = ap suc (length-residuals l ps)

-- ---- the first points at most are those of the first x, y and weights

pub take-points : (n : ℕ) (xs ys ws : List Float) → points_of (take n xs) (take n ys) (take n ws) ≡ take n (points_of xs ys ws)
unfolding points_of
take-points zero xs ys ws = refl
take-points (suc n) [] ys ws = refl
take-points (suc n) (x ∷ xs) [] ws = refl
take-points (suc n) (x ∷ xs) (y ∷ ys) [] = refl
take-points (suc n) (x ∷ xs) (y ∷ ys) (w ∷ ws) = ap (λ (l : List EdgePoint). edge_point (source x y) w ∷ l) (take-points n xs ys ws)

-- there are as many points as there are of the fewest
length-points_of : (xs ys ws : List Float) → length (points_of xs ys ws) ≡ min (length xs) (min (length ys) (length ws))
unfolding points_of
length-points_of [] ys ws = omega arith
length-points_of (x ∷ xs) [] ws = omega arith
length-points_of (x ∷ xs) (y ∷ ys) [] = omega arith
length-points_of (x ∷ xs) (y ∷ ys) (w ∷ ws) = omega (arith, length-points_of xs ys ws)

-- so the first of each list, where they are as many as the first m points, are those points
pub first-points : (m n : ℕ) (xs ys ws : List Float) → n ≡ min m (min (length xs) (min (length ys) (length ws))) → points_of (take n xs) (take n ys) (take n ws) ≡ take m (points_of xs ys ws)
first-points m n xs ys ws e =
    let q : n ≡ min m (length (points_of xs ys ws)) = omega (arith, length-points_of xs ys ws) in
    take-points n xs ys ws ∙ ap (λ (k : ℕ). take k (points_of xs ys ws)) q ∙ take_min m (points_of xs ys ws)

-- the first n of a list at the front of another
pub copied : (n : ℕ) (xs to : List Float) → n ≤ length xs → take (length (take n xs)) to ≡ take n xs → take n to ≡ take n xs
copied n xs to h e = rw (length-take-le n xs h) at e

-- ---- the inliers of the points are those of the x, y and weights

inliers_alike : (most : Float) (rs : List Float) {xs ys ws : List Float} → Alike xs ys ws → Alike (inliers most rs xs) (inliers most rs ys) (inliers most rs ws)
unfolding inliers
inliers_alike most [] a = none
inliers_alike most (r ∷ rs) none = none
inliers_alike most (r ∷ rs) (more {x} {y} {w} {xs} {ys} {ws} a) = by (r ≼ most) (inliers_alike most rs a)
  where
    by : (b : Bool) → Alike (inliers most rs xs) (inliers most rs ys) (inliers most rs ws) →
        Alike (when b then x ∷ inliers most rs xs else inliers most rs xs) (when b then y ∷ inliers most rs ys else inliers most rs ys) (when b then w ∷ inliers most rs ws else inliers most rs ws)
    by true i = more i
    by false i = i

inliers-points : (most : Float) (rs : List Float) {xs ys ws : List Float} → Alike xs ys ws → points_of (inliers most rs xs) (inliers most rs ys) (inliers most rs ws) ≡ inliers most rs (points_of xs ys ws)
unfolding inliers points_of
inliers-points most [] a = refl
inliers-points most (r ∷ rs) none = refl
inliers-points most (r ∷ rs) (more {x} {y} {w} {xs} {ys} {ws} a) = by (r ≼ most) (inliers-points most rs a)
  where
    by : (b : Bool) → points_of (inliers most rs xs) (inliers most rs ys) (inliers most rs ws) ≡ inliers most rs (points_of xs ys ws) →
        points_of (when b then x ∷ inliers most rs xs else inliers most rs xs) (when b then y ∷ inliers most rs ys else inliers most rs ys) (when b then w ∷ inliers most rs ws else inliers most rs ws)
        ≡ (when b then edge_point (source x y) w ∷ inliers most rs (points_of xs ys ws) else inliers most rs (points_of xs ys ws))
    by true i = ap (λ (l : List EdgePoint). edge_point (source x y) w ∷ l) i
    by false i = i

-- one more behind the others
points-behind : {xs ys ws : List Float} (x y w : Float) → Alike xs ys ws → points_of (xs ++ x ∷ []) (ys ++ y ∷ []) (ws ++ w ∷ []) ≡ points_of xs ys ws ++ edge_point (source x y) w ∷ []
unfolding points_of
points-behind x y w none = refl
points-behind x y w (more {x = a} {y = b} {w = c} h) = ap (λ (l : List EdgePoint). edge_point (source a b) c ∷ l) (points-behind x y w h)

-- ---- the definitions, of points that are lent

-- the points of a line's fit, of which there is room for as many
pub paired : (ps : LinePoints) → length ps.xs.now ≤ max_edge_points → Paired ps.xs.now ps.ys.now ps.weights.now
paired ps few = record { ys_too = ps.ys_too; weights_too = ps.weights_too; few = few }

module _ {xs ys ws : List Float} (lists : Paired xs ys ws) where
  lent : Alike xs ys ws
  lent = alike xs ys ws lists.ys_too lists.weights_too

  pub length-edge_points : length (points_of xs ys ws) ≡ length xs
  length-edge_points = length-points lent

  pub fit_points-lent : fit_line xs ys ws ≡ fit_points (points_of xs ys ws)
  unfolding fit_points
  fit_points-lent = rw ((columns lent).0, (columns lent).1, (columns lent).2)

  pub residuals-are : (l : Line2) (v : List Float) → length v ≡ length xs → ((k : ℕ) → k < length xs → at v k ≡ residual l (source (at xs k) (at ys k))) →
      v ≡ residuals l (points_of xs ys ws)
  residuals-are l v n inv =
      ext_get_or nan v (residuals l (points_of xs ys ws))
      (n ∙ sym (length-residuals l (points_of xs ys ws) ∙ length-edge_points))
      (λ i q. inv i (omega arith) ∙ sym (residual-at l i lent (omega arith)))

  -- the lists of what stays are those of the points that stay
  module _ (most : Float) (rs : List Float) {a b d : List Float} (p : a ≡ inliers most rs xs) (q : b ≡ inliers most rs ys) (r : d ≡ inliers most rs ws) where
    pub kept_alike : (length b ≡ length a) × (length d ≡ length a)
    kept_alike = rw (p, q, r) (same_lengths (inliers_alike most rs lent))

    pub kept-points : points_of a b d ≡ inliers most rs (points_of xs ys ws)
    kept-points = rw (p, q, r) (inliers-points most rs lent)

  module _ (s : Settings) (probed : ℕ) where
    pub refit-lent : (all : ℕ) → refit s probed all (points_of xs ys ws)
        ≡ (when ltb (length xs) s.min_edge_points then Ok (edge_fit None (stat probed (length xs) (all - length xs) false)) else
        lined (stat probed (length xs) (all - length xs) true) (fit_line xs ys ws))
    unfolding refit
    refit-lent all = rw (length-edge_points, ← fit_points-lent)

    pub edge-lent : (m : Float) → fit_edge s probed m (points_of xs ys ws)
        ≡ (when ltb (length xs) s.min_edge_points then Ok (edge_fit None (stat probed 0 0 false)) else
        first_fit s probed m (points_of xs ys ws) (fit_line xs ys ws))
    unfolding fit_edge
    edge-lent m = rw (length-edge_points, ← fit_points-lent)

-- ---- the points in a room of lists, of which each holds n

module _ (n : ℕ) (xs ys ws rs : List Float) (room : HasRoom n xs ys ws rs) where
  front : Alike (take n xs) (take n ys) (take n ws)
  front =
      let of_x = length-take-le n xs (omega (arith, room.few, room.xs_room)) in
      let of_y = length-take-le n ys (omega (arith, room.few, room.ys_room)) in
      let of_w = length-take-le n ws (omega (arith, room.few, room.weights_room)) in
      alike (take n xs) (take n ys) (take n ws) (of_y ∙ sym of_x) (of_w ∙ sym of_x)

  pub length-held : length (points_of (take n xs) (take n ys) (take n ws)) ≡ n
  length-held = length-points front ∙ length-take-le n xs (omega (arith, room.few, room.xs_room))

  -- a point is put behind them
  pub one_more : (x y w : Float) → n < max_edge_points →
      points_of (take (n + 1) (set xs n x)) (take (n + 1) (set ys n y)) (take (n + 1) (set ws n w)) ≡ points_of (take n xs) (take n ys) (take n ws) ++ edge_point (source x y) w ∷ []
  one_more x y w h =
      rw (add-one n, take-suc-set xs n x (omega (arith, room.xs_room)), take-suc-set ys n y (omega (arith, room.ys_room)), take-suc-set ws n w (omega (arith, room.weights_room)))
      (points-behind x y w front)
