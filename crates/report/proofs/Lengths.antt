-- How long the lines of an answer are at most. Assumes nothing.
use Prim.Native.Nat.{ℕ, ◌*◌, ◌≤◌}
use mathlib.Core.Bool.{Bool, false}
use mathlib.Core.List.{List, ◌++◌}
use native.Mathlib.Omega.{arith}
use lib.Ieee.{binary64, to_bits}
use lib.ListN.{length, length-append, get_or}
use Rattle.prelude.specs.Prelude.{bit}
use Rattle.prelude.proofs.Branches.{either}
use Rattle.number.specs.Numbers as number
use Rattle.pixel.specs.Pixels.{corner}
use Rattle.pixel.specs.declared.SourcePixel.{SourcePixel}
use Rattle.fit.specs.declared.EdgeStat.{EdgeStat}
use Rattle.fit.specs.Fit.{stat}
use Rattle.corners.specs.declared.RefinedCorners.{RefinedCorners}
use Rattle.corners.specs.declared.NumberedAnswer.{NumberedAnswer}
use Rattle.std.specs.Prelude.{eqb, Ok, Err}
use Rattle.corners.specs.Corners.{Answer, numbered}
use Rattle.text.proofs.Digits.{length-decimal, length-hexadecimal}
use Rattle.report.specs.Lines.{result_line, corner_line, edge_line, each_of_four, corner_lines, edge_lines, numbered_lines, answer_lines}

length-result : (n : ℕ) → length (result_line n) ≤ 28
length-result n = simp length-append (omega (arith, length-decimal n))

length-corner : (i : ℕ) (c : SourcePixel) (refined : Bool) → length (corner_line i c refined) ≤ 83
length-corner i c refined = simp length-append (omega (arith, length-decimal i, length-hexadecimal (to_bits binary64 c.0), length-hexadecimal (to_bits binary64 c.1), length-decimal (bit refined)))

length-edge : (i : ℕ) (e : EdgeStat) → length (edge_line i e) ≤ 110
length-edge i e = simp length-append (omega (arith, length-decimal i, length-decimal e.points_probed, length-decimal e.points_fit, length-decimal e.dropped_outliers, length-decimal (bit e.valid)))

length-four : (f : ℕ → List ℕ) (most : ℕ) → ((i : ℕ) → length (f i) ≤ most) → length (each_of_four f) ≤ 4 * most
length-four f most short = simp length-append (omega (arith, short 0, short 1, short 2, short 3))

length_corners : (r : RefinedCorners) → length (corner_lines r) ≤ 332
length_corners r =
    length-four (λ i. corner_line i (corner r.corners i) (get_or r.corner_refined i false)) 83
    (λ i. length-corner i (corner r.corners i) (get_or r.corner_refined i false))

length_edges : (r : RefinedCorners) → length (edge_lines r) ≤ 440
length_edges r =
    length-four (λ i. edge_line i (get_or r.edge_stats i (stat 0 0 0 false))) 110
    (λ i. length-edge i (get_or r.edge_stats i (stat 0 0 0 false)))

-- whatever its number
pub length-numbered : (a : NumberedAnswer) → length (numbered_lines a) ≤ 800
length-numbered a =
    let lines = corner_lines a.refined ++ edge_lines a.refined in
    let long : length (result_line a.number ++ lines) ≤ 800 =
    rw (length-append (result_line a.number) lines, length-append (corner_lines a.refined) (edge_lines a.refined))
    (omega (arith, length-result a.number, length_corners a.refined, length_edges a.refined)) in
    let short : length (result_line a.number) ≤ 800 = omega (arith, length-result a.number) in
    either (λ (text : List ℕ). length text ≤ 800) (eqb a.number number.answer) long short

pub length-answer : (a : Answer) → length (answer_lines a) ≤ 800
length-answer (Ok r) = length-numbered (numbered (Ok r))
length-answer (Err refusal) = omega (arith, length-result (number.number refusal))
