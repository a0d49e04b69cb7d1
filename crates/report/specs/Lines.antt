-- The lines that document 01 prints of an answer, in ASCII. Definitions only, to be believed.
--   result NUMBER
-- and after 0, for each of the indices 0 to 3,
--   corner INDEX X Y FLAG       x and y as the 16 hexadecimal digits of their bits
--   edge INDEX PROBED FIT DROPPED VALID
use Rattle.std.specs.Prelude.{ℕ, zero, suc, Bool, false, List, [], ◌∷◌, ◌++◌, eqb, get_or, Ok, Err}
use Rattle.std.specs.Float.{binary64}
use Rattle.std.specs.Float.Ieee.{to_bits}
use Rattle.prelude.specs.Prelude.{when◌then◌else◌, bit}
use Rattle.number.specs.Numbers as number
use Rattle.text.specs.Text.{decimal, hexadecimal}
use Rattle.pixel.specs.Pixels.{corner}
use Rattle.pixel.specs.declared.SourcePixel.{SourcePixel}
use Rattle.fit.specs.declared.EdgeStat.{EdgeStat}
use Rattle.fit.specs.Fit.{stat}
use Rattle.corners.specs.declared.RefinedCorners.{RefinedCorners}
use Rattle.corners.specs.declared.NumberedAnswer.{NumberedAnswer}
use Rattle.corners.specs.Corners.{Answer}

-- ---- lines

-- a line's end
abbrev pub end : List ℕ
end = 10 ∷ []

-- result
abbrev pub result_line : ℕ → List ℕ
result_line n = (114 ∷ 101 ∷ 115 ∷ 117 ∷ 108 ∷ 116 ∷ []) ++ (decimal n ++ end)

-- corner
abbrev pub corner_line : ℕ → SourcePixel → Bool → List ℕ
corner_line i c refined =
    (99 ∷ 111 ∷ 114 ∷ 110 ∷ 101 ∷ 114 ∷ [])
    ++ (decimal i ++ (hexadecimal (to_bits binary64 c.0) ++ (hexadecimal (to_bits binary64 c.1) ++ (decimal (bit refined) ++ end))))

-- edge
abbrev pub edge_line : ℕ → EdgeStat → List ℕ
edge_line i e =
    (101 ∷ 100 ∷ 103 ∷ 101 ∷ [])
    ++ (decimal i ++ (decimal e.points_probed ++ (decimal e.points_fit ++ (decimal e.dropped_outliers ++ (decimal (bit e.valid) ++ end)))))

-- those of the indices below n
abbrev pub each_below : ℕ → (ℕ → List ℕ) → List ℕ
each_below zero f = []
each_below (suc n) f = each_below n f ++ f n

-- one for each of the indices
abbrev pub each_of_four : (ℕ → List ℕ) → List ℕ
each_of_four f = each_below 4 f

abbrev pub corner_lines : RefinedCorners → List ℕ
corner_lines r = each_of_four (λ i. corner_line i (corner r.corners i) (get_or r.corner_refined i false))

abbrev pub edge_lines : RefinedCorners → List ℕ
edge_lines r = each_of_four (λ i. edge_line i (get_or r.edge_stats i (stat 0 0 0 false)))

-- ---- an answer

-- whatever its number: the corners and edges have lines behind 0 alone
abbrev pub numbered_lines : NumberedAnswer → List ℕ
numbered_lines a =
    when eqb a.number number.answer then result_line a.number ++ (corner_lines a.refined ++ edge_lines a.refined) else
    result_line a.number

abbrev pub answer_lines : Answer → List ℕ
answer_lines (Ok r) = result_line number.answer ++ (corner_lines r ++ edge_lines r)
answer_lines (Err refusal) = result_line (number.number refusal)
