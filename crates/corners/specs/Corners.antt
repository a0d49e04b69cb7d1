-- refine.rs, what a round's edges come to: the refusal under two lines, the corners where the edges
-- cross, and the answer (606 to 627). Definitions only, to be believed.
use Rattle.std.specs.Prelude.{ℕ, ◌≡◌, ◌+◌, ◌%◌, List, [], ◌∷◌, ltb, get_or, Option, None, is_some, unwrap_or, option_and_then, Result, Ok, Err, count_by, false, replicate}
use Rattle.std.specs.Result.{result_unwrap_or}
use Rattle.prelude.specs.Prelude.{when◌then◌else◌}
use Rattle.number.specs.declared.Refusal.{Refusal}
use Rattle.number.specs.declared.Refusal.TheVariants as refusal
use Rattle.number.specs.Numbers.{number_of}
use Rattle.ieee.specs.Floats.{f0}
use Rattle.pixel.specs.Pixels.{source, corner}
use Rattle.pixel.specs.declared.SourcePixel.{SourcePixel}
use Rattle.line.specs.declared.Line2.{Line2}
use Rattle.line.specs.Line.{crossing}
use Rattle.edges.specs.declared.Edges.{Edges}
use Rattle.edges.specs.Edges.{no_stat}
use Rattle.corners.specs.declared.RefinedCorners.{RefinedCorners}
use Rattle.corners.specs.declared.NumberedAnswer.{NumberedAnswer}

-- ---- answers

abbrev pub Answer : Type 0
Answer = Result RefinedCorners Refusal

-- what stands for the corners of a refusal: zeros, nothing counted, and flags off
abbrev pub nothing_refined : RefinedCorners
nothing_refined = record { corners = replicate 4 (source f0 f0); edge_stats = replicate 4 no_stat; corner_refined = replicate 4 false }

-- by its number: 0 and the corners, or the number of a refusal and what stands for them
abbrev pub numbered : Answer → NumberedAnswer
numbered a = record { number = number_of a; refined = result_unwrap_or a nothing_refined }

-- x is converted to what the answer a is, as a itself is
abbrev pub ConvertsAs : {A : Type 0} → (A → NumberedAnswer → Type 0) → A → Answer → Type 0
ConvertsAs converts x a = (given : NumberedAnswer) → converts x given → given ≡ numbered a

-- ---- the corners

abbrev pub line_in : Edges → ℕ → Option Line2
line_in es i = get_or es.lines i None

-- how many of the edges have a line
abbrev pub line_count : Edges → ℕ
line_count es = count_by is_some es.lines

-- corner i lies where the edges before and behind it cross, if both have a line; the point is computed along the one before
abbrev pub crossed_at : Edges → ℕ → Option SourcePixel
crossed_at es i =
    option_and_then (λ (before : Line2). option_and_then (λ (behind : Line2). crossing before behind) (line_in es i))
    (line_in es ((i + 3) % 4))

abbrev pub four : {A : Type 0} → (ℕ → A) → List A
four f = f 0 ∷ f 1 ∷ f 2 ∷ f 3 ∷ []

-- a corner that is not refined keeps the round's start
abbrev pub refined_corners : List SourcePixel → Edges → RefinedCorners
refined_corners q es = record {
  corners = four (λ i. unwrap_or (crossed_at es i) (corner q i));
  edge_stats = es.edge_stats;
  corner_refined = four (λ i. is_some (crossed_at es i));
}

-- ---- the end of `refine_round`

abbrev pub round_end : List SourcePixel → Edges → Answer
round_end q es = when ltb (line_count es) 2 then Err refusal.Thin else Ok (refined_corners q es)

-- where the edges may be refused: what refuses them ends the round before
abbrev pub round_ended : {R : Type 0} → List SourcePixel → Result Edges R → Result Answer R
round_ended q (Err r) = Err r
round_ended q (Ok es) = Ok (round_end q es)
