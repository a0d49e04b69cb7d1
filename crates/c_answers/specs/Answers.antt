-- How the refinement calls for C and Rust write an answer into the buffers that they are lent. A value
-- past the end of a buffer is left out. Definitions only, to be believed.
use Rattle.std.specs.Prelude.{ℕ, ◌+◌, ◌≡◌, Bool, false, List, get_or, set, Float}
use Rattle.std.specs.Result.{result_unwrap_or}
use Rattle.prelude.specs.Prelude.{bit}
use Rattle.number.specs.Numbers.{number_of}
use Rattle.pixel.specs.Pixels.{corner}
use Rattle.pixel.specs.declared.SourcePixel.{SourcePixel}
use Rattle.fit.specs.declared.EdgeStat.{EdgeStat}
use Rattle.edges.specs.Edges.{no_stat}
use Rattle.corners.specs.declared.RefinedCorners.{RefinedCorners}
use Rattle.corners.specs.declared.NumberedAnswer.{NumberedAnswer}
use Rattle.corners.specs.Corners.{Answer, nothing_refined}
use Rattle.c_buffers.specs.Buffers.{with_place_at}

-- the corners x0, y0 to x3, y3
abbrev pub with_corners : List SourcePixel → List Float → List Float
with_corners q out = with_place_at 6 (corner q 3) (with_place_at 4 (corner q 2) (with_place_at 2 (corner q 1) (with_place_at 0 (corner q 0) out)))

-- probed, fit, dropped, valid from an index on
abbrev pub with_stat : ℕ → EdgeStat → List ℕ → List ℕ
with_stat at e out =
    set (set (set (set out at e.points_probed) (at + 1) e.points_fit) (at + 2) e.dropped_outliers) (at + 3) (bit e.valid)

abbrev pub stat_of : List EdgeStat → ℕ → EdgeStat
stat_of es i = get_or es i no_stat

abbrev pub with_stats : List EdgeStat → List ℕ → List ℕ
with_stats es out = with_stat 12 (stat_of es 3) (with_stat 8 (stat_of es 2) (with_stat 4 (stat_of es 1) (with_stat 0 (stat_of es 0) out)))

abbrev pub flag_of : List Bool → ℕ → ℕ
flag_of fs i = bit (get_or fs i false)

-- four flags, behind the stats
abbrev pub with_flags : List Bool → List ℕ → List ℕ
with_flags fs out = set (set (set (set out 16 (flag_of fs 0)) 17 (flag_of fs 1)) 18 (flag_of fs 2)) 19 (flag_of fs 3)

abbrev pub with_counts : RefinedCorners → List ℕ → List ℕ
with_counts r out = with_flags r.corner_refined (with_stats r.edge_stats out)

-- A number is returned; the corners beside it take the places from ps to ps', and the rest the counts from ns to ns'.
pub record WrittenNumbered (a : NumberedAnswer) (n : ℕ) (ps ps' : List Float) (ns ns' : List ℕ) : Type 0 where
  pub number : n ≡ a.number
  pub places : ps' ≡ with_corners a.refined.corners ps
  pub counts : ns' ≡ with_counts a.refined ns

-- what is written of an answer: zeros, nothing counted and flags off where it is a refusal
abbrev pub written : Answer → RefinedCorners
written a = result_unwrap_or a nothing_refined

-- An answer's number is returned, its corners take the places from ps to ps', and the rest of it the counts from ns to ns'.
pub record Written (a : Answer) (n : ℕ) (ps ps' : List Float) (ns ns' : List ℕ) : Type 0 where
  pub number : n ≡ number_of a
  pub places : ps' ≡ with_corners (written a).corners ps
  pub counts : ns' ≡ with_counts (written a) ns
