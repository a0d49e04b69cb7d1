-- The result card, as it is written: rows of corners, counts and flags, each behind its header, and the six pieces one behind the other. Assumes
-- nothing.
use Prim.Native.Nat.{ℕ, ◌+◌, ◌*◌, ◌≤◌}
use mathlib.Core.Path.{◌≡◌, refl, ap, ◌∙◌}
use mathlib.Core.List.{List, ◌∷◌, ◌++◌, append_assoc}
use native.Mathlib.Omega.{arith}
use lib.ListN.{length, length-append, drop}
use lib.Seq.{sets, sets-eq}
use Rattle.corners.specs.declared.RefinedCorners.{RefinedCorners}
use Rattle.fields.specs.Fields.{bytes_of}
use Rattle.fields.proofs.Writes.{Row, length-bytes, length_float, length-row}
use Rattle.result_card.specs.declared.form.Form.{Form}
use Rattle.result_card.specs.ResultCard.{tag, stat_size, corner_bytes, stat_bytes, flag_bytes, result_card, corners_size, stats_size, flags_size, card_size}

pub corner-row : Row corner_bytes 16
corner-row = record {
  none = refl;
  one = λ c cs. simp append_assoc;
  wide = λ c. simp (length-append, length_float);
}

pub stat-row : (f : Form) → Row (stat_bytes f) (stat_size f)
stat-row f = record {
  none = refl;
  one = λ e es. simp append_assoc;
  wide = λ e. simp (length-append, length-bytes) (omega arith);
}

pub flag_row : Row flag_bytes 1
flag_row = record { none = refl; one = λ b bs. refl; wide = λ b. refl }

-- ---- the result card, as it is written: three headers, each with its contents behind it

abbrev pub header : ℕ → ℕ → List ℕ
header tag size = tag ∷ bytes_of 2 size

module _ (f : Form) (r : RefinedCorners) (corners : length r.corners ≡ 4) (stats : length r.edge_stats ≡ 4) (flags : length r.corner_refined ≡ 4) where
  pub long_corners : length (corner_bytes r.corners) ≡ corners_size
  long_corners = length-row corner-row r.corners ∙ ap (λ (n : ℕ). 16 * n) corners

  pub long_stats : length (stat_bytes f r.edge_stats) ≡ stats_size f
  long_stats = length-row (stat-row f) r.edge_stats ∙ omega (arith, ap (λ (n : ℕ). stat_size f * n) stats)

  pub long_flags : length (flag_bytes r.corner_refined) ≡ flags_size
  long_flags = length-row flag_row r.corner_refined ∙ ap (λ (n : ℕ). 1 * n) flags

  pub laid_out : result_card f r
      ≡ header 16 corners_size
      ++ (corner_bytes r.corners ++ (header (tag f) (stats_size f) ++ (stat_bytes f r.edge_stats ++ (header 18 flags_size ++ flag_bytes r.corner_refined))))
  laid_out =
      let corners = corner_bytes r.corners in
      let stats = stat_bytes f r.edge_stats in
      let flags = header 18 flags_size ++ flag_bytes r.corner_refined in
      let counted = header (tag f) (stats_size f) ++ stats in
      rw (long_corners, long_stats, long_flags)
      (append_assoc (header 16 corners_size ++ corners) counted flags
      ∙ append_assoc (header 16 corners_size) corners (counted ++ flags)
      ∙ ap (λ (l : List ℕ). header 16 corners_size ++ (corners ++ l)) (append_assoc (header (tag f) (stats_size f)) stats flags))

  pub length-result : length (result_card f r) ≡ card_size f
  length-result = ap length laid_out ∙ simp (length-append, length-bytes, long_corners, long_stats, long_flags) (omega arith)

-- written to the front of a buffer, with what was behind it there
pub at_front : (card before after : List ℕ) (n : ℕ) → length card ≡ n → n ≤ length before → after ≡ sets before 0 card → after ≡ card ++ drop n before
at_front card before after n long room wrote =
    let end : 0 + length card ≡ n = omega (arith, long) in
    wrote ∙ sets-eq card before 0 (omega (arith, long)) ∙ rw end
