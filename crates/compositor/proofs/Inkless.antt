-- THE LAW of letters without ink (document 02, S-6): leaving their strokes out changes no picture that is drawn whole.
use mathlib.Core.Path.{◌≡◌, ◌∙◌, refl, sym, ap, ap₂}
use mathlib.Core.Bool.{Bool, true, false, cond}
use mathlib.Core.List.{List, [], ◌∷◌, ◌++◌, map}
use Prim.Native.Nat.{ℕ, ◌+◌}
use native.Mathlib.Nat.{le_refl}
use lib.ListN.{length, replicate}
use lib.Seq.{take_all}
use Rattle.font.specs.Font.{cell_w}
use Rattle.font.specs.Ink.{has_ink}
use Rattle.font.specs.Slant.{row_offsets}
use Rattle.font.specs.Paint.{each_row}
use Rattle.font.proofs.EveryEntry.{All, all_append}
use Rattle.font.proofs.Ink.{ink_rule, bold_ink, no_ink_lem}
use Rattle.tape.specs.Runs.{Letter}
use Rattle.wrap.specs.Lines.{Line, letter_of, visible_cols, wrap_runs}
use Rattle.compositor.specs.declared.Settings.{Settings}
use Rattle.compositor.specs.Settings.{row_bytes}
use Rattle.compositor.specs.Layout.{column_limit, base_line, line_width, line_start}
use Rattle.compositor.specs.Outline.{outline_of, displacements}
use Rattle.compositor.specs.Order.{Stroke, stroke, outline_strokes, glyph_strokes, color_of, letter_rows, letter_slant, any_letter_strokes, line_strokes, lines_strokes, drawing}
use Rattle.compositor.specs.Picture.{stroke_on, strokes_on, row_after}
use Rattle.compositor.specs.Inkless.{with_ink, line_of_all, lines_of_all, drawing_of_all, InkAlone, InklessLeftOut}
use Rattle.compositor.proofs.Total.{total}

-- ---- strokes without ink, left out of a list

ink_append : (a b : List Stroke) → with_ink (a ++ b) ≡ with_ink a ++ with_ink b
unfolding with_ink
ink_append [] b = refl
ink_append (t ∷ a) b = by (has_ink t.rows) (ink_append a b)
  where
    by : (i : Bool) → with_ink (a ++ b) ≡ with_ink a ++ with_ink b → cond i (t ∷ with_ink (a ++ b)) (with_ink (a ++ b)) ≡ cond i (t ∷ with_ink a) (with_ink a) ++ with_ink b
    by true e = ap (λ (ts : List Stroke). t ∷ ts) e
    by false e = e

-- strokes that all have ink, or all have none
alike_ink : (b : Bool) (ts : List Stroke) → All (λ t. has_ink t.rows ≡ b) ts → with_ink ts ≡ cond b ts []
unfolding with_ink
alike_ink true [] e = refl
alike_ink false [] e = refl
alike_ink true (t ∷ ts) e = rw e.0 (ap (λ (us : List Stroke). t ∷ us) (alike_ink true ts e.1))
alike_ink false (t ∷ ts) e = rw e.0 (alike_ink false ts e.1)

-- those of one glyph
module _ (rows offsets : List ℕ) where
  abbrev Ink : Stroke → Type 0
  Ink t = has_ink t.rows ≡ has_ink rows

  outline_ink : (k : List ℕ) (o x base : ℕ) (ds : List (ℕ × ℕ)) → All Ink (outline_strokes rows offsets k o x base ds)
  outline_ink k o x base [] = tt
  outline_ink k o x base (d ∷ ds) = (refl, outline_ink k o x base ds)

  glyph_ink : (k own : List ℕ) (o x base : ℕ) →
      let ts = glyph_strokes rows offsets k own o x base in
      with_ink ts ≡ cond (has_ink rows) ts []
  unfolding glyph_strokes
  glyph_ink k own o x base =
      alike_ink (has_ink rows) (glyph_strokes rows offsets k own o x base)
      (all_append Ink (outline_strokes rows offsets k o x base (displacements o)) (stroke rows offsets own x base ∷ [])
      (outline_ink k o x base (displacements o)) (refl, tt))

module _ (s : Settings) where
  line_ink : (x base : ℕ) (ls : List Letter) → line_strokes s x base ls ≡ with_ink (line_of_all s x base ls)
  unfolding line_strokes line_of_all with_ink
  line_ink x base [] = refl
  line_ink x base (l ∷ ls) =
      ap₂ (λ (a b : List Stroke). a ++ b) (sym (glyph_ink (letter_rows s l) (row_offsets (letter_slant s l)) s.outline_color (color_of l.style) (outline_of s) x base)) (line_ink (x + cell_w) base ls)
      ∙ sym (ink_append (any_letter_strokes s l x base) (line_of_all s (x + cell_w) base ls))

  lines_ink : (ls : List Letter) (lines : List Line) → lines_strokes s ls lines ≡ with_ink (lines_of_all s ls lines)
  unfolding lines_strokes lines_of_all with_ink
  lines_ink ls [] = refl
  lines_ink ls (line ∷ lower) =
      let x = line_start s (line_width (visible_cols ls line)) in
      let base = base_line s (length lower) in
      ap₂ (λ (a b : List Stroke). a ++ b) (line_ink x base (map (letter_of ls) line)) (lines_ink ls lower)
      ∙ sym (ink_append (line_of_all s x base (map (letter_of ls) line)) (lines_of_all s ls lower))

  left_out_lem : (ls : List Letter) → drawing s ls ≡ with_ink (drawing_of_all s ls)
  unfolding drawing drawing_of_all
  left_out_lem ls = lines_ink ls (wrap_runs ls (column_limit s))

-- ---- on a row, and on all rows

strokes_ink : (ts : List Stroke) (y : ℕ) (row : List ℕ) → strokes_on (with_ink ts) y row ≡ strokes_on ts y row
unfolding strokes_on with_ink
strokes_ink [] y row = refl
strokes_ink (t ∷ ts) y row = by (has_ink t.rows) refl (strokes_ink ts)
  where
    by : (b : Bool) → has_ink t.rows ≡ b → ((y : ℕ) (row : List ℕ) → strokes_on (with_ink ts) y row ≡ strokes_on ts y row)
        → strokes_on (cond b (t ∷ with_ink ts) (with_ink ts)) y row ≡ strokes_on ts y (stroke_on t y row)
    by true e rest = rest y (stroke_on t y row)
    by false e rest =
        rest y row ∙ ap (strokes_on ts y) (sym (no_ink_lem t.rows t.offsets t.color t.x t.base y row e))

-- all strokes of a list on a picture's row
whole_row_lem : (s : Settings) (ts : List Stroke) (y : ℕ) → row_after s ts (length ts) y ≡ strokes_on ts y (replicate (row_bytes s) 0)
unfolding row_after
whole_row_lem s ts y = ap (λ (us : List Stroke). strokes_on us y (replicate (row_bytes s) 0)) (take_all (length ts) ts (le_refl (length ts)))

ink_alone : (s : Settings) (ls : List Letter) → InkAlone s ls
ink_alone s ls =
    record {
      left_out = left_out_lem s ls;
      total = total s ls;
      whole_row = row;
      whole_picture = λ bytes i. each_row (λ y r. picture_row y i) (row_bytes s) s.height 0 bytes;
    }
  where
    row : (y : ℕ) (row : List ℕ) → strokes_on (drawing s ls) y row ≡ strokes_on (drawing_of_all s ls) y row
    row y r = ap (λ (ts : List Stroke). strokes_on ts y r) (left_out_lem s ls) ∙ strokes_ink (drawing_of_all s ls) y r

    picture_row : (y : ℕ) → row_after s (drawing s ls) (length (drawing s ls)) y ≡ row_after s (drawing_of_all s ls) (length (drawing_of_all s ls)) y
    picture_row y = whole_row_lem s (drawing s ls) y ∙ row y (replicate (row_bytes s) 0) ∙ sym (whole_row_lem s (drawing_of_all s ls) y)

pub inkless_left_out : InklessLeftOut
inkless_left_out =
    record {
      rule = ink_rule;
      bold_alike = bold_ink;
      no_ink = λ t y row. no_ink_lem t.rows t.offsets t.color t.x t.base y row;
      of_letters = ink_alone;
    }
