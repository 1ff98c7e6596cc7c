-- LETTERS WITHOUT INK LEFT OUT: document 02, S-6. Definitions only.
-- No player needs this part. By an earlier rule every letter had strokes, with ink or without, and a drawing was
-- `drawing_of_all`. `InklessLeftOut`, at the end, is the claim, and it is proved: the drawing is that one without the
-- strokes that have no ink; these change nothing, so that a picture drawn whole is the same by both rules; and T is the
-- letters with ink times 1 + 8o, whatever the width, the alignment and the glyph mode are.
use Rattle.std.specs.Prelude.{◌≡◌, Bool, true, false, cond, List, [], ◌∷◌, ◌++◌, map, ℕ, ◌+◌, ◌*◌, length}
use Rattle.font.specs.Font.{cell_w, table_of, glyph_rows}
use Rattle.font.specs.Ink.{has_ink, is_inked}
use Rattle.tape.specs.Runs.{Letter}
use Rattle.wrap.specs.Lines.{Line, letter_of, visible_cols, wrap_runs}
use Rattle.wrap.specs.Shown.{inked_letters}
use Rattle.compositor.specs.declared.Settings.{Settings}
use Rattle.compositor.specs.Layout.{column_limit, base_line, line_width, line_start}
use Rattle.compositor.specs.Outline.{outline_of}
use Rattle.compositor.specs.Order.{Stroke, any_letter_strokes, drawing}
use Rattle.compositor.specs.Picture.{stroke_on, strokes_on, picture_after}

-- the strokes that have ink
unfoldable pub with_ink : List Stroke → List Stroke
with_ink [] = []
with_ink (t ∷ ts) = cond (has_ink t.rows) (t ∷ with_ink ts) (with_ink ts)

-- the drawing by the earlier rule: as `line_strokes`, `lines_strokes` and `drawing`, but with the glyph of every letter
module _ (s : Settings) where
  unfoldable pub line_of_all : ℕ → ℕ → List Letter → List Stroke
  line_of_all x base [] = []
  line_of_all x base (l ∷ ls) = any_letter_strokes s l x base ++ line_of_all (x + cell_w) base ls

  unfoldable pub lines_of_all : List Letter → List Line → List Stroke
  lines_of_all ls [] = []
  lines_of_all ls (line ∷ lower) =
      line_of_all (line_start s (line_width (visible_cols ls line))) (base_line s (length lower)) (map (letter_of ls) line)
      ++ lines_of_all ls lower

  unfoldable pub drawing_of_all : List Letter → List Stroke
  drawing_of_all ls = lines_of_all ls (wrap_runs ls (column_limit s))

-- of a caption's letters
pub record InkAlone (s : Settings) (ls : List Letter) : Type 0 where
  pub left_out : drawing s ls ≡ with_ink (drawing_of_all s ls)
  pub total : length (drawing s ls) ≡ inked_letters ls * (1 + 8 * outline_of s)
  pub whole_row : (y : ℕ) (row : List ℕ) → strokes_on (drawing s ls) y row ≡ strokes_on (drawing_of_all s ls) y row
  pub whole_picture : (bytes : List ℕ)
      → picture_after s (drawing s ls) (length (drawing s ls)) bytes
      ≡ picture_after s (drawing_of_all s ls) (length (drawing_of_all s ls)) bytes

-- of every caption; of the glyphs of both fonts, in every mode; and of a stroke without ink, wherever it stands
pub record InklessLeftOut : Type 0 where
  pub rule : (bold : Bool) (mode code : ℕ) → has_ink (glyph_rows (table_of bold) mode code) ≡ is_inked code
  pub bold_alike : (mode code : ℕ)
      → has_ink (glyph_rows (table_of true) mode code) ≡ has_ink (glyph_rows (table_of false) mode code)
  pub no_ink : (t : Stroke) (y : ℕ) (row : List ℕ) → has_ink t.rows ≡ false → stroke_on t y row ≡ row
  pub of_letters : (s : Settings) (ls : List Letter) → InkAlone s ls
