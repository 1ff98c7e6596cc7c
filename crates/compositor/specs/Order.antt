-- THE ONE DRAWING ORDER: document 01, "Places and strokes", second paragraph; 02, S-6, S-10. Definitions only.
-- A caption's strokes are one list: line after line from the top, letter after letter, and of each letter with ink its
-- outline's strokes and then its own. Strokes are counted along this list, so that a row's history is measured in inked
-- strokes: a space, or any other letter whose glyph has no ink, takes its cell and has none.
use Rattle.std.specs.Prelude.{cond, List, [], ◌∷◌, ◌++◌, map, ℕ, ◌+◌, ◌-◌, length}
use Rattle.font.specs.Font.{cell_w, table_of, glyph_rows}
use Rattle.font.specs.Ink.{has_ink}
use Rattle.font.specs.Slant.{row_offsets}
use Rattle.tape.specs.declared.Style.{Style}
use Rattle.tape.specs.Runs.{Letter}
use Rattle.wrap.specs.Lines.{Line, letter_of, visible_cols, wrap_runs}
use Rattle.compositor.specs.declared.Settings.{Settings}
use Rattle.compositor.specs.Layout.{column_limit, base_line, line_width, line_start}
use Rattle.compositor.specs.Outline.{outline_of, displacements}

-- a stroke: a glyph's sixteen rows, the offsets by which they are moved, a color, and the positions of the glyph's left
-- column and of its base line
pub record Stroke : Type 0 where
  pub rows : List ℕ
  pub offsets : List ℕ
  pub color : List ℕ
  pub x : ℕ
  pub base : ℕ

abbrev pub stroke : List ℕ → List ℕ → List ℕ → ℕ → ℕ → Stroke
stroke rows offsets k x base = record { rows = rows; offsets = offsets; color = k; x = x; base = base }

-- a glyph's strokes in the color k of an outline, at the displacements ds; each is written o larger than it is, so o is
-- taken off
abbrev pub outline_strokes : List ℕ → List ℕ → List ℕ → ℕ → ℕ → ℕ → List (ℕ × ℕ) → List Stroke
outline_strokes rows offsets k o x base ds = map (λ d. stroke rows offsets k (x + d.0 - o) (base + d.1 - o)) ds

-- a glyph's strokes: its outline in the color k, and then itself in the color own
unfoldable pub glyph_strokes : List ℕ → List ℕ → List ℕ → List ℕ → ℕ → ℕ → ℕ → List Stroke
glyph_strokes rows offsets k own o x base =
    outline_strokes rows offsets k o x base (displacements o) ++ (stroke rows offsets own x base ∷ [])

abbrev pub color_of : Style → List ℕ
color_of t = t.red ∷ t.green ∷ t.blue ∷ t.alpha ∷ []

module _ (s : Settings) where
  -- the sixteen rows of a letter's glyph
  abbrev pub letter_rows : Letter → List ℕ
  letter_rows l = glyph_rows (table_of l.style.bold) s.glyph_mode l.code

  -- how far it leans: an upright letter by nothing, an italic one as far as the settings say
  abbrev pub letter_slant : Letter → ℕ
  letter_slant l = cond l.style.italic s.slant 0

  -- the strokes of its glyph, with ink or without
  abbrev pub any_letter_strokes : Letter → ℕ → ℕ → List Stroke
  any_letter_strokes l x base =
      glyph_strokes (letter_rows l) (row_offsets (letter_slant l)) s.outline_color (color_of l.style) (outline_of s) x base

  -- a letter's strokes: none, where its glyph has no ink
  abbrev pub letter_strokes : Letter → ℕ → ℕ → List Stroke
  letter_strokes l x base = cond (has_ink (letter_rows l)) (any_letter_strokes l x base) []

  -- the strokes of letters on a line, the first at position x: each advances cell_w, with ink or without
  unfoldable pub line_strokes : ℕ → ℕ → List Letter → List Stroke
  line_strokes x base [] = []
  line_strokes x base (l ∷ ls) = letter_strokes l x base ++ line_strokes (x + cell_w) base ls

  -- the strokes of lines from the top down, the last of them at the last base line
  unfoldable pub lines_strokes : List Letter → List Line → List Stroke
  lines_strokes ls [] = []
  lines_strokes ls (line ∷ lower) =
      line_strokes (line_start s (line_width (visible_cols ls line))) (base_line s (length lower)) (map (letter_of ls) line)
      ++ lines_strokes ls lower

  -- the strokes of a caption's letters; T is how many they are, which is the letters with ink times 1 + 8o
  unfoldable pub drawing : List Letter → List Stroke
  drawing ls = lines_strokes ls (wrap_runs ls (column_limit s))
