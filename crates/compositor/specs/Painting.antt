-- Promises: what the painter's functions ask of and tell each other. No reader of the deposit needs this file.
use Rattle.std.specs.Prelude.{◌≡◌, Bool, true, false, ◌||◌, List, ℕ, ◌+◌, ◌-◌, ◌*◌, ◌≤◌, ◌<◌, length, nat_le, ◌==◌}
use Rattle.std.proofs.Math.Seq.{slice}
use Rattle.font.specs.Font.{cell_h, bearing_y, table_of}
use Rattle.font.specs.Slant.{row_offsets}
use Rattle.font.specs.Paint.{origin, each_row}
use Rattle.font.specs.Shear.{pen_glyph, pen_offsets}
use Rattle.font.specs.declared.GlyphKey.{GlyphKey}
use Rattle.font.specs.declared.Pen.{Pen}
use Rattle.font.specs.declared.paint.Rows.{Rows}
use Rattle.font.specs.declared.paint.Spot.{Spot}
use Rattle.compositor.specs.declared.strokes.Window.{Window}
use Rattle.compositor.specs.Order.{Stroke, stroke, outline_strokes}
use Rattle.compositor.specs.Picture.{strokes_on}

-- a spot that is not too far off, for a glyph and its outline
pub record Near (at : Spot) : Type 0 where
  pub x_least : 16 ≤ at.x
  pub x_most : at.x + 16 < 2 * origin
  pub base_least : 32 ≤ at.base
  pub base_most : at.base + 16 < 2 * origin

-- the two tables, and the offsets of a slant
pub record Fonts (slant : ℕ) (regular bold slanted : List ℕ) : Type 0 where
  pub regular_is : regular ≡ table_of false
  pub bold_is : bold ≡ table_of true
  pub slanted_is : slanted ≡ row_offsets slant

-- the stroke of a key's glyph by a pen, and its strokes at the offsets ds of an outline of o
abbrev pub stroke_of : GlyphKey → Pen → Spot → Stroke
stroke_of key pen at = stroke (pen_glyph key pen) (pen_offsets pen) pen.color at.x at.base

abbrev pub strokes_of : GlyphKey → Pen → ℕ → Spot → List (ℕ × ℕ) → List Stroke
strokes_of key pen o at ds = outline_strokes (pen_glyph key pen) (pen_offsets pen) pen.color o at.x at.base ds

-- those of the strokes ts that a window has, and the window counted from the strokes after n others
abbrev pub cut : Window → List Stroke → List Stroke
cut w ts = slice w.from w.to ts

abbrev pub after : Window → ℕ → Window
after w n = record { from = w.from - n; to = w.to - n }

-- the window has none of the next n strokes
abbrev pub misses : Window → ℕ → Bool
misses w n = nat_le n w.from || w.to == 0

-- glyphs on base lines from position `high` down to position `low`, and outlines of o around them, are all above the
-- lent rows, or all below them
unfoldable pub off_rows : Rows → ℕ → ℕ → ℕ → Bool
off_rows rows high low o =
    nat_le (low + o + (cell_h - bearing_y)) (origin + rows.first) || nat_le (origin + rows.first + rows.count + o + bearing_y) high

-- the lent rows with strokes
abbrev pub painted : Rows → List Stroke → List ℕ → List ℕ
painted rows ts part = each_row (strokes_on ts) (4 * rows.width) rows.count rows.first part

-- those of ts that the window has were drawn, and what is left of the window was handed back
pub record Painted (rows : Rows) (ts : List Stroke) (w : Window) (part part' : List ℕ) (w' : Window) : Type 0 where
  pub paints : part' ≡ painted rows (cut w ts) part
  pub counts : w' ≡ after w (length ts)
