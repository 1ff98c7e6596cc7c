-- Promises: fonts and pens as the code has them, what is lent beside a pen, and the slant as the code works it out, in
-- f32. `Slant` says what comes out of it; no reader of the deposit needs this file.
use Rattle.std.specs.Prelude.{◌≡◌, ℕ, ◌+◌, ◌-◌, ◌*◌, ◌<◌, ◌≤◌, Bool, true, false, List, pos, ◌-ℤ◌, Float}
use Rattle.std.specs.Float.{nan, inf, fin, binary32}
use Rattle.std.specs.Float.Ieee.{of_int, to_unsigned, mul, div, up, down}
use Rattle.font.specs.Font.{cell_w, cell_h, bearing_y, table_of, glyph_rows}
use Rattle.font.specs.Slant.{most_slant, nearest, unmoved, row_offsets}
use Rattle.font.specs.Paint.{stroke_row}
use Rattle.font.specs.declared.BitmapFont.{BitmapFont}
use Rattle.font.specs.declared.GlyphKey.{GlyphKey}
use Rattle.font.specs.declared.Pen.{Pen}
use Rattle.font.specs.declared.paint.Spot.{Spot}

-- the font of a bold mark
abbrev pub font_of : Bool → BitmapFont
font_of b = record { bold = b }

abbrev pub float : ℕ → Float
float n = of_int binary32 (pos n)

-- the shear of a slant: cell_w · slant / 8
unfoldable pub shear_of : ℕ → Float
unfolding of_int mul div
shear_of slant = div binary32 (mul binary32 (float cell_w) (float slant)) (float 8)

-- a pen of a color, bold or not, with a slant
abbrev pub pen_of : List ℕ → Bool → ℕ → Pen
pen_of k b slant = record { color = k; bold = b; shear = shear_of slant }

-- the slant of a shear: shear · 8 / cell_w
unfoldable pub slant_of : Float → ℕ
unfolding of_int to_unsigned mul div
slant_of x = to_unsigned 32 (div binary32 (mul binary32 x (float 8)) (float cell_w))

-- x is one of the nine shears
pub record Shear (x : Float) : Type 0 where
  pub few : slant_of x ≤ most_slant
  pub is : x ≡ shear_of (slant_of x)

-- the rows of the glyph that a key has in the font that a pen's bold mark picks, and how far the pen moves them
abbrev pub pen_glyph : GlyphKey → Pen → List ℕ
pen_glyph key pen = glyph_rows (table_of pen.bold) key.mode key.code

abbrev pub pen_offsets : Pen → List ℕ
pen_offsets pen = row_offsets (slant_of pen.shear)

-- what is lent beside a pen, for the stroke of a key's glyph: exactly these
pub record Prepared (key : GlyphKey) (pen : Pen) (glyph offsets : List ℕ) : Type 0 where
  pub shear : Shear pen.shear
  pub glyph_is : glyph ≡ pen_glyph key pen
  pub offsets_are : offsets ≡ pen_offsets pen

-- the picture's row y with what the stroke of a key's glyph by a pen has there
abbrev pub pen_row : GlyphKey → Pen → Spot → ℕ → List ℕ → List ℕ
pen_row key pen at y row = stroke_row (pen_glyph key pen) (pen_offsets pen) pen.color at.x at.base y row

-- what row r moves by at a slant before it is rounded: product before quotient
unfoldable pub moved : ℕ → ℕ → Float
unfolding of_int mul div shear_of
moved slant r = div binary32 (mul binary32 (of_int binary32 (pos bearing_y -ℤ pos r)) (shear_of slant)) (float cell_h)

-- x is what one of the sixteen rows moves by at one of the nine slants: 144 cases, from −1.5 to 6
pub record Moved (x : Float) : Type 0 where
  pub slant : ℕ
  pub row : ℕ
  pub few : slant ≤ most_slant
  pub below : row < cell_h
  pub is : x ≡ moved slant row

-- the offset of a row that moves by x to the nearest whole number, halves away from zero, for the x of `Moved`: others
-- may be below −8, or no number, and are not rounded by the code. fin s m e is m · 2^e, negative where s is true
unfoldable pub rounded : Float → ℕ
rounded nan = unmoved
rounded (inf s) = unmoved
rounded (fin false m e) = unmoved + nearest (m * up e) (down e)
rounded (fin true m e) = unmoved - nearest (m * up e) (down e)
