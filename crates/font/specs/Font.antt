-- The two fonts: document 01, "Glyph tables". Definitions only.
use Rattle.std.specs.Prelude.{ℕ, zero, suc, ◌+◌, ◌*◌, ◌/◌, ◌%◌, ◌^◌, Bool, cond, List, [], ◌∷◌, ◌++◌, map, bit_or, nat_lt, slice_index}
use Rattle.font.specs.Glyphs.{glyphs, missing}
use Rattle.font.specs.Modes.{drawn_code}

-- a cell is 8 pixels wide and 16 high, and the base line lies 12 rows below its top, in both fonts
abbrev pub cell_w : ℕ
cell_w = 8

abbrev pub cell_h : ℕ
cell_h = 16

abbrev pub bearing_y : ℕ
bearing_y = 12

-- f 0, f 1, and so on, n of them
unfoldable pub tabulate : (ℕ → ℕ) → ℕ → List ℕ
tabulate f zero = []
tabulate f (suc n) = tabulate f n ++ (f n ∷ [])

-- the lowest n rows of a glyph, the top one first
abbrev pub rows_of : ℕ → ℕ → List ℕ
rows_of zero g = []
rows_of (suc n) g = g / 256 ^ n % 256 ∷ rows_of n g

-- the rows of glyphs, one glyph after the other
abbrev pub table_rows : List ℕ → List ℕ
table_rows [] = []
table_rows (g ∷ gs) = rows_of cell_h g ++ table_rows gs

-- the regular font's 4,096 rows
unfoldable pub regular_table : List ℕ
unfolding glyphs
regular_table = table_rows glyphs

-- a bold row: the bits of a row, and these shifted right by one
abbrev pub embolden : ℕ → ℕ
embolden bits = bit_or bits (bits / 2)

-- the bold font's 4,096 rows
unfoldable pub bold_table : List ℕ
unfolding regular_table
bold_table = map embolden regular_table

-- the rows of the bold font, or of the regular one
abbrev pub table_of : Bool → List ℕ
table_of bold = cond bold bold_table regular_table

-- the sixteen rows of the box
abbrev pub missing_rows : List ℕ
missing_rows = rows_of cell_h missing

-- the sixteen rows of the glyph of one of the 256 code points in a font's table, r their number
abbrev pub rows_at : List ℕ → ℕ → List ℕ
rows_at table code = tabulate (λ r. slice_index table (code * cell_h + r)) cell_h

-- the sixteen rows that are drawn for a code point in a glyph mode, out of a font's table; the box is the same in both
-- fonts
abbrev pub glyph_rows : List ℕ → ℕ → ℕ → List ℕ
glyph_rows table mode code = let drawn = drawn_code mode code in cond (nat_lt drawn 256) (rows_at table drawn) missing_rows
