-- How italic slants a glyph: document 01, "A pen holds ..", and document 02, S-10. Definitions only.
-- A slant is a number of eighths of a cell's width: so far a glyph leans over a cell's height. 0 is upright.
use Rattle.std.specs.Prelude.{ℕ, ◌+◌, ◌-◌, ◌*◌, ◌/◌, List}
use Rattle.font.specs.Font.{cell_w, cell_h, bearing_y, tabulate}

-- the largest slant, at which a glyph leans by a whole cell
abbrev pub most_slant : ℕ
most_slant = 8

-- n / d to the nearest whole number, a half upward
abbrev pub nearest : ℕ → ℕ → ℕ
nearest n d = (2 * n + d) / (2 * d)

-- The offset of a row that stays. That of a row that is moved is larger by the columns by which it is moved to the
-- right, or smaller by those by which it is moved to the left.
abbrev pub unmoved : ℕ
unmoved = 8

-- The rule: row r moves by (bearing_y − r) · cell_w · slant / (8 · cell_h) columns, rounded, halves away from zero.
-- That is the first quotient less the second, of which one is always 0: rows above the base line move to the right,
-- those below it to the left, and its own row stays. At slant 2 row 0 moves by 2 columns, rows 1 to 8 by 1, and the
-- others stay; at slant 8 row 0 moves by 6, and rows 13, 14 and 15 by −1, −1 and −2.
abbrev pub row_offset : ℕ → ℕ → ℕ
row_offset slant r =
    unmoved + nearest ((bearing_y - r) * cell_w * slant) (8 * cell_h) - nearest ((r - bearing_y) * cell_w * slant) (8 * cell_h)

-- the offsets of a glyph's sixteen rows
abbrev pub row_offsets : ℕ → List ℕ
row_offsets slant = tabulate (row_offset slant) cell_h
