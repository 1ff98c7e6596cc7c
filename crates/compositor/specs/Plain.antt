-- POSITIONS IN SIGNED NUMBERS, counted from the picture's corner: document 01, "Places and strokes". Definitions only.
-- They are the definitions of the parts Slant, Paint, Layout and Outline once more, for whoever builds with numbers
-- that may be below 0. It is proved that both are the same for every stroke of a caption, so that there no difference
-- stops at 0, but beside a test that fails.
use Rattle.std.specs.Prelude.{cond, ℕ, zero, suc, ◌+◌, ◌*◌, ◌/◌, max, ℤ, pos, negsuc, neg_ℤ, ◌+ℤ◌, ◌-ℤ◌, length, nat_le, nat_lt, slice_index, ◌==◌}
use mathlib.Core.List.{List, [], ◌∷◌, map, flatten}
use Rattle.font.specs.Font.{cell_w, cell_h, bearing_y}
use Rattle.font.specs.Slant.{nearest}
use Rattle.font.specs.Blend.{blend_pixel}
use Rattle.font.specs.Paint.{origin, lit}
use Rattle.compositor.specs.declared.Settings.{Settings}
use Rattle.compositor.specs.Layout.{line_height, last_base_line}

-- a position counted from the picture's corner
abbrev pub signed : ℕ → ℤ
signed p = pos p -ℤ pos origin

-- ---- where lines stand

-- half of a number, towards zero
abbrev pub half : ℤ → ℤ
half (pos n) = pos (n / 2)
half (negsuc n) = neg_ℤ (pos (suc n / 2))

-- `line_start`: the side margin, or width − w less it, or (width − w)/2 towards zero
abbrev pub plain_start : Settings → ℕ → ℤ
plain_start s w =
    cond (s.align == 0) (half (pos s.width -ℤ pos w))
    (cond (nat_le s.align 2) (pos s.side_margin_px)
    (pos s.width -ℤ pos w -ℤ pos s.side_margin_px))

-- `base_line`: the last base line, less h for each line below
abbrev pub plain_base_line : Settings → ℕ → ℤ
plain_base_line s below = pos (last_base_line s) -ℤ pos (below * line_height s)

-- ---- how rows and outlines are moved

-- z · cell_w · slant / (8 · cell_h) to the nearest whole number, halves away from zero
abbrev pub slanted : ℕ → ℤ → ℤ
slanted slant (pos n) = pos (nearest (n * cell_w * slant) (8 * cell_h))
slanted slant (negsuc n) = neg_ℤ (pos (nearest (suc n * cell_w * slant) (8 * cell_h)))

-- `row_offset`: the columns by which row r of a glyph is moved to the right
abbrev pub plain_offset : ℕ → ℕ → ℤ
plain_offset slant r = slanted slant (pos bearing_y -ℤ pos r)

-- how far a number is from 0
abbrev pub magnitude : ℤ → ℕ
magnitude (pos n) = n
magnitude (negsuc n) = suc n

-- the n numbers from z up
abbrev pub onward : ℤ → ℕ → List ℤ
onward z zero = []
onward z (suc n) = z ∷ onward (z +ℤ pos 1) n

-- the numbers from −o up to o
abbrev pub up_to : ℕ → List ℤ
up_to o = onward (neg_ℤ (pos o)) (2 * o + 1)

-- of the row dy, those of the columns for which the larger distance is exactly o
abbrev pub plain_row : ℕ → ℤ → List ℤ → List (ℤ × ℤ)
plain_row o dy [] = []
plain_row o dy (dx ∷ dxs) = cond (max (magnitude dx) (magnitude dy) == o) ((dx, dy) ∷ plain_row o dy dxs) (plain_row o dy dxs)

-- `displacements`: each dx columns to the right and dy rows down
abbrev pub plain_displacements : ℕ → List (ℤ × ℤ)
plain_displacements o = cond (o == 0) [] (flatten (map (λ dy. plain_row o dy (up_to o)) (up_to o)))

-- ---- what a stroke has on a row

-- `paint_column`: a row with the color k blended into its column z; a column that is not on the row changes nothing
abbrev pub plain_column : List ℕ → ℤ → List ℕ → List ℕ
plain_column k (pos c) row = cond (nat_le (4 * c + 4) (length row)) (blend_pixel k (4 * c) row) row
plain_column k (negsuc c) row = row

-- `paint_columns`: the first n columns of a glyph's row, of which column 0 is at z
abbrev pub plain_columns : List ℕ → ℕ → ℤ → ℕ → List ℕ → List ℕ
plain_columns k bits z zero row = row
plain_columns k bits z (suc n) row =
    let before = plain_columns k bits z n row in
    cond (lit bits n) (plain_column k (z +ℤ pos n) before) before

-- row r of a glyph whose left column is at x, where the glyph has such a row
abbrev pub plain_glyph_row : List ℕ → ℕ → List ℕ → ℤ → ℤ → List ℕ → List ℕ
plain_glyph_row rows slant k x (pos r) row =
    cond (nat_lt r cell_h) (plain_columns k (slice_index rows r) (x +ℤ plain_offset slant r) cell_w row) row
plain_glyph_row rows slant k x (negsuc r) row = row

-- `stroke_row`: the picture's row y with what a stroke has there, its base line at base
abbrev pub plain_stroke_row : List ℕ → ℕ → List ℕ → ℤ → ℤ → ℕ → List ℕ → List ℕ
plain_stroke_row rows slant k x base y row = plain_glyph_row rows slant k x (pos (y + bearing_y) -ℤ base) row
