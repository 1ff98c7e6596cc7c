-- What a stroke leaves of a picture, row by row: document 01, "Places and strokes". Definitions only.
-- A picture is its rows from the top, each its pixels from the left, four bytes a pixel.
use Rattle.std.specs.Prelude.{ℕ, zero, suc, ◌+◌, ◌-◌, ◌*◌, ◌/◌, ◌%◌, ◌^◌, Bool, cond, ◌&&◌, List, ◌++◌, length, take, drop, ◌==◌, nat_le, nat_lt, slice_index}
use Rattle.font.specs.Font.{bearing_y, cell_w, cell_h}
use Rattle.font.specs.Blend.{blend_pixel}
use Rattle.font.specs.Slant.{unmoved}

-- A position, of a column or of a row, is counted from an origin so far left of and above the picture that it is never
-- negative: the picture's column 0 and row 0 are at 2^26. No difference that is taken from the position of a caption's
-- stroke stops at 0, except where a test beside it fails. So positions may be counted from the picture's corner in
-- signed numbers as well: the part Plain does so, and it is proved that both are the same.
abbrev pub origin : ℕ
origin = 0x400_0000

-- the column at position x lies on a row of row_size bytes
abbrev pub on_row : ℕ → ℕ → Bool
on_row x row_size = nat_le origin x && nat_le (4 * (x - origin) + 4) row_size

-- a row with the color k blended into its column at position x; off the row nothing changes
unfoldable pub paint_column : List ℕ → ℕ → List ℕ → List ℕ
paint_column k x row = cond (on_row x (length row)) (blend_pixel k (4 * (x - origin)) row) row

-- column c of a glyph's row is lit; bit 7 is column 0
abbrev pub lit : ℕ → ℕ → Bool
lit bits c = bits / 2 ^ (7 - c) % 2 == 1

-- a row with column c of a glyph's row painted, where it is lit; the glyph's column 0 is at position x
abbrev pub paint_bit : List ℕ → ℕ → ℕ → ℕ → List ℕ → List ℕ
paint_bit k bits x c row = cond (lit bits c) (paint_column k (x + c) row) row

-- a row with the first n columns of a glyph's row painted
unfoldable pub paint_columns : List ℕ → ℕ → ℕ → ℕ → List ℕ → List ℕ
paint_columns k bits x zero row = row
paint_columns k bits x (suc n) row = paint_bit k bits x n (paint_columns k bits x n row)

-- a row with a glyph's whole row painted
abbrev pub paint_row : List ℕ → ℕ → ℕ → List ℕ → List ℕ
paint_row k bits x row = paint_columns k bits x cell_w row

-- the picture's row y with what a stroke has there: the glyph's row r that falls on it, moved by its offset. The
-- stroke's left column is at position x and its base line at position base, so that its row 0 is at base − bearing_y.
unfoldable pub stroke_row : List ℕ → List ℕ → List ℕ → ℕ → ℕ → ℕ → List ℕ → List ℕ
stroke_row rows offsets k x base y row =
    let top = base - bearing_y in
    let r = origin + y - top in
    cond (nat_le top (origin + y) && nat_lt r cell_h) (paint_row k (slice_index rows r) (x + slice_index offsets r - unmoved) row) row

-- Bytes l that begin with m rows of row_size bytes, each changed by f, which is given the row's number too: the first
-- is the picture's row y, the next y + 1, and so on. The bytes after them stay.
unfoldable pub each_row : (ℕ → List ℕ → List ℕ) → ℕ → ℕ → ℕ → List ℕ → List ℕ
each_row f row_size zero y l = l
each_row f row_size (suc m) y l = f y (take row_size l) ++ each_row f row_size m (suc y) (drop row_size l)
