-- WHERE LINES STAND: document 01, "Places and strokes", first paragraph, and document 02, S-10. Definitions only.
-- A position is counted from an origin far left of and above the picture (`origin`, of the part Paint), so that it is
-- never negative.
use Rattle.std.specs.Prelude.{cond, ℕ, ◌+◌, ◌-◌, ◌*◌, ◌/◌, min, max, nat_le, ◌==◌}
use Rattle.font.specs.Font.{cell_w, cell_h, bearing_y}
use Rattle.font.specs.Paint.{origin}
use Rattle.compositor.specs.declared.Settings.{Settings}

-- L, the most columns of a line
abbrev pub column_limit : Settings → ℕ
column_limit s = max 1 (s.width / cell_w)

-- h, the pixels from one base line to the next
abbrev pub line_height : Settings → ℕ
line_height s = max s.line_height_px cell_h

-- the picture's row on which the last line's base line stands: above the bottom margin by the rows of a cell from its
-- base line on, or by a whole cell if that is less; here these are 4. Each of the two subtractions stops at 0, so that
-- the base line never stands above row 0
abbrev pub last_base_line : Settings → ℕ
last_base_line s = s.height - s.bottom_margin_px - min (cell_h - bearing_y) cell_h

-- the position of the base line of the line that has so many lines below it: each line above stands h higher
unfoldable pub base_line : Settings → ℕ → ℕ
base_line s below = origin + last_base_line s - below * line_height s

-- the pixels of a line of so many columns
abbrev pub line_width : ℕ → ℕ
line_width columns = columns * cell_w

-- The position at which a line of w pixels starts: left and start alike, and right and end alike, the side margin away
-- from that side of the picture. So a line that is aligned right may start left of the picture. In the centre it is
-- half of width − w, towards zero: of the two quotients one is 0, the first where the line is the wider, the second
-- where the picture is. The side margin enters neither there nor in L.
unfoldable pub line_start : Settings → ℕ → ℕ
line_start s w =
    cond (s.align == 0) (origin + (s.width - w) / 2 - (w - s.width) / 2)
    (cond (nat_le s.align 2) (origin + s.side_margin_px)
    (origin + s.width - w - s.side_margin_px))
