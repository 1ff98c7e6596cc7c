-- The settings: document 01, "Settings", and document 02, S-3 and S-10. Definitions only.
-- A call may be given any numbers below 2^32; `out_of_range` says which are refused.
use Rattle.std.specs.Prelude.{Bool, ◌||◌, ℕ, ◌*◌, nat_lt}
use Rattle.font.specs.Slant.{most_slant}
use Rattle.compositor.specs.declared.Settings.{Settings}

-- the largest width and height, the largest line height, the last alignment, the last glyph mode, the largest side
-- margin and the largest outline cap; the largest slant is `most_slant`; bottom margin and outline may be any
abbrev pub most_pixels : ℕ
most_pixels = 4096

abbrev pub most_line_height : ℕ
most_line_height = 1024

abbrev pub last_align : ℕ
last_align = 4

abbrev pub last_glyph_mode : ℕ
last_glyph_mode = 1

abbrev pub most_side_margin : ℕ
most_side_margin = 255

abbrev pub most_outline_cap : ℕ
most_outline_cap = 4

unfoldable pub out_of_range : Settings → Bool
out_of_range s =
    nat_lt most_pixels s.width
    || (nat_lt most_pixels s.height
    || (nat_lt most_line_height s.line_height_px
    || (nat_lt last_align s.align
    || (nat_lt last_glyph_mode s.glyph_mode
    || (nat_lt most_side_margin s.side_margin_px || (nat_lt most_slant s.slant || nat_lt most_outline_cap s.outline_cap_px))))))

-- the bytes of a row, and of the picture: its rows from the top, each its pixels from the left, four bytes a pixel
abbrev pub row_bytes : Settings → ℕ
row_bytes s = 4 * s.width

abbrev pub picture_bytes : Settings → ℕ
picture_bytes s = s.height * row_bytes s
