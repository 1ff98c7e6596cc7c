-- Promises: what the calls' functions ask of and tell each other, and those of the crates above. No reader of the
-- deposit needs this file.
use Rattle.std.specs.Prelude.{◌≡◌, List, ℕ, suc, ◌+◌, ◌*◌, ◌≤◌, ◌<◌}
use Rattle.tape.specs.Command.{most_letters}
use Rattle.font.specs.Font.{cell_w}
use Rattle.font.specs.Slant.{most_slant}
use Rattle.wrap.specs.Shown.{inked_letters}
use Rattle.wrap.specs.Laid.{two_byte_numbers, inked_through}
use Rattle.compositor.specs.declared.Settings.{Settings}
use Rattle.compositor.specs.Settings.{most_pixels, most_line_height, most_side_margin, most_outline_cap}
use Rattle.compositor.specs.Read.{letters_at, letters_from, Readable}
pub use Rattle.wrap.specs.Laid.{most_lines}

-- ---- what is checked before a tape is read

-- settings within their range
pub record InRange (s : Settings) : Type 0 where
  pub narrow : s.width ≤ most_pixels
  pub low : s.height ≤ most_pixels
  pub lines : s.line_height_px ≤ most_line_height
  pub margin : s.side_margin_px ≤ most_side_margin
  pub slanted : s.slant ≤ most_slant
  pub cap : s.outline_cap_px ≤ most_outline_cap

-- ---- how far positions go

-- the most bytes of a picture, and the most rows between the base lines of a caption's first line and its last
abbrev pub most_picture : ℕ
most_picture = most_pixels * (4 * most_pixels)

abbrev pub most_rise : ℕ
most_rise = most_letters * most_line_height

-- no line of the table has so many pixels, since its columns are a number in two bytes
abbrev pub too_wide : ℕ
too_wide = two_byte_numbers * cell_w

-- and so none starts left of this position
abbrev pub least_start : ℕ
least_start = 0x10_0000

-- ---- a caption that lies in the workspace, wrapped

-- the most strokes of a caption
abbrev pub most_strokes : ℕ
most_strokes = most_letters * (1 + 8 * most_outline_cap)

-- its lines can be read, and with each how many letters with ink there are up to its end
pub record Lined (ws : List ℕ) (lines : ℕ) : Type 0 where
  pub readable : Readable ws (letters_from ws 0 lines)
  pub few : lines ≤ most_lines
  pub inked : (i : ℕ) → i < lines → inked_through ws i ≡ inked_letters (letters_at ws 0 (letters_from ws 0 (suc i)))
