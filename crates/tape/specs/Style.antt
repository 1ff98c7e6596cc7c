-- Styles: document 01, "Runs and lines", first paragraph. Definitions only.
-- A style has the four bytes of a color, red, green, blue and alpha, and the marks bold and italic.
use Rattle.std.specs.Prelude.{Bool, true, false, ◌&&◌, List, ℕ, slice_index, ◌==◌}
use Rattle.std.specs.Bool.{beq}
use Rattle.tape.specs.declared.Style.{Style}

-- the style of the outer list: the default color and no mark
abbrev pub default_with : List ℕ → Style
default_with k =
    record { red = slice_index k 0; green = slice_index k 1; blue = slice_index k 2; alpha = slice_index k 3; bold = false; italic = false }

-- equal style: both marks and all four bytes
unfoldable pub same_style : Style → Style → Bool
same_style s t =
    beq s.bold t.bold
    && (beq s.italic t.italic
    && (s.red == t.red && (s.green == t.green && (s.blue == t.blue && s.alpha == t.alpha))))

-- what opens a list: a mark, a color's red, green and blue, or a plain group
pub data Opener : Type 0 where
  bold_list italic_list plain_list : Opener
  color_list : ℕ → ℕ → ℕ → Opener

-- the style inside a list, from the style around it: bold and italic set a mark, color sets the three bytes and alpha
-- FF
abbrev pub inside : Opener → Style → Style
inside bold_list s = record { red = s.red; green = s.green; blue = s.blue; alpha = s.alpha; bold = true; italic = s.italic }
inside italic_list s = record { red = s.red; green = s.green; blue = s.blue; alpha = s.alpha; bold = s.bold; italic = true }
inside (color_list red green blue) s = record { red = red; green = green; blue = blue; alpha = 0xff; bold = s.bold; italic = s.italic }
inside plain_list s = s
