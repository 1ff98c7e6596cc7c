-- Promises: letters that lie in the workspace, read back. No reader of the deposit needs this file.
use Rattle.std.specs.Prelude.{Bool, List, ℕ, ◌+◌, ◌*◌, ◌/◌, ◌%◌, slice_index, ◌==◌}
use Rattle.tape.specs.declared.Style.{Style}
use Rattle.tape.specs.Runs.{Letter}

-- read back: byte j of letter number i, its code point and style, and the letter
abbrev pub letter_byte : List ℕ → ℕ → ℕ → ℕ
letter_byte ws i j = slice_index ws (8 * i + j)

abbrev pub code_at : List ℕ → ℕ → ℕ
code_at ws i = letter_byte ws i 0 * 65536 + letter_byte ws i 1 * 256 + letter_byte ws i 2

abbrev pub odd : ℕ → Bool
odd n = n % 2 == 1

abbrev pub style_at : List ℕ → ℕ → Style
style_at ws i =
    record {
      red = letter_byte ws i 3;
      green = letter_byte ws i 4;
      blue = letter_byte ws i 5;
      alpha = letter_byte ws i 6;
      bold = odd (letter_byte ws i 7);
      italic = odd (letter_byte ws i 7 / 2);
    }

abbrev pub letter_at : List ℕ → ℕ → Letter
letter_at ws i = record { code = code_at ws i; style = style_at ws i; start = odd (letter_byte ws i 7 / 4) }
