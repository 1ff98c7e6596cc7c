-- Promises: how lines lie in the workspace, behind the letters. No reader of the deposit needs this file.
use Rattle.std.specs.Prelude.{◌≡◌, ℕ, ◌+◌, ◌*◌, ◌≤◌, ◌<◌, length, take, slice_index}
use mathlib.Core.List.{List, [], ◌∷◌, map, flatten}
use Rattle.std.proofs.Math.Seq.{slice}
use Rattle.tape.specs.Command.{most_letters}
use Rattle.tape.specs.Runs.{Letter}
use Rattle.tape.specs.Stored.{letter_at}
use Rattle.wrap.specs.declared.Lines.{Lines}
use Rattle.wrap.specs.Lines.{Line, letter_of, wrap_runs}
use Rattle.wrap.specs.Shown.{inked_letters}
use Rattle.wrap.specs.Wrap.{caption_of, twos, line_table, line_bytes}

-- where the numbers of the letters on lines begin, two bytes each, the table of lines, four bytes each, and the totals
-- of letters with ink, two bytes for each line
abbrev pub numbers_from : ℕ
numbers_from = 32768

abbrev pub table_from : ℕ
table_from = 40960

abbrev pub inked_from : ℕ
inked_from = 57344

-- how many numbers there are in two bytes
abbrev pub two_byte_numbers : ℕ
two_byte_numbers = 65536

-- the most lines of a caption: that there are no more is `few_lines` of proofs/FewLines.antt
abbrev pub most_lines : ℕ
most_lines = most_letters

-- read back: a number in two bytes
abbrev pub two_at : List ℕ → ℕ → ℕ
two_at ws at = slice_index ws at * 256 + slice_index ws (at + 1)

-- the number of the k-th letter on lines; the letters and the columns of line i; the letters with ink on the lines up
-- to this one
abbrev pub number_at : List ℕ → ℕ → ℕ
number_at ws k = two_at ws (numbers_from + 2 * k)

abbrev pub letters_on : List ℕ → ℕ → ℕ
letters_on ws i = two_at ws (table_from + 4 * i)

abbrev pub columns_on : List ℕ → ℕ → ℕ
columns_on ws i = two_at ws (table_from + 4 * i + 2)

abbrev pub inked_through : List ℕ → ℕ → ℕ
inked_through ws i = two_at ws (inked_from + 2 * i)

-- how many of a line's letters have ink
abbrev pub inked_in : List Letter → Line → ℕ
inked_in ls line = inked_letters (map (letter_of ls) line)

-- so many are on these lines up to each of them, where n are on those before
unfoldable pub inked_totals : List Letter → ℕ → List Line → List ℕ
inked_totals ls n [] = []
inked_totals ls n (l ∷ lines) = let total = n + inked_in ls l in total ∷ inked_totals ls total lines

-- the workspace holds these letters
pub record Holds (ls : List Letter) (ws : List ℕ) : Type 0 where
  pub few : length ls ≤ most_letters
  pub letter : (k : ℕ) → k < length ls → letter_of ls k ≡ letter_at ws k

-- it holds their numbers on these lines, the table, and the totals
pub record HoldsLines (ls : List Letter) (lines : List Line) (ws : List ℕ) : Type 0 where
  pub numbers : slice numbers_from (numbers_from + 2 * length (flatten lines)) ws ≡ twos (flatten lines)
  pub table : slice table_from (table_from + 4 * length lines) ws ≡ line_table ls lines
  pub inked : slice inked_from (inked_from + 2 * length lines) ws ≡ twos (inked_totals ls 0 lines)

-- the letters were wrapped: the workspace holds them and their lines, of which `made` tells how many there are, and
-- letters on them, and letters with ink
pub record Laid (ls : List Letter) (limit : ℕ) (made : Lines) (ws : List ℕ) : Type 0 where
  pub letters : Holds ls ws
  pub lines : HoldsLines ls (wrap_runs ls limit) ws
  pub count : made.lines ≡ length (wrap_runs ls limit)
  pub on_lines : made.letters ≡ length (flatten (wrap_runs ls limit))
  pub inked_on_lines : made.inked ≡ inked_in ls (flatten (wrap_runs ls limit))

-- the lines were brought to the workspace's front, so many
pub record Brought (ls : List Letter) (limit lines : ℕ) (ws : List ℕ) : Type 0 where
  pub count : lines ≡ length (wrap_runs ls limit)
  pub bytes : take (length (line_bytes (caption_of limit ls))) ws ≡ line_bytes (caption_of limit ls)
