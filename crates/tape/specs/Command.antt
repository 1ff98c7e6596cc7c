-- The commands of a tape, and what is refused in one: document 01, "Tape". Definitions only.
-- A command is a byte, with operand bytes behind it, the high byte first:
--   00  the end of a list or of a name
--   01  an empty text: it has no letter, and is a run all the same, which parts two others of another style
--   02  a letter, its code point (Unicode's) in 1 byte; 03 in 2 bytes; 04 in 3 bytes. More bytes than it needs will do
--   05  a line break: it is the letter 0A, which may be written as 02 0A too, and stands on no line
--   06  bold, 07 italic, 08 color (red, green, blue), 0A a plain group: each opens a list, up to its 00. An empty list
--       is no run
--   09  a voice: what 02, 03 and 04 say up to a 00 is its name, shown with ": " behind it; then a list, up to its 00
--   0B  a time mark, which shows nothing and is no run
use Rattle.std.specs.Prelude.{Bool, cond, not, ◌&&◌, ◌||◌, List, [], ◌∷◌, ℕ, ◌+◌, ◌*◌, length, take, nat_le, nat_lt, slice_index, ◌==◌}
use Rattle.tape.specs.Style.{Opener, bold_list, italic_list, color_list, plain_list}

-- the deepest list, and the most letters
abbrev pub deepest : ℕ
deepest = 16

abbrev pub most_letters : ℕ
most_letters = 4096

-- how many operand bytes follow each of the twelve commands 00 to 0B
abbrev pub operand_widths : List ℕ
operand_widths = 0 ∷ 0 ∷ 1 ∷ 2 ∷ 3 ∷ 0 ∷ 0 ∷ 0 ∷ 3 ∷ 0 ∷ 0 ∷ 0 ∷ []

abbrev pub operand_width : ℕ → ℕ
operand_width c = slice_index operand_widths c

-- the number that bytes spell, high byte first, behind the number v
abbrev pub number_from : ℕ → List ℕ → ℕ
number_from v [] = v
number_from v (b ∷ bs) = number_from (v * 256 + b) bs

-- the code point that the letter command c has before the bytes `rest`
unfoldable pub code_point : ℕ → List ℕ → ℕ
code_point c rest = number_from 0 (take (operand_width c) rest)

-- 02, 03, 04: a letter
unfoldable pub is_letter : ℕ → Bool
is_letter c = nat_le 0x02 c && nat_le c 0x04

-- 06 to 0A: a list is opened
unfoldable pub is_opener : ℕ → Bool
is_opener c = nat_le 0x06 c && nat_le c 0x0a

-- a code point that is no surrogate, and at most 10FFFF
unfoldable pub is_scalar : ℕ → Bool
is_scalar v = nat_lt v 0xd800 || (nat_lt 0xdfff v && nat_le v 0x10ffff)

-- how many letters a command adds: a letter or a break one, and the 00 of a name two
unfoldable pub added : Bool → ℕ → ℕ
added naming c = cond (nat_le 0x02 c && nat_le c 0x05) 1 (cond (c == 0x00 && naming) 2 0)

-- The faults that a command may have, each with its test, in the order in which they are looked for. Command c stands
-- before the bytes `rest`; `naming` says whether in a voice's name; `depth` lists are open; and n letters came before
-- it.
abbrev pub fault_tests : Bool → ℕ → ℕ → ℕ → List ℕ → List (ℕ × Bool)
fault_tests naming depth n c rest =
    (1, nat_lt 0x0b c)  -- an unknown command
    ∷ (7, naming && not (c == 0x00 || is_letter c))  -- neither a letter nor 00, in a name
    ∷ (5, is_opener c && depth == deepest)  -- an opener in the deepest list
    ∷ (2, nat_lt (length rest) (operand_width c))  -- operands are missing
    ∷ (4, is_letter c && not (is_scalar (code_point c rest)))  -- a surrogate, or over 10FFFF
    ∷ (6, nat_lt most_letters (n + added naming c))  -- a letter too many
    ∷ (3, c == 0x00 && (not naming && depth == 0))  -- a 00 in the outer list
    ∷ []

-- the number of the first test that holds, and 0 where none does
abbrev pub first_of : List (ℕ × Bool) → ℕ
first_of [] = 0
first_of (t ∷ ts) = cond t.1 t.0 (first_of ts)

-- the number of a command's first fault
unfoldable pub fault_of : Bool → ℕ → ℕ → ℕ → List ℕ → ℕ
fault_of naming depth n c rest = first_of (fault_tests naming depth n c rest)

-- what a command stands for
pub data Command : Type 0 where
  -- the end of a list or a name
  ends : Command
  -- letters: none, or one
  shows : List ℕ → Command
  -- a list is opened
  opens : Opener → Command
  -- a voice's name begins
  names : Command
  -- a time mark
  time_mark : Command

-- 06 bold, 07 italic, 08 color, else a plain group
abbrev pub opener_of : ℕ → List ℕ → Opener
opener_of c rest =
    cond (c == 0x06) bold_list
    (cond (c == 0x07) italic_list
    (cond (c == 0x08) (color_list (slice_index rest 0) (slice_index rest 1) (slice_index rest 2))
    plain_list))

-- the command c before the bytes `rest`; a break, 05, is the letter 0A
unfoldable pub command_of : ℕ → List ℕ → Command
command_of c rest =
    cond (c == 0x00) ends
    (cond (c == 0x01) (shows [])
    (cond (is_letter c) (shows (code_point c rest ∷ []))
    (cond (c == 0x05) (shows (0x0a ∷ []))
    (cond (c == 0x09) names
    (cond (c == 0x0b) time_mark
    (opens (opener_of c rest)))))))
