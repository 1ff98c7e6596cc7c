-- The call Wrap: document 01, "Carried over, and added". Definitions only.
use Rattle.std.specs.Prelude.{◌||◌, ℕ, ◌/◌, ◌%◌, length, replicate, nat_lt}
use mathlib.Core.List.{List, [], ◌∷◌, ◌++◌, flatten}
use Rattle.tape.specs.Outcome.{Outcome, refuse_if, on_accepted}
use Rattle.tape.specs.Style.{default_with}
use Rattle.tape.specs.Runs.{Letter}
use Rattle.tape.specs.Tape.{read_call}
use Rattle.wrap.specs.Lines.{Line, visible_cols, wrap_runs}

-- a caption: its letters, and its lines
pub record Caption : Type 0 where
  pub letters : List Letter
  pub lines : List Line

abbrev pub caption_of : ℕ → List Letter → Caption
caption_of L ls = record { letters = ls; lines = wrap_runs ls L }

-- the largest column limit
abbrev pub most_columns : ℕ
most_columns = 4096

-- What a call of Wrap comes to, with a column limit, a workspace of `room` bytes and a tape: 8, or what the tape comes
-- to. It takes no color, so the outer list has FF four times. Draw has its default color there, so that where this is
-- another the two may break a tape differently: a list in white joins what is around it in Wrap and is a run of its own
-- in Draw, and a list in the default color the other way round.
unfoldable pub wrap_call : ℕ → ℕ → List ℕ → Outcome Caption
wrap_call L room tape =
    refuse_if (nat_lt L 1 || nat_lt most_columns L) 8 0 (on_accepted (caption_of L) (read_call (default_with (replicate 4 0xff)) room tape))

-- ---- the bytes that the workspace begins with after an accepted call

-- a number in two bytes, high byte first
abbrev pub two : ℕ → List ℕ
two v = v / 256 ∷ v % 256 ∷ []

unfoldable pub twos : List ℕ → List ℕ
twos [] = []
twos (v ∷ vs) = two v ++ twos vs

-- each line's letters and columns
unfoldable pub line_table : List Letter → List Line → List ℕ
line_table ls [] = []
line_table ls (l ∷ lines) = two (length l) ++ two (visible_cols ls l) ++ line_table ls lines

-- and then the numbers of the letters on lines
abbrev pub line_bytes : Caption → List ℕ
line_bytes c = line_table c.letters c.lines ++ twos (flatten c.lines)
