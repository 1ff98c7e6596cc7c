-- Tapes, and what a call of Wrap makes of them, by computation. Document 01's cases a to l stand in one table, in
-- compositor's `Cases`.
use mathlib.Core.Path.{◌≡◌, refl}
use mathlib.Core.List.{List, [], ◌∷◌, ◌++◌, flatten}
use Prim.Native.Nat.{ℕ}
use Rattle.tape.specs.Outcome.{accepted, refused, on_accepted}
use Rattle.tape.specs.Style.{same_style}
use Rattle.tape.specs.Command.{code_point, is_letter, is_opener, is_scalar, added, fault_of, command_of}
use Rattle.tape.specs.Runs.{merge_into, letters_of}
use Rattle.tape.specs.Tape.{least_room, read, tape_runs, tape_letters, read_call}
use Rattle.tape.specs.Segments.{letter_bytes, letters_bytes}
use Rattle.wrap.specs.Lines.{Line, up_from, without_last, visible_cols, logical_lines, tokenise, is_space_token, chunks, put_chunks, add_or_break, put_token, put_tokens, fill, wrap_runs}
use Rattle.wrap.specs.Wrap.{wrap_call, twos, line_table, line_bytes}

-- at a limit of so many columns the tape makes these lines
abbrev pub Makes : ℕ → List ℕ → List Line → Type 0
Makes limit tape lines = on_accepted (λ c. c.lines) (wrap_call limit least_room tape) ≡ accepted lines

-- and the workspace begins with these numbers, in two bytes each
abbrev Leaves : ℕ → List ℕ → List ℕ → Type 0
Leaves limit tape numbers = on_accepted line_bytes (wrap_call limit least_room tape) ≡ accepted (twos numbers)

abbrev Refuses : ℕ → ℕ → List ℕ → ℕ → Type 0
Refuses limit room tape number = wrap_call limit room tape ≡ refused number 0

pub record Cases : Type 0 where
  -- four letters with 3 columns, and two with 2; then the numbers
  pub table :
      Leaves 4 (letters_bytes (0x41 ∷ 0x42 ∷ 0x01 ∷ 0x43 ∷ 0x44 ∷ 0x45 ∷ [])) (4 ∷ 3 ∷ 2 ∷ 2 ∷ 0 ∷ 1 ∷ 2 ∷ 3 ∷ 4 ∷ 5 ∷ [])
  -- the example of the program `lines`
  pub example :
      Leaves 4 (letters_bytes (0x41 ∷ 0x42 ∷ 0x43 ∷ 0x44 ∷ 0x45 ∷ 0x20 ∷ 0x46 ∷ []) ++ (0x05 ∷ 0x02 ∷ 0x47 ∷ []))
      (4 ∷ 4 ∷ 3 ∷ 3 ∷ 1 ∷ 1 ∷ 0 ∷ 1 ∷ 2 ∷ 3 ∷ 4 ∷ 5 ∷ 6 ∷ 8 ∷ [])
  -- at a line's end spaces go, a tab stays
  pub spaces : Makes 4 (letters_bytes (0x41 ∷ 0x20 ∷ 0x20 ∷ [])) ((0 ∷ []) ∷ [])
  pub tab : Makes 4 (letters_bytes (0x41 ∷ 0x20 ∷ 0x09 ∷ 0x20 ∷ [])) ((0 ∷ 1 ∷ 2 ∷ []) ∷ [])
  -- a break's line is kept in the middle, and goes at the end
  pub blank_between : Makes 4 (0x02 ∷ 0x41 ∷ 0x05 ∷ 0x05 ∷ 0x02 ∷ 0x42 ∷ []) ((0 ∷ []) ∷ [] ∷ (3 ∷ []) ∷ [])
  pub blank_first : Makes 4 (0x05 ∷ 0x02 ∷ 0x41 ∷ []) ([] ∷ (1 ∷ []) ∷ [])
  pub blank_last : Makes 4 (0x02 ∷ 0x41 ∷ 0x05 ∷ 0x05 ∷ []) ((0 ∷ []) ∷ [])
  -- letter 0A is a break too
  pub line_feed : Makes 4 (0x02 ∷ 0x41 ∷ 0x02 ∷ 0x0a ∷ 0x02 ∷ 0x42 ∷ []) ((0 ∷ []) ∷ (2 ∷ []) ∷ [])
  -- a token of controls alone is dropped, one among letters stays
  pub controls : Makes 4 (letters_bytes (0x41 ∷ 0x20 ∷ 0x01 ∷ 0x20 ∷ 0x42 ∷ [])) ((0 ∷ 1 ∷ 3 ∷ 4 ∷ []) ∷ [])
  -- both ends of the controls, and the letters beside them
  pub control_ends :
      Leaves 9 (letters_bytes (0x1f ∷ 0x21 ∷ 0x7e ∷ 0x7f ∷ 0x9f ∷ 0xa0 ∷ [])) (6 ∷ 3 ∷ 0 ∷ 1 ∷ 2 ∷ 3 ∷ 4 ∷ 5 ∷ [])
  -- chunks count controls: the first has 2 columns of 2, the second 1
  pub chunk_controls : Makes 2 (letters_bytes (0x41 ∷ 0x42 ∷ 0x01 ∷ 0x43 ∷ [])) ((0 ∷ 1 ∷ []) ∷ (2 ∷ 3 ∷ []) ∷ [])
  -- a space token that would pass the limit is dropped with the line's end
  pub spaces_pass : Makes 3 (letters_bytes (0x41 ∷ 0x42 ∷ 0x20 ∷ 0x20 ∷ 0x43 ∷ [])) ((0 ∷ 1 ∷ []) ∷ (4 ∷ []) ∷ [])
  -- the limits, and what is refused first
  pub limit_zero : Refuses 0 0 (0x0c ∷ []) 8
  pub limit_one : Makes 1 (0x02 ∷ 0x41 ∷ []) ((0 ∷ []) ∷ [])
  pub limit_most : Makes 4096 (0x02 ∷ 0x41 ∷ []) ((0 ∷ []) ∷ [])
  pub limit_over : Refuses 4097 65535 (0x0c ∷ []) 8
  pub short_workspace : Refuses 4 65535 (0x0c ∷ []) 11
  pub faulty : Refuses 4 65536 (0x0c ∷ []) 1

pub cases : Cases
unfolding wrap_call wrap_runs visible_cols logical_lines tokenise is_space_token chunks put_chunks add_or_break put_token put_tokens fill without_last up_from twos line_table flatten read_call tape_letters tape_runs read fault_of command_of code_point is_letter is_opener is_scalar added merge_into letters_of same_style letter_bytes
cases =
    record {
      table = refl;
      example = refl;
      spaces = refl;
      tab = refl;
      blank_between = refl;
      blank_first = refl;
      blank_last = refl;
      line_feed = refl;
      controls = refl;
      control_ends = refl;
      chunk_controls = refl;
      spaces_pass = refl;
      limit_zero = refl;
      limit_one = refl;
      limit_most = refl;
      limit_over = refl;
      short_workspace = refl;
      faulty = refl;
    }
