-- Tapes and stacks of them, and what they mean, or why they are refused, by computation. Document 01's cases a to l
-- stand in one table, in compositor's `Cases`.
use mathlib.Core.Path.{◌≡◌, refl}
use mathlib.Core.Bool.{true}
use mathlib.Core.List.{List, [], ◌∷◌, ◌++◌}
use Prim.Native.Nat.{ℕ}
use lib.ListN.{replicate}
use Rattle.tape.specs.declared.Style.{Style}
use Rattle.tape.specs.Outcome.{accepted, refused}
use Rattle.tape.specs.Style.{bold_list, italic_list, color_list, inside, default_with, same_style}
use Rattle.tape.specs.Command.{code_point, is_letter, is_opener, is_scalar, added, fault_of, command_of}
use Rattle.tape.specs.Runs.{Run, run, merge_into, letters_of}
use Rattle.tape.specs.Call.{nothing}
use Rattle.tape.specs.Tape.{least_room, read, tape_runs, tape_letters}
use Rattle.tape.specs.Stack.{tapes_from, reaches_to, ends_unfit, some_too_long, refuse_stack, tapes_letters, stack_letters}
use Rattle.tape.specs.Segments.{letter_bytes}

abbrev white : Style
white = default_with (0xff ∷ 0xff ∷ 0xff ∷ 0xff ∷ [])

-- the tape means these runs
abbrev Means : List ℕ → List Run → Type 0
Means tape rs = tape_runs white tape ≡ accepted rs

abbrev Refuses : List ℕ → ℕ → ℕ → Type 0
Refuses tape number place = tape_runs white tape ≡ refused number place

abbrev red : Style → Style
red s = inside (color_list 0xff 0 0) s

-- n plain groups, one in the other
abbrev nested : ℕ → List ℕ → List ℕ
nested n tape = replicate n 0x0a ++ (tape ++ replicate n 0x00)

pub record Cases : Type 0 where
  -- the bold empty text keeps A and B in two runs
  pub parted :
      Means (0x02 ∷ 0x58 ∷ 0x02 ∷ 0x20 ∷ 0x02 ∷ 0x41 ∷ 0x06 ∷ 0x01 ∷ 0x00 ∷ 0x02 ∷ 0x42 ∷ [])
      (run white (0x58 ∷ 0x20 ∷ 0x41 ∷ []) ∷ run (inside bold_list white) [] ∷ run white (0x42 ∷ []) ∷ [])
  -- and B starts a run
  pub parted_letters :
      tape_letters white (0x02 ∷ 0x41 ∷ 0x06 ∷ 0x01 ∷ 0x00 ∷ 0x02 ∷ 0x42 ∷ [])
      ≡ accepted (record { code = 0x41; style = white; start = true } ∷ record { code = 0x42; style = white; start = true } ∷ [])
  -- the first and the last surrogate, and the letters beside them
  pub below : Means (0x03 ∷ 0xd7 ∷ 0xff ∷ []) (run white (0xd7ff ∷ []) ∷ [])
  pub lowest : Refuses (0x03 ∷ 0xd8 ∷ 0x00 ∷ []) 4 0
  pub highest : Refuses (0x03 ∷ 0xdf ∷ 0xff ∷ []) 4 0
  pub above : Means (0x03 ∷ 0xe0 ∷ 0x00 ∷ []) (run white (0xe000 ∷ []) ∷ [])
  pub past_the_last : Refuses (0x04 ∷ 0x11 ∷ 0x00 ∷ 0x00 ∷ []) 4 0
  -- styles: a color sets alpha FF and keeps the marks
  pub styles :
      Means (0x06 ∷ 0x08 ∷ 0xff ∷ 0x00 ∷ 0x00 ∷ 0x07 ∷ 0x02 ∷ 0x41 ∷ 0x00 ∷ 0x00 ∷ 0x02 ∷ 0x42 ∷ 0x00 ∷ [])
      (run (inside italic_list (red (inside bold_list white))) (0x41 ∷ []) ∷ run (inside bold_list white) (0x42 ∷ []) ∷ [])
  -- a voice in red: its name, ": " and its list; the time mark and the empty group are no runs
  pub voice :
      Means (0x08 ∷ 0xff ∷ 0x00 ∷ 0x00 ∷ 0x09 ∷ 0x02 ∷ 0x41 ∷ 0x00 ∷ 0x0b ∷ 0x0a ∷ 0x00 ∷ 0x05 ∷ 0x00 ∷ 0x00 ∷ [])
      (run (red white) (0x41 ∷ 0x3a ∷ 0x20 ∷ 0x0a ∷ []) ∷ [])
  pub nameless : Means (0x09 ∷ 0x00 ∷ 0x00 ∷ []) (run white (0x3a ∷ 0x20 ∷ []) ∷ [])
  pub voice_list_open : Refuses (0x09 ∷ 0x00 ∷ []) 3 2
  pub name_open : Refuses (0x09 ∷ 0x02 ∷ 0x41 ∷ []) 3 3
  pub empty_text_in_name : Refuses (0x09 ∷ 0x01 ∷ []) 7 1
  pub break_in_name : Refuses (0x09 ∷ 0x05 ∷ []) 7 1
  pub mark_in_name : Refuses (0x09 ∷ 0x0b ∷ []) 7 1
  -- depth
  pub deepest : Means (nested 16 (0x02 ∷ 0x41 ∷ [])) (run white (0x41 ∷ []) ∷ [])
  pub deeper : Refuses (nested 17 (0x02 ∷ 0x41 ∷ [])) 5 16
  -- order: 1 before 7, 7 before 2, 5 before 2, 2 before 4. 7 and 5 never meet: 5 stops the voice itself in the deepest
  -- list, and a name is no list.
  pub one_seven : Refuses (0x09 ∷ 0x0c ∷ []) 1 1
  pub seven_two : Refuses (0x09 ∷ 0x08 ∷ []) 7 1
  pub five_two : Refuses (nested 16 (0x08 ∷ [])) 5 16
  pub two_four : Refuses (0x04 ∷ 0x11 ∷ 0x00 ∷ []) 2 0
  -- a second 00
  pub one_too_many : Refuses (0x06 ∷ 0x00 ∷ 0x00 ∷ []) 3 2

-- of a buffer of n bytes and these ends, with a workspace of `room` bytes, this is refused before a tape is read
abbrev RefusesStack : ℕ → ℕ → List ℕ → ℕ → Type 0
RefusesStack room n es number = refuse_stack (record { tape_bytes = replicate n 0x0c; tape_ends = es }) room (accepted nothing) ≡ refused number 0

abbrev TakesStack : ℕ → List ℕ → Type 0
TakesStack n es = refuse_stack (record { tape_bytes = replicate n 0x0c; tape_ends = es }) least_room (accepted nothing) ≡ accepted nothing

-- the tapes of these bytes and ends
abbrev RefusesTapes : List ℕ → List ℕ → ℕ → ℕ → Type 0
RefusesTapes bytes es number place = stack_letters white (record { tape_bytes = bytes; tape_ends = es }) ≡ refused number place

-- stacks of tapes
pub record StackCases : Type 0 where
  -- no tape, nine, an end that falls, a last one that is too small or too large
  pub none : RefusesStack least_room 0 [] 18
  pub nine : RefusesStack least_room 0 (replicate 9 0) 18
  pub falls : RefusesStack least_room 2 (2 ∷ 1 ∷ 2 ∷ []) 18
  pub too_small : RefusesStack least_room 2 (0 ∷ 1 ∷ []) 18
  pub too_large : RefusesStack least_room 1 (1 ∷ 2 ∷ []) 18
  -- one tape, eight, and tapes that are empty
  pub taken : TakesStack 1 (1 ∷ []) × TakesStack 8 (1 ∷ 2 ∷ 3 ∷ 4 ∷ 5 ∷ 6 ∷ 7 ∷ 8 ∷ []) × TakesStack 0 (0 ∷ []) × TakesStack 1 (0 ∷ 0 ∷ 1 ∷ 1 ∷ [])
  -- the longest tape, and one that is too long behind another
  pub longest : TakesStack 16385 (1 ∷ 16385 ∷ [])
  pub too_long : RefusesStack least_room 16386 (1 ∷ 16386 ∷ []) 10
  -- 18 before 10, and 10 before 11
  pub before_10 : RefusesStack least_room 0 (16385 ∷ []) 18
  pub before_11 : RefusesStack 0 16385 (16385 ∷ []) 10
  pub room : RefusesStack 65535 0 (0 ∷ []) 11
  -- a fault's place counts from the buffer's start, and tapes do not run into each other
  pub second : RefusesTapes (0x01 ∷ 0x06 ∷ []) (1 ∷ 2 ∷ []) 3 2
  pub unclosed : RefusesTapes (0x06 ∷ 0x00 ∷ []) (1 ∷ 2 ∷ []) 3 1
  pub stray : RefusesTapes (0x01 ∷ 0x00 ∷ []) (1 ∷ 2 ∷ []) 3 1
  pub eighth : RefusesTapes (replicate 7 0x01 ++ (0x0c ∷ [])) (1 ∷ 2 ∷ 3 ∷ 4 ∷ 5 ∷ 6 ∷ 7 ∷ 8 ∷ []) 1 7
  -- the first tape that has one, not the smallest number
  pub first : RefusesTapes (0x06 ∷ 0x0c ∷ []) (1 ∷ 2 ∷ []) 3 1

pub stack_cases : StackCases
unfolding ends_unfit reaches_to some_too_long tapes_from tapes_letters tape_runs tape_letters read fault_of command_of code_point is_letter is_opener is_scalar added merge_into letters_of same_style
stack_cases =
    record {
      none = refl;
      nine = refl;
      falls = refl;
      too_small = refl;
      too_large = refl;
      taken = (refl, refl, refl, refl);
      longest = refl;
      too_long = refl;
      before_10 = refl;
      before_11 = refl;
      room = refl;
      second = refl;
      unclosed = refl;
      stray = refl;
      eighth = refl;
      first = refl;
    }

pub cases : Cases
unfolding tape_runs tape_letters read fault_of command_of code_point is_letter is_opener is_scalar added merge_into letters_of same_style letter_bytes
cases =
    record {
      parted = refl;
      parted_letters = refl;
      below = refl;
      lowest = refl;
      highest = refl;
      above = refl;
      past_the_last = refl;
      styles = refl;
      voice = refl;
      nameless = refl;
      voice_list_open = refl;
      name_open = refl;
      empty_text_in_name = refl;
      break_in_name = refl;
      mark_in_name = refl;
      deepest = refl;
      deeper = refl;
      one_seven = refl;
      seven_two = refl;
      five_two = refl;
      two_four = refl;
      one_too_many = refl;
    }
