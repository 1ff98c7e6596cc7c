-- THE MEANING OF A TAPE: document 01, "Tape" and the first paragraph of "Runs and lines". Definitions only.
--
-- A tape is a list of bytes. It is read from its first byte, command by command, and means runs, or is refused with a
-- number and a place.
-- Between two commands the reading stands in a frame: the style in force; the styles of the lists around the open one,
-- the nearest first, so that the depth is how many they are; and whether a voice's name is being read.
use Rattle.std.specs.Prelude.{Bool, true, false, List, [], ◌∷◌, ◌++◌, ℕ, zero, suc, ◌+◌, length, nat_lt}
use Rattle.tape.specs.declared.Style.{Style}
use Rattle.tape.specs.Outcome.{Outcome, accepted, refused, refuse_if, unless, on_accepted}
use Rattle.tape.specs.Style.{inside}
use Rattle.tape.specs.Command.{operand_width, added, fault_of, Command, ends, shows, opens, names, time_mark, command_of}
use Rattle.tape.specs.Runs.{Run, run, merge, Letter, letters_of}

pub record Frame : Type 0 where
  pub style : Style
  pub around : List Style
  pub naming : Bool

abbrev pub frame : Style → List Style → Bool → Frame
frame s around naming = record { style = s; around = around; naming = naming }

-- the runs that a command adds, in the style in force: letters are one, and so is the ": " that the 00 of a name adds
abbrev pub says : Command → Style → Bool → List Run
says (shows vs) s naming = run s vs ∷ []
says ends s true = run s (0x3a ∷ 0x20 ∷ []) ∷ []
says ends s false = []
says (opens o) s naming = []
says names s naming = []
says time_mark s naming = []

-- the frame after a list has ended: the style around it is in force again (a 00 in the outer list is a fault)
abbrev pub outside : Style → List Style → Frame
outside s [] = frame s [] false
outside s (t ∷ around) = frame t around false

-- the frame after a command: the 00 of a name opens the voice's list
abbrev pub next : Command → Style → List Style → Bool → Frame
next (shows vs) s around naming = frame s around naming
next ends s around true = frame s (s ∷ around) false
next ends s around false = outside s around
next (opens o) s around naming = frame (inside o s) (s ∷ around) false
next names s around naming = frame s around true
next time_mark s around naming = frame s around naming

-- the tape may end in the outer list alone
abbrev pub at_end : List Style → Bool → ℕ → Outcome (List Run)
at_end [] false place = accepted []
at_end [] true place = refused 3 place
at_end (s ∷ around) naming place = refused 3 place

-- runs, and then what follows them
abbrev pub after : List Run → Outcome (List Run) → Outcome (List Run)
after rs o = on_accepted (λ qs. rs ++ qs) o

-- What the rest of a tape means: `place` is where it begins, counted in bytes from the tape's start, and n letters came
-- before it. Its first `skip` bytes are operands of the command before it, and are passed over.
unfoldable pub read : ℕ → Frame → ℕ → ℕ → List ℕ → Outcome (List Run)
read skip f place n [] = at_end f.around f.naming place
read (suc skip) f place n (b ∷ rest) = read skip f (place + 1) n rest
read zero f place n (c ∷ rest) =
    let command = command_of c rest in
    unless (fault_of f.naming (length f.around) n c rest) place
    (after (says command f.style f.naming)
    (read (operand_width c) (next command f.style f.around f.naming) (place + 1) (n + added f.naming c) rest))

-- the runs of a tape, merged; s is the style of the outer list
unfoldable pub tape_runs : Style → List ℕ → Outcome (List Run)
tape_runs s tape = on_accepted merge (read zero (frame s [] false) 0 0 tape)

-- its letters
unfoldable pub tape_letters : Style → List ℕ → Outcome (List Letter)
tape_letters s tape = on_accepted letters_of (tape_runs s tape)

-- the most bytes of a tape, and the least of the workspace that a call is lent
abbrev pub most_bytes : ℕ
most_bytes = 16384

abbrev pub least_room : ℕ
least_room = 65536

-- what is refused of a tape and of a workspace of `room` bytes before the tape is read: 10, and then 11
abbrev pub refuse_lengths : {A : Type 0} → List ℕ → ℕ → Outcome A → Outcome A
refuse_lengths tape room o = refuse_if (nat_lt most_bytes (length tape)) 10 0 (refuse_if (nat_lt room least_room) 11 0 o)

-- what reading a tape into a workspace comes to: for Wrap; calls that draw look at the lengths in another place
unfoldable pub read_call : Style → ℕ → List ℕ → Outcome (List Letter)
read_call s room tape = refuse_lengths tape room (tape_letters s tape)
