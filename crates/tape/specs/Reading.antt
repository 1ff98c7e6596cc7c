-- Promises: what the reader's functions ask of and tell each other. No reader of the deposit needs this file.
use Rattle.std.specs.Prelude.{◌≡◌, Bool, true, false, not, ◌&&◌, ◌||◌, List, ℕ, ◌+◌, ◌*◌, ◌≤◌, ◌<◌, length, drop, nat_le, nat_lt, slice_index, ◌==◌, Result, Ok, Err}
use Rattle.tape.specs.declared.Style.{Style}
use Rattle.tape.specs.declared.State.{State}
use Rattle.tape.specs.declared.refusal.Refusal.{Refusal}
use Rattle.tape.specs.Outcome.{Outcome, refused}
use Rattle.tape.specs.Answer.{number_of}
use Rattle.tape.specs.Command.{most_letters, operand_width, code_point, is_letter, is_opener, is_scalar, added, fault_of, Command, ends, command_of}
use Rattle.tape.specs.Runs.{Run}
use Rattle.tape.specs.Tape.{Frame, frame, says, next, after, read}
use Rattle.tape.specs.Marks.{last_after, marked}
use Rattle.tape.specs.TapeRead.{stored}

-- ---- what has been stored

-- the state at the place `at`, after runs more
abbrev pub wrote : State → List Run → ℕ → State
wrote st rs at =
    record {
      at = at;
      count = st.count + length (marked st.last rs);
      last = last_after st.last rs;
    }

-- and the workspace
abbrev pub holding : List ℕ → State → List Run → List ℕ
holding ws st rs = stored ws st.count (marked st.last rs)

-- runs were stored, and the state moved on to the place `at`
pub record Wrote (ws ws' : List ℕ) (st st' : State) (rs : List Run) (at : ℕ) : Type 0 where
  pub state : st' ≡ wrote st rs at
  pub bytes : ws' ≡ holding ws st rs

-- ---- what is asked

-- the most letters that one command adds: the colon and the space behind a name
abbrev pub most_added : ℕ
most_added = 2

-- the command byte at a place, and the bytes behind it
abbrev pub byte_at : List ℕ → ℕ → ℕ
byte_at tape at = slice_index tape at

abbrev pub rest_at : List ℕ → ℕ → List ℕ
rest_at tape at = drop (at + 1) tape

-- whether they are a letter without a Unicode scalar value
abbrev pub no_scalar : List ℕ → ℕ → Bool
no_scalar tape at = is_letter (byte_at tape at) && not (is_scalar (code_point (byte_at tape at) (rest_at tape at)))

-- those at a state's place, and what they stand for
abbrev pub byte_of : List ℕ → State → ℕ
byte_of tape st = byte_at tape st.at

abbrev pub rest_of : List ℕ → State → List ℕ
rest_of tape st = rest_at tape st.at

abbrev pub command_at : List ℕ → State → Command
command_at tape st = command_of (byte_of tape st) (rest_of tape st)

-- the place after the command and its operands
abbrev pub place_after : List ℕ → State → ℕ
place_after tape st = st.at + 1 + operand_width (byte_of tape st)

-- a state that can be read on from
pub record Ready (tape ws : List ℕ) (st : State) : Type 0 where
  pub on : st.at ≤ length tape
  pub few : st.count ≤ most_letters
  pub space : 8 * most_letters ≤ length ws

-- one with a command without a fault, in a name or not, in a list of this depth
pub record Sound (tape ws : List ℕ) (st : State) (naming : Bool) (depth : ℕ) : Type 0 where
  pub inside : st.at < length tape
  pub clear : fault_of naming depth st.count (byte_of tape st) (rest_of tape st) ≡ 0
  pub space : 8 * most_letters ≤ length ws

-- one with a whole command that neither opens nor ends anything, and room for its letter
pub record Leaf (tape ws : List ℕ) (st : State) : Type 0 where
  pub known : byte_of tape st < 12
  pub some : 0 < byte_of tape st
  pub flat : is_opener (byte_of tape st) ≡ false
  pub whole : place_after tape st ≤ length tape
  pub few : st.count + added false (byte_of tape st) ≤ most_letters
  pub space : 8 * most_letters ≤ length ws

-- whether the command at a place is a letter of one byte, whole, and after so few letters that it has room
unfoldable pub short_letter : List ℕ → ℕ → ℕ → Bool
short_letter tape at count =
    byte_at tape at == 0x02 && (nat_le (operand_width 0x02) (length (rest_at tape at)) && nat_lt count most_letters)

-- whether it is a leaf without a fault: a letter or a break, or an empty text or a time mark
abbrev pub is_kind : Bool → ℕ → Bool
is_kind true c = nat_le 0x02 c && nat_le c 0x05
is_kind false c = c == 0x01 || c == 0x0b

abbrev pub leaf_at : List ℕ → Bool → Bool → ℕ → ℕ → ℕ → Bool
leaf_at tape shown naming depth at count = is_kind shown (byte_at tape at) && fault_of naming depth count (byte_at tape at) (rest_at tape at) == 0

-- ---- what is told

-- what the tape means from a place on, after n letters
unfoldable pub from : List ℕ → Frame → ℕ → ℕ → Outcome (List Run)
from tape f at n = read 0 f at n (drop at tape)

-- The frames that reading starts and ends in, with any styles around: in a list or a name, and past its 00.
abbrev pub within : Style → Bool → List Style → Frame
within s naming around = frame s around naming

abbrev pub past : Style → Bool → List Style → Frame
past s naming around = next ends s around naming

-- from a to b the reader stored the runs that the tape means there; X is the frame at a, and Y at b
pub record Went (tape ws ws' : List ℕ) (depth : ℕ) (X Y : List Style → Frame) (a b : State) : Type 0 where
  pub runs : List Run
  pub stored : Wrote ws ws' a b runs b.at
  pub on : a.at ≤ b.at
  pub to : b.at ≤ length tape
  pub few : b.count ≤ most_letters
  pub same : (around : List Style) → length around ≡ depth
      → from tape (X around) a.at a.count ≡ after runs (from tape (Y around) b.at b.count)

-- the tape is refused from a on
abbrev pub Stopped : List ℕ → ℕ → (List Style → Frame) → State → ℕ → ℕ → Type 0
Stopped tape depth X a number place =
    (around : List Style) → length around ≡ depth → from tape (X around) a.at a.count ≡ refused number place

abbrev pub Reads : List ℕ → List ℕ → List ℕ → ℕ → (List Style → Frame) → (List Style → Frame) → State → Result State Refusal → Type 0
Reads tape ws ws' depth X Y a (Ok b) = Went tape ws ws' depth X Y a b
Reads tape ws ws' depth X Y a (Err r) = Stopped tape depth X a (number_of r.cause) r.place

-- a segment moves on
abbrev pub Onward : State → Result State Refusal → Type 0
Onward a (Ok b) = a.at < b.at
Onward a (Err r) = Unit

-- the outer list goes to the tape's end
abbrev pub ToTheEnd : List ℕ → Bool → ℕ → Result State Refusal → Type 0
ToTheEnd tape naming depth (Ok b) = naming ≡ false → depth ≡ 0 → length tape ≤ b.at
ToTheEnd tape naming depth (Err r) = Unit

-- letters of the style s were read, in whatever list or name
abbrev pub WentOn : List ℕ → List ℕ → List ℕ → Style → State → State → Type 0
WentOn tape ws ws' s a b = (naming : Bool) (depth : ℕ) → Went tape ws ws' depth (within s naming) (within s naming) a b

-- and all the short ones that follow
pub record LettersRead (tape ws ws' : List ℕ) (a : State) (s : Style) (b : State) : Type 0 where
  pub went : WentOn tape ws ws' s a b
  pub stops : b.at < length tape → short_letter tape b.at b.count ≡ false

-- leaves of a kind were read, all that follow
pub record LeavesRead (tape ws ws' : List ℕ) (shown naming : Bool) (depth : ℕ) (a : State) (s : Style) (b : State) : Type 0 where
  pub went : Went tape ws ws' depth (within s naming) (within s naming) a b
  pub stops : b.at < length tape → leaf_at tape shown naming depth b.at b.count ≡ false

-- a leaf, a segment, and a list or a name were read
abbrev pub LeafRead : List ℕ → List ℕ → List ℕ → State → Style → State → Type 0
LeafRead tape ws ws' a s b = Wrote ws ws' a b (says (command_at tape a) s false) (place_after tape a)

abbrev pub SegmentRead : List ℕ → List ℕ → List ℕ → Bool → ℕ → State → Style → Result State Refusal → Type 0
SegmentRead tape ws ws' naming depth a s r = Reads tape ws ws' depth (within s naming) (within s naming) a r × Onward a r

abbrev pub ListRead : List ℕ → List ℕ → List ℕ → Bool → ℕ → State → Style → Result State Refusal → Type 0
ListRead tape ws ws' naming depth a s r = Reads tape ws ws' depth (within s naming) (past s naming) a r × ToTheEnd tape naming depth r
