-- The other reading of a tape: the segments that it writes, and the runs that walking them gives.
-- That the two readings agree is proved. Definitions only.
use Rattle.std.specs.Prelude.{◌≡◌, Bool, true, cond, ◌&&◌, List, [], ◌∷◌, ◌++◌, ℕ, suc, ◌+◌, ◌/◌, ◌%◌, ◌≤◌, ◌<◌, max, length, nat_lt}
use Rattle.tape.specs.declared.Style.{Style}
use Rattle.tape.specs.Style.{Opener, bold_list, italic_list, color_list, plain_list, inside}
use Rattle.tape.specs.Command.{deepest, most_letters, is_scalar}
use Rattle.tape.specs.Runs.{Run, run}

infixr 20 ◌then◌
-- A segment, and a list of segments. What is underlined, struck out or the like is a plain group.
mutual
  pub data Segment : Type 0 where
    text : List ℕ → Segment
    line_break : Segment
    timestamp : Segment
    group : Opener → Segments → Segment
    voice : List ℕ → Segments → Segment

  pub data Segments : Type 0 where
    none : Segments
    ◌then◌ : Segment → Segments → Segments

-- ---- the runs of segments, before they merge

abbrev mutual
  pub walk : Segment → Style → List Run
  walk (text vs) s = run s vs ∷ []
  walk line_break s = run s (0x0a ∷ []) ∷ []
  walk timestamp s = []
  walk (group o gs) s = walk_list gs (inside o s)
  walk (voice name gs) s = run s (name ++ (0x3a ∷ 0x20 ∷ [])) ∷ walk_list gs s

  pub walk_list : Segments → Style → List Run
  walk_list none s = []
  walk_list (g then gs) s = walk g s ++ walk_list gs s

-- ---- their tape

-- a letter, in the shortest command that holds its code point
unfoldable pub letter_bytes : ℕ → List ℕ
letter_bytes v =
    cond (nat_lt v 0x100) (0x02 ∷ v ∷ [])
    (cond (nat_lt v 0x10000) (0x03 ∷ v / 256 ∷ v % 256 ∷ []) (0x04 ∷ v / 65536 ∷ v / 256 % 256 ∷ v % 256 ∷ []))

abbrev pub letters_bytes : List ℕ → List ℕ
letters_bytes [] = []
letters_bytes (v ∷ vs) = letter_bytes v ++ letters_bytes vs

-- a text without a letter is the command 01
abbrev pub text_bytes : List ℕ → List ℕ
text_bytes [] = 0x01 ∷ []
text_bytes (v ∷ vs) = letters_bytes (v ∷ vs)

abbrev pub name_bytes : List ℕ → List ℕ
name_bytes name = letters_bytes name ++ (0x00 ∷ [])

abbrev pub opener_bytes : Opener → List ℕ
opener_bytes bold_list = 0x06 ∷ []
opener_bytes italic_list = 0x07 ∷ []
opener_bytes (color_list red green blue) = 0x08 ∷ red ∷ green ∷ blue ∷ []
opener_bytes plain_list = 0x0a ∷ []

abbrev mutual
  pub written : Segment → List ℕ
  written (text vs) = text_bytes vs
  written line_break = 0x05 ∷ []
  written timestamp = 0x0b ∷ []
  written (group o gs) = opener_bytes o ++ (written_list gs ++ (0x00 ∷ []))
  written (voice name gs) = 0x09 ∷ name_bytes name ++ (written_list gs ++ (0x00 ∷ []))

  pub written_list : Segments → List ℕ
  written_list none = []
  written_list (g then gs) = written g ++ written_list gs

-- ---- their limits

-- how many letters they have: a break is one, and a voice adds two
abbrev mutual
  pub letter_count : Segment → ℕ
  letter_count (text vs) = length vs
  letter_count line_break = 1
  letter_count timestamp = 0
  letter_count (group o gs) = letter_count_list gs
  letter_count (voice name gs) = length name + (2 + letter_count_list gs)

  pub letter_count_list : Segments → ℕ
  letter_count_list none = 0
  letter_count_list (g then gs) = letter_count g + letter_count_list gs

-- how deep their lists lie
abbrev mutual
  pub nesting : Segment → ℕ
  nesting (text vs) = 0
  nesting line_break = 0
  nesting timestamp = 0
  nesting (group o gs) = suc (nesting_list gs)
  nesting (voice name gs) = suc (nesting_list gs)

  pub nesting_list : Segments → ℕ
  nesting_list none = 0
  nesting_list (g then gs) = max (nesting g) (nesting_list gs)

-- whether they can be written: every letter is a Unicode scalar value, and every color byte a byte
abbrev pub are_scalars : List ℕ → Bool
are_scalars [] = true
are_scalars (v ∷ vs) = is_scalar v && are_scalars vs

abbrev pub is_writable : Opener → Bool
is_writable bold_list = true
is_writable italic_list = true
is_writable (color_list red green blue) = nat_lt red 256 && (nat_lt green 256 && nat_lt blue 256)
is_writable plain_list = true

abbrev mutual
  pub writable : Segment → Bool
  writable (text vs) = are_scalars vs
  writable line_break = true
  writable timestamp = true
  writable (group o gs) = is_writable o && writable_list gs
  writable (voice name gs) = are_scalars name && writable_list gs

  pub writable_list : Segments → Bool
  writable_list none = true
  writable_list (g then gs) = writable g && writable_list gs

-- within the limits
pub record Within (gs : Segments) : Type 0 where
  pub deep : nesting_list gs ≤ deepest
  pub few : letter_count_list gs ≤ most_letters
  pub can : writable_list gs ≡ true

-- a list of bytes
abbrev pub AllBytes : List ℕ → Type 0
AllBytes [] = Unit
AllBytes (b ∷ bs) = (b < 256) × AllBytes bs
