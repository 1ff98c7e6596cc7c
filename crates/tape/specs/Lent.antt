-- Promises: the tapes of a stack by their numbers, and that each can be lent. No reader of the deposit needs this file.
use Rattle.std.specs.Prelude.{List, ◌∷◌, ℕ, ◌-◌, ◌*◌, ◌≤◌, ◌<◌, length, take, drop, slice_index}
use Rattle.tape.specs.Tape.{most_bytes}
use Rattle.tape.specs.Stack.{Tapes, most_tapes}

-- a buffer and ends as a call is handed them
abbrev pub handed : List ℕ → List ℕ → Tapes
handed bytes es = record { tape_bytes = bytes; tape_ends = es }

module _ (t : Tapes) where
  -- how many tapes there are; where tape i begins and ends, and its bytes
  abbrev pub tape_count : ℕ
  tape_count = length t.tape_ends

  abbrev pub begin_of : ℕ → ℕ
  begin_of i = slice_index (0 ∷ t.tape_ends) i

  abbrev pub end_of : ℕ → ℕ
  end_of i = slice_index t.tape_ends i

  abbrev pub tape_at : ℕ → List ℕ
  tape_at i = take (end_of i - begin_of i) (drop (begin_of i) t.tape_bytes)

  -- it can be lent, and is not too long
  pub record Lendable (i : ℕ) : Type 0 where
    pub forward : begin_of i ≤ end_of i
    pub inside : end_of i ≤ length t.tape_bytes
    pub short : end_of i - begin_of i ≤ most_bytes

  -- a stack that no call refuses
  pub record Fit : Type 0 where
    pub some : 1 ≤ tape_count
    pub few : tape_count ≤ most_tapes
    pub each : (i : ℕ) → i < tape_count → Lendable i

-- the farthest place that a call names: the end of the last tape
abbrev pub most_place : ℕ
most_place = most_tapes * most_bytes
