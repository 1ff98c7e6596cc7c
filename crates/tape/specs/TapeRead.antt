-- READING A TAPE BY ITSELF: how letters lie in the workspace, eight bytes each, and the contract of the call that puts
-- them there. The calls that wrap and draw begin with it. Definitions only.
use Rattle.std.specs.Prelude.{◌≡◌, Bool, cond, List, [], ◌∷◌, ◌++◌, ℕ, ◌+◌, ◌*◌, ◌/◌, ◌%◌, length}
use Rattle.std.proofs.lemmas.List.Edits.{sets}
use Rattle.tape.specs.declared.Style.{Style}
use Rattle.tape.specs.Outcome.{Outcome}
use Rattle.tape.specs.Runs.{Letter}
use Rattle.tape.specs.Tape.{read_call}
use Rattle.tape.specs.Call.{nothing, Came}

-- 1 for bold, 2 for italic, 4 for the start of a run, added
abbrev pub flags_of : Style → Bool → ℕ
flags_of s start = cond s.bold 1 0 + cond s.italic 2 0 + cond start 4 0

-- a letter's bytes: three of its code point, high byte first; red, green, blue, alpha; the flags
abbrev pub stored_letter : ℕ → Style → Bool → List ℕ
stored_letter v s start =
    v / 65536 ∷ v / 256 % 256 ∷ v % 256 ∷ s.red ∷ s.green ∷ s.blue ∷ s.alpha ∷ flags_of s start ∷ []

abbrev pub stored_letters : List Letter → List ℕ
stored_letters [] = []
stored_letters (l ∷ ls) = stored_letter l.code l.style l.start ++ stored_letters ls

-- the workspace ws with letters from number n on; its other bytes stay
abbrev pub stored : List ℕ → ℕ → List Letter → List ℕ
stored ws n ls = sets ws (8 * n) (stored_letters ls)

-- Reading a tape whose outer list has the style s: the answer is how many letters it has, and the workspace begins with
-- them and is as it was behind them. Nothing else is changed.
abbrev pub TapeRead : List ℕ → List ℕ → List ℕ → Style → Outcome ℕ → Type 0
TapeRead tape ws ws' s answer =
    Came (read_call s (length ws) tape) length (λ ls. nothing) (λ ls. ws' ≡ stored ws 0 ls) nothing nothing ws ws' answer
