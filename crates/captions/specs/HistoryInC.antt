-- WHAT ANY LIST OF CALLS FROM C LEAVES: the claim of the part History about the functions that a program in C calls,
-- where stripes, records and answers are numbers. `Demand3InC` is proved, and so is `PossibleInC`. Definitions only.
use Rattle.std.specs.Prelude.{◌≡◌, List, [], ◌∷◌, map, ℕ, ◌<◌, ◌^◌, length}
use Rattle.tape.specs.Outcome.{accepted}
use Rattle.tape.specs.Packed.{unpacked}
use Rattle.compositor.specs.Order.{Stroke}
use Rattle.compositor.specs.Draw.{Tapes, tape_strokes}
use Rattle.job.specs.Stripes.{division_of}
use Rattle.job.specs.Work.{open_call}
use Rattle.job.specs.History.{Entry, PartlyDrawn, asked}
use Rattle.captions.specs.Interface.{settings_of, stripes_of, record_of, OpenAnswered, WorkAnswered}

-- An accepted Open, and then calls of Work, the latest first, as a program in C makes them: each Work gets the
-- picture's buffer and the record as the call before it left them, and Open's settings and tape. A call's answer is
-- what its number stands for; an accepted one is below 2^32.
pub data HistoryInC (settings : List ℕ) (tape : Tapes) (stripes bytes : List ℕ) : List Entry → List ℕ → List ℕ → Type 0 where
  after_open_in_c : {ws ws' picture words : List ℕ} (result : ℕ) → OpenAnswered settings tape ws ws' bytes picture stripes words result → result < 2 ^ 32
      → HistoryInC settings tape stripes bytes [] picture words
  after_work_in_c : {entries : List Entry} {ws ws' picture picture' words words' : List ℕ} (k n result : ℕ)
      → HistoryInC settings tape stripes bytes entries picture words → WorkAnswered settings tape ws ws' picture picture' words words' k n result
      → HistoryInC settings tape stripes bytes (record { stripe = k; budget = n; room = length ws; answer = unpacked result } ∷ entries) picture' words'

-- the same claim
abbrev pub Demand3InC : Type 0
Demand3InC =
    (settings : List ℕ) (tape : Tapes) (stripes bytes : List ℕ) (entries : List Entry) (picture words : List ℕ)
    → HistoryInC settings tape stripes bytes entries picture words
    → (ts : List Stroke) × (tape_strokes (settings_of settings) tape ≡ accepted ts)
    × PartlyDrawn (settings_of settings) ts (division_of (stripes_of stripes)) bytes entries picture (record_of words)

-- and it is never empty
abbrev pub PossibleInC : Type 0
PossibleInC =
    (settings : List ℕ) (tape : Tapes) (stripes bytes ws : List ℕ) (ts : List Stroke)
    → open_call (settings_of settings) (length ws) (length bytes) tape (division_of (stripes_of stripes)) ≡ accepted ts
    → (wishes : List (ℕ × ℕ × List ℕ))
    → (entries : List Entry) × (picture : List ℕ) × (words : List ℕ)
    × HistoryInC settings tape stripes bytes entries picture words
    × (map asked entries ≡ map (λ w. (w.0, w.1, length w.2)) wishes)
