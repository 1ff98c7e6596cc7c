-- WHAT ANY LIST OF CALLS LEAVES: one claim about an accepted Open and every list of Work calls after it, refused ones
-- among them. `Demand3`, near the end, is the claim, and it is proved; so is `Possible`, that the claim is never empty.
-- Calls are told by the records that are the contracts of Open and Work. Definitions only.
use Rattle.std.specs.Prelude.{◌≡◌, false, cond, List, [], ◌∷◌, map, ℕ, ◌+◌, ◌-◌, ◌*◌, ◌<◌, min, length, take, drop, nat_lt, ◌==◌}
use Rattle.tape.specs.Outcome.{Outcome, accepted, refused}
use Rattle.tape.specs.Tape.{least_room}
use Rattle.compositor.specs.declared.Settings.{Settings}
use Rattle.compositor.specs.Settings.{row_bytes, picture_bytes}
use Rattle.compositor.specs.Order.{Stroke}
use Rattle.compositor.specs.Picture.{row_after}
use Rattle.compositor.specs.Draw.{Tapes, tape_strokes}
use Rattle.job.specs.declared.JobRecord.{JobRecord}
use Rattle.job.specs.Stripes.{Division, most_stripes, stripe_of, has_stripe, stripes_with, counter_of}
use Rattle.job.specs.Work.{open_call}
use Rattle.job.specs.Worked.{Opened, Worked}

-- ---- a history

-- an entry of a history is a call of Work: its stripe, its budget, how many bytes its workspace has, and what it
-- answered
pub record Entry : Type 0 where
  pub stripe : ℕ
  pub budget : ℕ
  pub room : ℕ
  pub answer : Outcome ℕ

-- An accepted Open, with a division d, on a picture's buffer that held `bytes`, and then calls of Work, the latest
-- first, with the picture's buffer and the record as they are after them. Each Work gets both as the call before it
-- left them, and Open's settings and tape; its stripe, its budget and its workspace are any.
pub data History (s : Settings) (tape : Tapes) (d : Division) (bytes : List ℕ) : List Entry → List ℕ → JobRecord → Type 0 where
  after_open : {ws ws' picture : List ℕ} {job : JobRecord} (total : ℕ) → Opened s tape ws ws' bytes picture d (accepted total) job
      → History s tape d bytes [] picture job
  after_work : {entries : List Entry} {ws ws' picture picture' : List ℕ} {job job' : JobRecord} {answer : Outcome ℕ} (k n : ℕ)
      → History s tape d bytes entries picture job → Worked s tape ws ws' picture picture' job k n answer job'
      → History s tape d bytes (record { stripe = k; budget = n; room = length ws; answer = answer } ∷ entries) picture' job'

-- ---- what its calls count

-- a budget n counts where its call was accepted
abbrev pub granted : ℕ → Outcome ℕ → ℕ
granted n (accepted m) = n
granted n (refused number place) = 0

-- c of stripe k, call by call: each call on the stripe raises it by the budget, if that was accepted, and never past T
unfoldable pub count : List Stroke → List Entry → ℕ → ℕ
count ts [] k = 0
count ts (entry ∷ before) k =
    cond (entry.stripe == k) (min (length ts) (count ts before k + granted entry.budget entry.answer)) (count ts before k)

-- the budgets accepted for stripe k, summed as whole numbers
unfoldable pub budgets : ℕ → List Entry → ℕ
budgets k [] = 0
budgets k (entry ∷ entries) = cond (entry.stripe == k) (granted entry.budget entry.answer) 0 + budgets k entries

-- what is due of a call after others: 11, 12, or by how much it raised its stripe's c
abbrev pub due_of : List Stroke → Division → Entry → List Entry → Outcome ℕ
due_of ts d entry before =
    cond (nat_lt entry.room least_room) (refused 11 0)
    (cond (has_stripe d entry.stripe) (accepted (count ts (entry ∷ before) entry.stripe - count ts before entry.stripe))
    (refused 12 0))

-- each call answered what was due
unfoldable pub AllDue : List Stroke → Division → List Entry → Type 0
AllDue ts d [] = Unit
AllDue ts d (entry ∷ before) = (entry.answer ≡ due_of ts d entry before) × AllDue ts d before

-- ---- the claim

-- row y of a picture's buffer
abbrev pub row_of : Settings → List ℕ → ℕ → List ℕ
row_of s bytes y = take (row_bytes s) (drop (y * row_bytes s) bytes)

-- After such calls, where the caption has the strokes ts: each row holds what the first c strokes leave on a row of
-- zeros, c that of its stripe, which is the smaller of T and the sum of the budgets accepted for it; the bytes after
-- the picture are as they were; the record has the division, 0 in the end rows that it does not use, and 64
-- counters, that of stripe k its c, which is 0 past the last stripe; and each call answered what was due.
pub record PartlyDrawn
    (s : Settings)
    (ts : List Stroke)
    (d : Division)
    (bytes : List ℕ)
    (entries : List Entry)
    (picture : List ℕ)
    (job : JobRecord) : Type 0 where
  pub holds : (y : ℕ) → y < s.height → row_of s picture y ≡ row_after s ts (count ts entries (stripe_of d y)) y
  pub summed : (k : ℕ) → count ts entries k ≡ min (length ts) (budgets k entries)
  pub beyond : drop (picture_bytes s) picture ≡ drop (picture_bytes s) bytes
  pub same_size : length picture ≡ length bytes
  pub same_stripes : job.stripes ≡ stripes_with d
  pub sixty_four : length job.counters ≡ most_stripes
  pub counted : (k : ℕ) → counter_of job k ≡ count ts entries k
  pub past : (k : ℕ) → has_stripe d k ≡ false → counter_of job k ≡ 0
  pub due : AllDue ts d entries

abbrev pub Demand3 : Type 0
Demand3 =
    (s : Settings) (tape : Tapes) (d : Division) (bytes : List ℕ) (entries : List Entry) (picture : List ℕ) (job : JobRecord)
    → History s tape d bytes entries picture job
    → (ts : List Stroke) × (tape_strokes s tape ≡ accepted ts) × PartlyDrawn s ts d bytes entries picture job

-- what is asked of a call: its stripe, its budget, and how many bytes its workspace has
abbrev pub asked : Entry → ℕ × ℕ × ℕ
asked entry = (entry.stripe, entry.budget, entry.room)

-- Where an Open is accepted there is a history after it of every list of stripes, budgets and workspaces.
abbrev pub Possible : Type 0
Possible =
    (s : Settings) (tape : Tapes) (d : Division) (bytes ws : List ℕ) (ts : List Stroke)
    → open_call s (length ws) (length bytes) tape d ≡ accepted ts
    → (wishes : List (ℕ × ℕ × List ℕ))
    → (entries : List Entry) × (picture : List ℕ) × (job : JobRecord)
    × History s tape d bytes entries picture job
    × (map asked entries ≡ map (λ w. (w.0, w.1, length w.2)) wishes)
