-- THE CONTRACTS OF OPEN AND WORK: what each call answers and what it leaves, for every input. The history of calls is
-- told with them.
use Rattle.std.specs.Prelude.{List, ℕ, length}
use Rattle.tape.specs.Outcome.{Outcome}
use Rattle.tape.specs.Call.{IsFree, Came}
use Rattle.compositor.specs.declared.Settings.{Settings}
use Rattle.compositor.specs.Draw.{Tapes}
use Rattle.job.specs.declared.JobRecord.{JobRecord}
use Rattle.job.specs.Stripes.{Division, no_record}
use Rattle.job.specs.Work.{open_call, opening, work_call, stepped}

-- Open with a division d: the workspace and the picture's buffer before and after, and what it gave: how many strokes
-- the caption has, and a record, which is all zeros where Open is refused
abbrev pub Opened : Settings → Tapes → List ℕ → List ℕ → List ℕ → List ℕ → Division → Outcome ℕ → JobRecord → Type 0
Opened s tape ws ws' picture picture' d answer job =
    Came (open_call s (length ws) (length picture) tape d) length (opening s d picture) IsFree (picture, no_record) (picture', job) ws ws' answer

-- Work on stripe k with budget n: how many strokes it did, and the record
abbrev pub Worked : Settings → Tapes → List ℕ → List ℕ → List ℕ → List ℕ → JobRecord → ℕ → ℕ → Outcome ℕ → JobRecord → Type 0
Worked s tape ws ws' picture picture' job k n answer job' =
    Came (work_call s (length ws) (length picture) tape job k n) length (stepped s job k picture) IsFree (picture, job) (picture', job') ws ws' answer
