-- The calls Open and Work: document 01, "Open and Work" and "Who is stopped, and by what". Definitions only.
use Rattle.std.specs.Prelude.{cond, not, List, ℕ, ◌+◌, length, take, drop, ◌==◌}
use Rattle.font.specs.Paint.{each_row}
use Rattle.tape.specs.Outcome.{Outcome, accepted, refuse_if, and_then}
use Rattle.compositor.specs.declared.Settings.{Settings}
use Rattle.compositor.specs.Settings.{row_bytes}
use Rattle.compositor.specs.Order.{Stroke}
use Rattle.compositor.specs.Picture.{strokes_on, cleared}
use Rattle.compositor.specs.Draw.{Tapes, cue_call}
use Rattle.job.specs.declared.JobRecord.{JobRecord}
use Rattle.job.specs.Stripes.{Division, stripe_of, has_stripe, stripes_fault, division_of, new_record, counter_of, with_counter, counters_unsound}

-- ---- Open

-- What a call of Open comes to, with a workspace of `room` bytes, a picture's buffer of `size` and this division: what
-- every call that draws comes to, with 13 before the tape's faults. Accepted, it has the caption's strokes, and answers
-- how many they are.
abbrev pub open_call : Settings → ℕ → ℕ → Tapes → Division → Outcome (List Stroke)
open_call s room size tape d = cue_call s room size tape (stripes_fault s d)

-- what an accepted Open leaves, where the picture's buffer held `bytes`: the picture is zeroed, and the job has done
-- nothing yet
abbrev pub opening : Settings → Division → List ℕ → List Stroke → List ℕ × JobRecord
opening s d bytes ts = (cleared s bytes, new_record d)

-- ---- a step on a stripe

-- the strokes that a step on stripe k with budget n does, where the caption has the strokes ts: those from number c on,
-- c the stripe's counter, n of them, or as many as are left, so that they are min(n, T − c)
abbrev pub step_strokes : JobRecord → ℕ → ℕ → List Stroke → List Stroke
step_strokes job k n ts = take n (drop (counter_of job k) ts)

-- the picture's buffer with strokes on the rows of stripe k; all other rows stay, and so do the bytes after them
abbrev pub on_stripe : Settings → Division → ℕ → List Stroke → List ℕ → List ℕ
on_stripe s d k ts bytes =
    each_row (λ y row. cond (stripe_of d y == k) (strokes_on ts y row) row) (row_bytes s) s.height 0 bytes

-- what an accepted Work leaves that has done the strokes `done`: they are on the rows of stripe k, and its counter has
-- grown by as many as they are
abbrev pub stepped : Settings → JobRecord → ℕ → List ℕ → List Stroke → List ℕ × JobRecord
stepped s job k bytes done = (on_stripe s (division_of job.stripes) k done bytes, with_counter job k (counter_of job k + length done))

-- ---- Work

-- the test of the record, 14, where the caption has the strokes ts, and the test of the stripe, 12
abbrev pub refuse_record : {A : Type 0} → JobRecord → List Stroke → Outcome A → Outcome A
refuse_record job ts o = refuse_if (counters_unsound (division_of job.stripes) (length ts) 0 job.counters) 14 0 o

abbrev pub refuse_stripe : {A : Type 0} → JobRecord → ℕ → Outcome A → Outcome A
refuse_stripe job k o = refuse_if (not (has_stripe (division_of job.stripes) k)) 12 0 o

-- what Work on stripe k with budget n comes to, where the caption has the strokes ts: 14, 12, or the strokes that a
-- step does
unfoldable pub stripe_call : JobRecord → ℕ → ℕ → List Stroke → Outcome (List Stroke)
stripe_call job k n ts = refuse_record job ts (refuse_stripe job k (accepted (step_strokes job k n ts)))

-- What a call of Work comes to: what Open of the record's division is refused by, and then these. It answers how many
-- strokes it does.
unfoldable pub work_call : Settings → ℕ → ℕ → Tapes → JobRecord → ℕ → ℕ → Outcome (List Stroke)
work_call s room size tape job k n = and_then (stripe_call job k n) (open_call s room size tape (division_of job.stripes))
