-- For the layers above: how far the outcomes of the calls go.
use mathlib.Core.Bool.{Bool, true, false, cond, not, ◌||◌}
use mathlib.Core.List.{List}
use Prim.Native.Nat.{ℕ, ◌≤◌}
use native.Mathlib.Omega.{arith}
use lib.Dec.{lit≤, ltb}
use lib.ListN.{length}
use Rattle.tape.specs.Outcome.{Outcome, accepted, refused, and_then}
use Rattle.tape.proofs.Calls.{Bounded, refuse_bounded}
use Rattle.compositor.specs.declared.Settings.{Settings}
use Rattle.compositor.specs.Order.{Stroke}
use Rattle.compositor.specs.Draw.{Tapes}
use Rattle.compositor.proofs.Answers.{Few, cue_bounded}
use Rattle.job.specs.declared.JobRecord.{JobRecord}
use Rattle.job.specs.Stripes.{Division, most_stripes, has_stripe, rises_to, stripes_fault, division_of, counter_of, counters_unsound}
use Rattle.job.specs.Work.{open_call, stripe_call, work_call}
use Rattle.job.proofs.CallWork.{strokes_done}

-- the largest number of a refusal
abbrev pub most_number : ℕ
most_number = 14

fault_most : (s : Settings) (d : Division) → stripes_fault s d ≤ most_number
unfolding stripes_fault
fault_most s d = by (ltb most_stripes (length d) || not (rises_to s.height 0 d))
  where
    by : (b : Bool) → cond b 13 0 ≤ most_number
    by true = lit≤ tt
    by false = lit≤ tt

pub open_bounded : (s : Settings) (room size : ℕ) (tape : Tapes) (d : Division) → Bounded Few most_number (open_call s room size tape d)
open_bounded s room size tape d = cue_bounded s room size tape (stripes_fault s d) most_number (lit≤ tt) (fault_most s d)

pub work_bounded : (s : Settings) (room size : ℕ) (tape : Tapes) (job : JobRecord) (k n : ℕ)
    → Bounded Few most_number (work_call s room size tape job k n)
unfolding work_call stripe_call
work_bounded s room size tape job k n = go (open_call s room size tape (division_of job.stripes)) (open_bounded s room size tape (division_of job.stripes))
  where
    go : (o : Outcome (List Stroke)) → Bounded Few most_number o → Bounded Few most_number (and_then (stripe_call job k n) o)
    go (accepted ts) b =
        let m = strokes_done ts (counter_of job k) n in
        refuse_bounded Few most_number (counters_unsound (division_of job.stripes) (length ts) 0 job.counters) 14 _ (lit≤ tt) (lit≤ tt)
        (λ _. refuse_bounded Few most_number (not (has_stripe (division_of job.stripes) k)) 12 _ (lit≤ tt) (lit≤ tt) (λ _. omega arith))
    go (refused number place) b = b
