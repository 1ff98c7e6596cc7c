-- The answers of the calls that draw go into one number.
use mathlib.Core.List.{List}
use Prim.Native.Nat.{ℕ}
use lib.Dec.{lit≤}
use lib.ListN.{length}
use Rattle.tape.specs.Outcome.{Outcome}
use Rattle.tape.proofs.Calls.{Packs}
use Rattle.compositor.specs.declared.Settings.{Settings}
use Rattle.compositor.specs.Draw.{Tapes, draw_call}
use Rattle.compositor.specs.Drawn.{Drawn}
use Rattle.compositor.proofs.Answers.{cue_bounded, strokes_pack}
use Rattle.job.specs.declared.JobRecord.{JobRecord}
use Rattle.job.specs.Stripes.{Division}
use Rattle.job.specs.Work.{open_call, work_call}
use Rattle.job.specs.Worked.{Opened, Worked}
use Rattle.job.proofs.Answers.{most_number, open_bounded, work_bounded}

module _ (s : Settings) (tape : Tapes) (ws picture : List ℕ) where
  pub draw_packs : {ws' picture' : List ℕ} {answer : Outcome ℕ} → Drawn s tape ws ws' picture picture' answer → Packs answer
  draw_packs d =
      strokes_pack most_number (draw_call s (length ws) (length picture) tape)
      (cue_bounded s (length ws) (length picture) tape 0 most_number (lit≤ tt) (lit≤ tt)) d.answers

  pub open_packs : (d : Division) {ws' picture' : List ℕ} {answer : Outcome ℕ} {job : JobRecord} → Opened s tape ws ws' picture picture' d answer job → Packs answer
  open_packs d o =
      strokes_pack most_number (open_call s (length ws) (length picture) tape d) (open_bounded s (length ws) (length picture) tape d) o.answers

  pub work_packs : (job : JobRecord) (k n : ℕ) {ws' picture' : List ℕ} {answer : Outcome ℕ} {job' : JobRecord} → Worked s tape ws ws' picture picture' job k n answer job' → Packs answer
  work_packs job k n w =
      strokes_pack most_number (work_call s (length ws) (length picture) tape job k n)
      (work_bounded s (length ws) (length picture) tape job k n) w.answers
