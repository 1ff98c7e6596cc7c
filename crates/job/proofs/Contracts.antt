-- The records that a history is told with are the contracts of `open` and `work`: these ask nothing of their callers,
-- and what the check reads off their `ensures` clauses is `Opened` and `Worked` of what each was given and what it
-- left. Other clauses are refused here.
use mathlib.Core.Path.{◌≡◌, refl}
use contract.Lifetimes.{Lfts}
use denote.Triple.Clauses.{AtExit}
use borrow.Fn.Kinds.{Dens, ended_of}
use Rattle.tape.specs.Answer.{outcome_of}
use Rattle.job.specs.declared.JobAnswer.{JobAnswer}
use Rattle.job.specs.Stripes.{division_of}
use Rattle.job.specs.Worked.{Opened, Worked}
use Rattle.job.proofs.open.Kinds as open-kinds
use Rattle.job.proofs.open.Reads as open-reads
use Rattle.job.proofs.work.Kinds as work-kinds
use Rattle.job.proofs.work.Reads as work-reads

-- what is given: settings, tape, workspace, picture and stripes; at exit the workspace and the picture
module _ (κs : Lfts 3) (a : Dens κs open-kinds.ps) where
  open_asks : open-reads.Pre κs a ≡ Unit {0}
  open_asks = refl

  open_tells : (r : JobAnswer) (x : AtExit (ended_of 3 open-kinds.ps open-kinds.r) κs)
      → open-reads.Post κs a r x
      ≡ Opened a.0 a.1.0.now a.1.1.0.now x.1.1.0.now a.1.1.1.0.now x.1.1.1.0.now (division_of a.1.1.1.1.0) (outcome_of r.answer) r.job
  open_tells r x = refl

-- the same with the record, the stripe and the budget in place of the stripes
module _ (κs : Lfts 3) (a : Dens κs work-kinds.ps) where
  work_asks : work-reads.Pre κs a ≡ Unit {0}
  work_asks = refl

  work_tells : (r : JobAnswer) (x : AtExit (ended_of 3 work-kinds.ps work-kinds.r) κs)
      → work-reads.Post κs a r x
      ≡ Worked a.0 a.1.0.now a.1.1.0.now x.1.1.0.now a.1.1.1.0.now x.1.1.1.0.now a.1.1.1.1.0
      a.1.1.1.1.1.0 a.1.1.1.1.1.1.0 (outcome_of r.answer) r.job
  work_tells r x = refl
