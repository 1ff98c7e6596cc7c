-- The records that a history from C is told with are the contracts of `captions_open` and `captions_work`: these ask
-- nothing of their callers, and what the check reads off their `ensures` clauses is `OpenAnswered` and `WorkAnswered`
-- of what each was given and what it left. Other clauses are refused here.
use mathlib.Core.Path.{◌≡◌, refl}
use Prim.Native.Nat.{ℕ}
use contract.Lifetimes.{Lfts}
use denote.Triple.Clauses.{AtExit}
use borrow.Fn.Kinds.{Dens, ended_of}
use Rattle.captions.specs.Interface.{OpenAnswered, WorkAnswered}
use Rattle.captions.proofs.captions_open.Kinds as open-kinds
use Rattle.captions.proofs.captions_open.Reads as open-reads
use Rattle.captions.proofs.captions_work.Kinds as work-kinds
use Rattle.captions.proofs.captions_work.Reads as work-reads

-- what is given: settings, tape, workspace, picture, stripes and record; at exit the workspace, the picture and
-- the record
module _ (κs : Lfts 6) (a : Dens κs open-kinds.ps) where
  open_asks : open-reads.Pre κs a ≡ Unit {0}
  open_asks = refl

  open_tells : (r : ℕ) (x : AtExit (ended_of 6 open-kinds.ps open-kinds.r) κs)
      → open-reads.Post κs a r x
      ≡ OpenAnswered a.0.now a.1.0.now a.1.1.0.now x.1.1.0.now a.1.1.1.0.now x.1.1.1.0.now
      a.1.1.1.1.0.now x.1.1.1.1.1.0.now r
  open_tells r x = refl

-- the same with the record before it too, the stripe and the budget in place of the stripes
module _ (κs : Lfts 5) (a : Dens κs work-kinds.ps) where
  work_asks : work-reads.Pre κs a ≡ Unit {0}
  work_asks = refl

  work_tells : (r : ℕ) (x : AtExit (ended_of 5 work-kinds.ps work-kinds.r) κs)
      → work-reads.Post κs a r x
      ≡ WorkAnswered a.0.now a.1.0.now a.1.1.0.now x.1.1.0.now a.1.1.1.0.now x.1.1.1.0.now
      a.1.1.1.1.0.now x.1.1.1.1.0.now a.1.1.1.1.1.0 a.1.1.1.1.1.1.0 r
  work_tells r x = refl
