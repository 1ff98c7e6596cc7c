use Prim.Native.Nat.{◌<◌}
use native.Mathlib.Omega.{arith}
use Rattle.job.specs.Stripes.{most_stripes, with_counter}
use Rattle.job.proofs.Division.{stripe_low}
use Rattle.job.proofs.CallWork.{did_step}
use Rattle.job.proofs.step.Goals as goal
use Rattle.job.proofs.step.Goals.{Start}

-- the stripe has one of the record's counters
low : (c : Start) → c.args.k < most_stripes
low c = stripe_low _ _ c.requires.workable.stripes c.args.k c.requires.there

pub offset_bounds-job-k : goal.offset_bounds-job-k
offset_bounds-job-k c = let k = low (goal.at.offset_bounds-job-k c).Start in omega arith

pub bounds-job-k : goal.bounds-job-k
bounds-job-k c = low (goal.at.bounds-job-k c).Start

pub offset_bounds-job-k-2 : goal.offset_bounds-job-k-2
offset_bounds-job-k-2 c = let k = low (goal.at.offset_bounds-job-k-2 c).Start in omega arith

pub bounds-job-k-2 : goal.bounds-job-k-2
bounds-job-k-2 c = let k = low (goal.at.bounds-job-k-2 c).Start in omega arith

pub returns : goal.returns
unfolding with_counter
returns c =
    let a = c.args in
    let total = c.requires.workable.counts in
    did_step a.laid.layout.settings _ a.ws.now a.picture.now a.job.now a.k a.budget c.min-m.result
    (rw total at c.requires.sound) (rw total at c.min-m.ensures)
    c.draw_stripe.ensures
