use mathlib.Core.Path.{◌≡◌, ◌∙◌, sym}
use mathlib.Core.Bool.{cond}
use Prim.Native.Nat.{◌<◌}
use native.Mathlib.Omega.{arith}
use borrow.Author.Tests.{lt-ltb, le-ltb}
use borrow.Author.Rules.{rules}
use lib.ListN.{length}
use Rattle.job.specs.Stripes.{most_stripes, has_stripe, division_of}
use Rattle.job.proofs.Division.{all_counted, counters_turn, counters_end}
use Rattle.job.proofs.JobRecord.is_unsound.Goals as goal
use Rattle.job.proofs.JobRecord.is_unsound.Goals.{After-most_counted}

-- the most that is sound, by whether the stripe is there
most : (c : After-most_counted) → c.most_counted.result ≡ cond (has_stripe (division_of c.args.self.stripes) c.loop-k.k) c.args.total 0
unfolding has_stripe
most c =
    let long : length c.args.self.stripes.end_rows ≡ most_stripes = search rules in
    rw (all_counted c.args.self.stripes long c.requires) c.most_counted.ensures

pub returns-then-most_counted-counter : goal.returns-then-most_counted-counter
returns-then-most_counted-counter c =
    let l = c.loop-k in
    let a = c.args in
    let in_range : l.k < length a.self.counters = search rules in
    sym (l.invariant ∙ counters_turn _ a.total l.k a.self.counters in_range ∙ rw (← most (goal.at.returns-then-most_counted-counter c).After-most_counted, lt-ltb _ _ c.if-most_counted-counter.true))

pub loop-k-preserved : goal.loop-k-preserved
loop-k-preserved c =
    let l = c.loop-k in
    let a = c.args in
    let in_range : l.k < length a.self.counters = search rules in
    l.invariant ∙ counters_turn _ a.total l.k a.self.counters in_range ∙ rw (← most (goal.at.loop-k-preserved c).After-most_counted, le-ltb _ _ c.if-most_counted-counter.false)

pub returns : goal.returns
returns c =
    let l = c.loop-k in
    let a = c.args in
    let long : length a.self.counters ≡ most_stripes = search rules in
    sym (l.invariant ∙ counters_end _ a.total l.k a.self.counters (omega arith))
