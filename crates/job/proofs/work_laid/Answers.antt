use mathlib.Core.Path.{◌≡◌, ◌∙◌, sym}
use mathlib.Core.Bool.{true, false}
use Prim.Native.Nat.{◌≤◌}
use native.Mathlib.Omega.{arith}
use borrow.Author.Tests.{lt-ltb, le-ltb}
use lib.ListN.{length}
use Rattle.compositor.specs.Read.{strokes_in}
use Rattle.job.specs.Stripes.{most_stripes, has_stripe, division_of, counter_of, counters_unsound}
use Rattle.job.proofs.Division.{stripes_few, stripe_low, all_counted, counter_small}
use Rattle.job.proofs.CallWork.{unsound, no_stripe, did_work}
use borrow.Author.Rules.{rules}
use Rattle.job.proofs.work_laid.Goals as goal
use Rattle.job.proofs.work_laid.Goals.{Else-count-stripe, Else-is_unsound, Start}

few : (c : Start) → length (division_of c.args.job.now.stripes) ≤ most_stripes
few c = stripes_few c.args.laid.layout.settings _ c.requires.stripes

-- the record has as many stripes as it counts, and 64 counters
counted : (c : Start) → length (division_of c.args.job.now.stripes) ≡ c.args.job.now.stripes.stripe_count
counted c =
    let long : length c.args.job.now.stripes.end_rows ≡ most_stripes = search rules in
    all_counted c.args.job.now.stripes long (few c)

long : (c : Start) → length c.args.job.now.counters ≡ most_stripes
long c = search rules

-- the record is sound
sound : (c : Else-is_unsound) →
    let a = c.args in
    counters_unsound (division_of a.job.now.stripes) (length (strokes_in a.laid.layout.settings a.ws.now a.laid.lines)) 0 a.job.now.counters ≡ false
sound c =
    rw (← c.requires.counts) (sym c.is_unsound.ensures ∙ c.if-is_unsound.false)

-- the stripe is there, and its counter is small enough
there : (c : Else-count-stripe) →
    let a = c.args in
    has_stripe (division_of a.job.now.stripes) a.stripe ≡ true
unfolding has_stripe
there c =
    let a = c.args in
    lt-ltb a.stripe (length (division_of a.job.now.stripes)) (omega (arith, counted (goal.at.Else-count-stripe c).Start, c.if-count-stripe.false))

small : (c : Else-count-stripe) →
    let a = c.args in
    counter_of a.job.now a.stripe ≤ a.laid.strokes
small c =
    let a = c.args in
    let k = stripe_low a.laid.layout.settings _ c.requires.stripes a.stripe (there c) in
    let n = long (goal.at.Else-count-stripe c).Start in
    rw c.requires.counts (counter_small _ _ a.job.now.counters a.stripe (sound (goal.at.Else-count-stripe c).Else-is_unsound) (omega arith) (there c))

pub is_unsound-requires : goal.is_unsound-requires
is_unsound-requires c = few (goal.at.is_unsound-requires c).Start

pub returns-then-is_unsound : goal.returns-then-is_unsound
returns-then-is_unsound c =
    rw c.at.ensures (unsound c.args.laid.layout.settings _ _ _ _ _ _ (rw (← c.requires.counts) (sym c.is_unsound.ensures ∙ c.if-is_unsound.true)))

pub returns-then-count-stripe : goal.returns-then-count-stripe
unfolding has_stripe
returns-then-count-stripe c =
    let a = c.args in
    let e = goal.at.returns-then-count-stripe c in
    rw c.at-then-count-stripe.ensures
    (no_stripe a.laid.layout.settings _ _ _ _ _ _ (sound e.Else-is_unsound)
    (le-ltb a.stripe (length (division_of a.job.now.stripes)) (omega (arith, counted e.Start, c.if-count-stripe.true))))

pub step-requires : goal.step-requires
step-requires c =
    record { workable = c.requires; there = there (goal.at.step-requires c).Else-count-stripe; sound = small (goal.at.step-requires c).Else-count-stripe }

pub returns : goal.returns
returns c =
    did_work c.args.laid.layout.settings _ _ _ _ _ _ (sound (goal.at.returns c).Else-is_unsound) (there (goal.at.returns c).Else-count-stripe) c.step.ensures
