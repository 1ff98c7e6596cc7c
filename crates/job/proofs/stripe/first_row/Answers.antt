use mathlib.Core.Path.{◌≡◌, ◌∙◌, sym}
use Prim.Native.Nat.{◌-◌, ◌<◌}
use native.Mathlib.Omega.{arith}
use borrow.Author.Tests.{ltb-true}
use lib.ListN.{length}
use Rattle.job.specs.Stripes.{most_stripes, has_stripe, division_of}
use Rattle.job.proofs.Division.{division_length, end_entry, first_after}
use borrow.Author.Rules.{rules}
use Rattle.job.proofs.stripe.first_row.Goals as goal
use Rattle.job.proofs.stripe.first_row.Goals.{Else-k-eq0, Start}

long : (c : Start) → length c.args.stripes.end_rows ≡ most_stripes
long c = search rules

-- the stripe before it is there, and so is its entry
before : (c : Else-k-eq0) → (c.args.k - 1 < length (division_of c.args.stripes)) × (c.args.k - 1 < most_stripes)
unfolding has_stripe
before c =
    let a = c.args in
    let there = ltb-true a.k (length (division_of a.stripes)) c.requires in
    let some = c.if-k-eq0.false in
    let n = division_length a.stripes (long (goal.at.Else-k-eq0 c).Start) in
    (omega arith, omega arith)

pub offset_bounds-stripes-k : goal.offset_bounds-stripes-k
offset_bounds-stripes-k c = let low = (before (goal.at.offset_bounds-stripes-k c).Else-k-eq0).1 in omega arith

pub bounds-stripes-k : goal.bounds-stripes-k
bounds-stripes-k c = (before (goal.at.bounds-stripes-k c).Else-k-eq0).1

pub returns : goal.returns
returns c =
    let a = c.args in
    sym (first_after (division_of a.stripes) a.k c.if-k-eq0.false ∙ end_entry a.stripes (long (goal.at.returns c).Start) (a.k - 1) (before (goal.at.returns c).Else-k-eq0).0)
