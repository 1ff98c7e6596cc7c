use mathlib.Core.Path.{◌≡◌, ◌∙◌, refl}
use mathlib.Core.Bool.{◌&&◌}
use Prim.Native.Nat.{◌+◌, ◌≤◌}
use native.Mathlib.Omega.{arith}
use borrow.Author.Rules.{rules}
use borrow.Author.Tests.{lt-ltb, le-ltb, eq-eqb, ne_eqb}
use lib.Dec.{eqb, ltb}
use lib.ListN.{length, take, drop}
use Rattle.job.specs.Stripes.{most_stripes, end_row, rises_to, division_of}
use Rattle.job.proofs.Rising.{rises_turn, rises_end}
use Rattle.job.proofs.Division.{fault_many, fault_by, division_length, entries_used}
use Rattle.job.proofs.stripe.check.Goals as goal
use Rattle.job.proofs.stripe.check.Goals.{After-loop-end, Else-count-gt-MOST_STRIPES, In-loop-end, Start}

-- the stripes have 64 entries
long : (c : Start) → length c.args.stripes.end_rows ≡ most_stripes
long c = search rules

few : (c : Else-count-gt-MOST_STRIPES) → length (division_of c.args.stripes) ≤ most_stripes
few c = omega (arith, division_length c.args.stripes (long (goal.at.Else-count-gt-MOST_STRIPES c).Start), c.if-count-gt-MOST_STRIPES.false)

-- where they are not too many, the entries that are counted are the division
used : (c : Else-count-gt-MOST_STRIPES) → take c.args.stripes.stripe_count c.args.stripes.end_rows ≡ division_of c.args.stripes
used c = entries_used c.args.stripes (long (goal.at.Else-count-gt-MOST_STRIPES c).Start) (few c)

-- the next end
turn : (c : In-loop-end) →
    let l = c.loop-end in
    let d = division_of c.args.stripes in
    let end = end_row d l.end-index in
    rises_to c.args.s.height 0 d ≡ (ltb l.row end && rises_to c.args.s.height end (drop (l.end-index + 1) d))
turn c =
    let l = c.loop-end in
    let in_range = rw (used (goal.at.In-loop-end c).Else-count-gt-MOST_STRIPES) at c.loop-end-test.true in
    l.invariant ∙ rises_turn c.args.s.height l.row _ l.end-index in_range

pub returns-then-count-gt-MOST_STRIPES : goal.returns-then-count-gt-MOST_STRIPES
returns-then-count-gt-MOST_STRIPES c =
    let length = division_length c.args.stripes (long (goal.at.returns-then-count-gt-MOST_STRIPES c).Start) in
    rw (c.at.ensures, fault_many c.args.s (division_of c.args.stripes) (omega (arith, length, c.if-count-gt-MOST_STRIPES.true))) refl

pub returns-then-end-row : goal.returns-then-end-row
returns-then-end-row c =
    let e = goal.at.returns-then-end-row c in
    let low = rw (used e.Else-count-gt-MOST_STRIPES) at c.if-end-row.true in
    let falls = rw (le-ltb _ _ low) at (turn e.In-loop-end) in
    rw (c.at-then-end-row.ensures, fault_by c.args.s _ (few e.Else-count-gt-MOST_STRIPES) falls) refl

pub loop-end-preserved : goal.loop-end-preserved
loop-end-preserved c =
    let e = goal.at.loop-end-preserved c in
    let is = used e.Else-count-gt-MOST_STRIPES in
    let rises = rw is at c.if-end-row.false in
    rw is (rw (lt-ltb _ _ rises) at (turn e.In-loop-end))

-- all have risen
risen : (c : After-loop-end) → rises_to c.args.s.height 0 (division_of c.args.stripes) ≡ eqb c.loop-end.row c.args.s.height
risen c =
    let l = c.loop-end in
    let past = rw (used (goal.at.After-loop-end c).Else-count-gt-MOST_STRIPES) at c.loop-end-test.false in
    l.invariant ∙ rises_end c.args.s.height l.row _ l.end-index past

pub returns-then-row-s : goal.returns-then-row-s
returns-then-row-s c =
    let e = goal.at.returns-then-row-s c in
    rw (c.at-then-row-s.ensures, fault_by c.args.s _ (few e.Else-count-gt-MOST_STRIPES) (risen e.After-loop-end ∙ ne_eqb _ _ c.if-row-s.true)) refl

pub returns : goal.returns
returns c =
    let e = goal.at.returns c in
    rw (fault_by c.args.s _ (few e.Else-count-gt-MOST_STRIPES) (risen e.After-loop-end ∙ eq-eqb _ _ c.if-row-s.false)) refl
