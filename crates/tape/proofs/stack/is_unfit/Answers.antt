use Rattle.std.proofs.Common.{sym, ◌∙◌}
use native.Mathlib.Nat.{pos_of_ne-zero}
use borrow.Author.Tests.{lt-leb, le-leb, eqb-true, eqb-false}
use Rattle.tape.proofs.StackEnds.{reach_turn, reach_end, unfit_none, unfit_many, unfit_by}
use Rattle.tape.proofs.stack.is_unfit.Goals as goal
use Rattle.tape.proofs.stack.is_unfit.Goals.{then-is_empty-via-then-is_empty, then-is_empty-via-else-is_empty+then-ends-gt-MOST_TAPES}

pub returns-then-is_empty : goal.returns-then-is_empty
returns-then-is_empty c =
    elim c.then-is_empty.branch [
      | then-is_empty-via-then-is_empty w ↦ sym (unfit_none _ _ (eqb-true _ 0 (sym (w.if-is_empty.ensures {u = tt}))))
      | then-is_empty-via-else-is_empty+then-ends-gt-MOST_TAPES w ↦ sym (unfit_many _ _ w.if-ends-gt-MOST_TAPES.true)
    ]

pub returns-then-end-place : goal.returns-then-end-place
returns-then-end-place c =
    let turn = c.loop-end.invariant ∙ reach_turn _ _ _ _ c.loop-end-test.true in
    sym (unfit_by _ _ (pos_of_ne-zero (eqb-false _ 0 (sym (c.if-is_empty.ensures {u = tt})))) c.if-ends-gt-MOST_TAPES.false (rw (lt-leb _ _ c.if-end-place.true) at turn))

pub loop-end-preserved : goal.loop-end-preserved
loop-end-preserved c =
    let turn = c.loop-end.invariant ∙ reach_turn _ _ _ _ c.loop-end-test.true in
    rw (le-leb _ _ c.if-end-place.false) at turn

pub returns : goal.returns
returns c =
    sym (unfit_by _ _ (pos_of_ne-zero (eqb-false _ 0 (sym (c.if-is_empty.ensures {u = tt})))) c.if-ends-gt-MOST_TAPES.false (c.loop-end.invariant ∙ reach_end _ _ _ _ c.loop-end-test.false))
