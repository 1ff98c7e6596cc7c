use Rattle.std.proofs.Common.{◌<◌, ◌≤◌, ◌-◌, sym, ◌∙◌, arith}
use borrow.Author.Tests.{lt-ltb, le-ltb}
use Rattle.std.proofs.Common.{get_or}
use Rattle.tape.specs.Tape.{most_bytes}
use Rattle.tape.proofs.StackEnds.{long_turn, long_end}
use Rattle.tape.proofs.stack.has_too_long.Goals as goal

pub returns-then-place-end : goal.returns-then-place-end
returns-then-place-end c =
    let turn = c.loop-end.invariant.1 ∙ long_turn _ _ _ c.loop-end-test.true in
    let far : most_bytes < get_or c.args.ends.now c.loop-end.end-index 0 - c.loop-end.place = omega arith in
    sym (rw (lt-ltb _ _ far) at turn)

pub loop-end-preserved : goal.loop-end-preserved
loop-end-preserved c =
    let turn = c.loop-end.invariant.1 ∙ long_turn _ _ _ c.loop-end-test.true in
    let near : get_or c.args.ends.now c.loop-end.end-index 0 - c.loop-end.place ≤ most_bytes = omega arith in
    let number = c.type_inv.ends c.loop-end.end-index in
    (omega arith, rw (le-ltb _ _ near) at turn)

pub returns : goal.returns
returns c = sym (c.loop-end.invariant.1 ∙ long_end _ _ _ c.loop-end-test.false)
