use native.Mathlib.Omega.{arith}
use Rattle.compositor.proofs.Painting.{nothing, begin, turn, done}
use Rattle.compositor.proofs.Outlines.{displacements_none, displacements_some, rows_turn, rows_end}
use Rattle.compositor.proofs.strokes.Outline.draw_outline.Goals as goal

pub returns-then-self-eq0 : goal.returns-then-self-eq0
returns-then-self-eq0 c = rw (displacements_none _ _ _ _ c.if-self-eq0.true) (nothing _ _ _)

pub loop-dy-init : goal.loop-dy-init
loop-dy-init c = let a = c.args in begin _ _ _ _ (displacements_some a.self.now.stamp.now.key a.self.now.stamp.now.pen a.self.now.o a.self.now.at (omega arith))

pub loop-dy-preserved : goal.loop-dy-preserved
loop-dy-preserved c =
    let a = c.args in
    let l = c.loop-dy in
    turn _ _ _ _ _ _ (rows_turn a.self.now.stamp.now.key a.self.now.stamp.now.pen a.self.now.o a.self.now.at l.dy c.loop-dy-test.true) c.requires l.auto.part c.draw_outline_row-left.ensures l.invariant

pub returns : goal.returns
returns c =
    let a = c.args in
    let l = c.loop-dy in
    done _ _ _ _ (rows_end a.self.now.stamp.now.key a.self.now.stamp.now.pen a.self.now.o a.self.now.at l.dy c.loop-dy-test.false) l.invariant
