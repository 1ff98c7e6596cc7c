use Rattle.compositor.proofs.Painting.{turn, done}
use Rattle.compositor.proofs.Outlines.{row_turn, row_end}
use Rattle.compositor.proofs.strokes.Outline.draw_outline_row.Goals as goal

pub loop-dx-preserved : goal.loop-dx-preserved
loop-dx-preserved c =
    let a = c.args in
    let l = c.loop-dx in
    turn _ _ _ _ _ _ (row_turn a.self.now.stamp.now.key a.self.now.stamp.now.pen a.self.now.o a.self.now.at a.dy l.dx c.loop-dx-test.true) c.requires.0 l.auto.part c.draw_displaced-left.ensures l.invariant

pub returns : goal.returns
returns c =
    let a = c.args in
    let l = c.loop-dx in
    done _ _ _ _ (row_end a.self.now.stamp.now.key a.self.now.stamp.now.pen a.self.now.o a.self.now.at a.dy l.dx c.loop-dx-test.false) l.invariant
