use Rattle.compositor.proofs.Painting.{begin, turn, done}
use Rattle.compositor.proofs.ReadBack.{line_begin, line_turn, line_end}
use Rattle.compositor.proofs.strokes.Painter.draw_line.Goals as goal

pub loop-i-init : goal.loop-i-init
loop-i-init c =
    let a = c.args in
    begin _ _ _ _ (line_begin a.self.now.layout.settings a.self.now.ws.now a.start.x a.start.base a.span.first a.span.letters)

pub loop-i-preserved : goal.loop-i-preserved
loop-i-preserved c =
    let a = c.args in
    let l = c.loop-i in
    let next = line_turn a.self.now.layout.settings a.self.now.ws.now a.start.x a.start.base a.span.first a.span.letters l.i c.loop-i-test.true in
    turn _ _ _ _ _ _ next c.requires.0 l.auto.part (rw c.number-number.ensures at c.draw_letter-left.ensures) l.invariant

pub returns : goal.returns
returns c =
    let a = c.args in
    let l = c.loop-i in
    done _ _ _ _ (line_end a.self.now.layout.settings a.self.now.ws.now a.start.x a.start.base a.span.first a.span.letters l.i c.loop-i-test.false) l.invariant
