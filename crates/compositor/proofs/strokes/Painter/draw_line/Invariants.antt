use Rattle.compositor.specs.Order.{line_strokes}
use Rattle.compositor.specs.Read.{letters_at}
use Rattle.compositor.proofs.Painting.{Still}
use Rattle.compositor.proofs.ReadBack.{line_left}
use Rattle.compositor.proofs.strokes.Painter.draw_line.Given as goal

abbrev pub invariant-loop-i : goal.invariant-loop-i
invariant-loop-i l =
    Still l.rows (line_strokes l.self.layout.settings l.start.x l.start.base (letters_at l.self.ws.now l.span.first l.span.letters)) l.initial.left l.initial.part
    (line_left l.self.layout.settings l.self.ws.now l.start.x l.start.base l.span.first l.span.letters l.i) l.left l.part
