use Rattle.compositor.specs.Read.{strokes_in}
use Rattle.compositor.proofs.Painting.{Still}
use Rattle.compositor.proofs.ReadBack.{lines_left, Reached}
use Rattle.compositor.proofs.strokes.Painter.draw_each_line.Given as goal

abbrev pub invariant-loop-i : goal.invariant-loop-i
invariant-loop-i l = record {
  reached : Reached l.self.ws.now l.i l.first l.before;
  still : Still l.rows (strokes_in l.self.layout.settings l.self.ws.now l.self.lines) l.initial.left l.initial.part (lines_left l.self.layout.settings l.self.ws.now l.self.lines l.first l.i) l.left l.part;
}
