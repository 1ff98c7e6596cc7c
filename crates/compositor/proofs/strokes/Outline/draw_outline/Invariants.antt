use Rattle.compositor.specs.Outline.{displacements}
use Rattle.compositor.specs.Painting.{strokes_of}
use Rattle.compositor.proofs.Painting.{Still}
use Rattle.compositor.proofs.Outlines.{rows_left}
use Rattle.compositor.proofs.strokes.Outline.draw_outline.Given as goal

abbrev pub invariant-loop-dy : goal.invariant-loop-dy
invariant-loop-dy l =
    Still l.rows (strokes_of l.self.stamp.now.key l.self.stamp.now.pen l.self.o l.self.at (displacements l.self.o)) l.initial.left l.initial.part (rows_left l.self.stamp.now.key l.self.stamp.now.pen l.self.o l.self.at l.dy) l.left l.part
