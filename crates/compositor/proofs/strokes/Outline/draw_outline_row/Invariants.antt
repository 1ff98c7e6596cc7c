use Rattle.compositor.proofs.Painting.{Still}
use Rattle.compositor.specs.Outline.{displacement_row}
use Rattle.compositor.specs.Painting.{strokes_of}
use Rattle.compositor.proofs.Outlines.{row_left}
use Prim.Native.Nat.{◌+◌, ◌*◌}
use Rattle.compositor.proofs.strokes.Outline.draw_outline_row.Given as goal

abbrev pub invariant-loop-dx : goal.invariant-loop-dx
invariant-loop-dx l =
    Still l.rows (strokes_of l.self.stamp.now.key l.self.stamp.now.pen l.self.o l.self.at (displacement_row l.self.o l.dy 0 (2 * l.self.o + 1))) l.initial.left l.initial.part (row_left l.self.stamp.now.key l.self.stamp.now.pen l.self.o l.self.at l.dy l.dx) l.left l.part
