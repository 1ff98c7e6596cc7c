-- `paint_row` meets its contract: after c turns the first c columns are painted.
use Rattle.std.proofs.Common.{◌≡◌}
use Rattle.font.specs.Paint.{paint_columns}
use Rattle.font.proofs.paint.paint_row.Given as goal

abbrev pub invariant-loop-c : goal.invariant-loop-c
invariant-loop-c l = l.row ≡ paint_columns l.color l.bits l.x l.c l.initial.row
