-- `draw_lowest_rows` meets its contract: the rows from row i on are done.
use Rattle.font.proofs.RowLaws.{Done}
use Rattle.font.proofs.paint.draw_lowest_rows.Given as goal

abbrev pub invariant-loop-i : goal.invariant-loop-i
invariant-loop-i l =
    Done l.count l.glyph l.offsets l.color l.at.x l.at.base l.size l.rows.count l.rows.first l.initial.part l.i l.part
