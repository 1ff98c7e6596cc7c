-- `draw_glyph_sheared` meets its contract: all sixteen rows are the stroke.
use Rattle.std.proofs.Common.{◌+◌, ◌*◌, sym, ◌∙◌}
use Rattle.font.specs.Paint.{stroke_row, each_row}
use Rattle.font.specs.Shear.{pen_glyph, pen_offsets, pen_row}
use Rattle.font.proofs.RowLaws.{rows_kept, stroke_clear, all_rows}
use Rattle.font.proofs.paint.draw_glyph_sheared.Goals as goal

pub returns-then-color-eq0 : goal.returns-then-color-eq0
returns-then-color-eq0 c =
    let a = c.args in
    sym
    (rows_kept (pen_row a.key a.pen a.at) (4 * a.rows.width) a.rows.count a.rows.first a.part.now
    (λ j row h. stroke_clear (pen_glyph a.key a.pen) (pen_offsets a.pen) a.pen.color a.at.x a.at.base (a.rows.first + j) row c.if-color-eq0.true))

pub returns : goal.returns
returns c =
    let drawn = c in
    let a = drawn.args in
    let inked = drawn.requires.2 in
    c.draw_lowest_rows.ensures
    ∙ all_rows a.glyph.now a.offsets.now a.pen.color a.at.x a.at.base (4 * a.rows.width) a.rows.count a.rows.first a.part.now
    ∙ λ i. each_row (stroke_row (inked.glyph_is i) (inked.offsets_are i) a.pen.color a.at.x a.at.base) (4 * a.rows.width) a.rows.count
    a.rows.first a.part.now
