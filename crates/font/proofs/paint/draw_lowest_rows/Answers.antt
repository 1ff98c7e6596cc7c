-- `draw_lowest_rows` meets its contract.
use Rattle.std.proofs.Common.{◌≡◌, ◌+◌, ◌-◌, ◌*◌, arith}
use Rattle.std.proofs.Math.Nat.{add-sub_cancel_left}
use Rattle.font.specs.Paint.{origin}
use Rattle.font.proofs.RowLaws.{row_in, falls, done_start, done_turn, done_end}
use Rattle.font.proofs.paint.draw_lowest_rows.Goals as goal

pub loop-i-init : goal.loop-i-init
loop-i-init c = done_start _ _ _ _ _ _ _ _ _ _ _ c.rows_above-below.ensures

pub loop-i-preserved : goal.loop-i-preserved
loop-i-preserved c =
    let a = c.args in
    let size = 4 * a.rows.width in
    let i = c.loop-i.i - 1 in
    let next : i + 1 ≡ c.loop-i.i = omega arith in
    let row = falls a.rows.count (origin + a.rows.first) (a.at.base - 12) (16 - a.count) _ c.loop-i.i (rw c.saturating_sub.ensures at c.rows_above-last.ensures) c.loop-i-test.true (omega arith) in
    let fits = row_in i a.rows.count size row.within c.requires.0.long in
    done_turn a.count a.glyph.now a.offsets.now a.color a.at.x a.at.base size a.rows.count a.rows.first a.part.now i _ _ c.loop-i.part
    c.draw_row.new.row row fits (add-sub_cancel_left (i * size) size) c.draw_row.ensures (rw next c.loop-i.invariant)

pub returns : goal.returns
returns c = done_end _ _ _ _ _ _ _ _ _ _ _ _ (omega arith) c.loop-i.invariant
