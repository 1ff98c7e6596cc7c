use mathlib.Core.Path.{◌∙◌, refl, sym, ap}
use native.Mathlib.Omega.{arith}
use Rattle.font.specs.declared.BitmapFont.{BitmapFont}
use Rattle.font.specs.Font.{table_of}
use Rattle.font.proofs.Rounding.{slant_back, shear_of_lem}
use Rattle.compositor.specs.Read.{strokes_at, strokes_in}
use Rattle.compositor.specs.Outline.{outline_of}
use Rattle.compositor.proofs.Painting.{nothing}
use Rattle.compositor.proofs.LinesOff.{lines_around, missing}
use Rattle.compositor.proofs.strokes.draw_lines.Goals as goal

pub returns-then-lines-eq0 : goal.returns-then-lines-eq0
unfolding strokes_in strokes_at
returns-then-lines-eq0 c =
    let a = c.args in
    rw c.if-lines-eq0.true (nothing a.rows a.window a.part.now).paints

pub returns-then-is_off : goal.returns-then-is_off
unfolding strokes_in
returns-then-is_off c =
    let a = c.args in
    let o = c.outline.ensures in
    let high = c.baseline-high.ensures in
    let low = c.baseline-low.ensures.0 in
    let off = rw (high.0, low, o.0) at (sym c.is_off.ensures ∙ c.if-is_off.true) in
    (missing a.rows _ _ (outline_of a.laid.layout.settings) (rw high.0 at high.1) (omega arith) off _ a.window a.part.now refl
    (lines_around a.laid.layout.settings a.laid.lines a.laid.lines 0 0 a.ws.now (omega arith))
    ).paints

pub row_offsets-requires : goal.row_offsets-requires
row_offsets-requires c = rw c.new-italic.ensures (shear_of_lem _ c.args.laid.layout.in_range.slanted)

pub invariant_of-painter : goal.invariant_of-painter
invariant_of-painter c = record {
  fonts =
      record {
        regular_is = c.table-regular.ensures ∙ ap (λ (f : BitmapFont). table_of f.bold) c.default_regular-font.ensures;
        bold_is = c.table-bold.ensures ∙ ap (λ (f : BitmapFont). table_of f.bold) c.default_bold-heavy.ensures;
        slanted_is = c.row_offsets.ensures ∙ rw (c.new-italic.ensures, slant_back _ c.args.laid.layout.in_range.slanted);
      };
  lined = c.requires.1;
}
