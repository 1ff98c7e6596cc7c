-- `font_stroke_rows` meets its contract.
use Rattle.std.proofs.Common.{◌∙◌, sym, ap, List, ℕ}
use Rattle.font.specs.declared.Pen.{Pen}
use Rattle.font.specs.Font.{glyph_rows}
use Rattle.font.specs.Slant.{row_offsets}
use Rattle.font.specs.Shear.{pen_glyph, pen_offsets}
use Rattle.font.specs.Upward.{part_after}
use Rattle.font.proofs.Rounding.{slant_back, shear_of_lem}
use Rattle.font_c.specs.Exported.{stroked_rows}
use Rattle.font_c.proofs.Admitted.{few}
use Rattle.font_c.proofs.font_stroke_rows.Goals as goal

pub row_offsets-offsets-requires : goal.row_offsets-offsets-requires
row_offsets-offsets-requires c = rw c.new-pen.ensures (shear_of_lem _ (few _ _ _ _ _ _ _ (sym c.is_admitted.ensures ∙ c.if-not-is_admitted.false)))

pub returns : goal.returns
unfolding stroked_rows
returns c =
    let a = c.args in
    let yes = sym c.is_admitted.ensures ∙ c.if-not-is_admitted.false in
    let pen = c.new-pen.ensures in
    let k = ap (λ (p : Pen). p.color) pen ∙ c.color_bytes.ensures in
    let glyph =
    c.glyph_rows-glyph.ensures
    ∙ ap (λ (t : List ℕ). glyph_rows t a.mode a.code) c.table.ensures
    ∙ ap (pen_glyph record { mode = a.mode; code = a.code }) pen in
    let offsets = c.row_offsets-offsets.ensures ∙ ap pen_offsets pen ∙ ap row_offsets (slant_back a.slant (few _ _ _ _ _ _ _ yes)) in
    record {
      answers = sym yes;
      leaves =
          simp yes
          (c.draw_lowest_rows.ensures
          ∙ λ i. part_after (glyph i) (offsets i) (k i) a.x a.y a.width a.rows a.first a.count a.part.now);
    }
