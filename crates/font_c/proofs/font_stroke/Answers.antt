-- `font_stroke` meets its contract: all sixteen rows are the stroke.
use Rattle.std.proofs.Common.{◌≡◌, ◌∙◌, ap, Bool, cond, List, ℕ, ◌*◌, length}
use Rattle.font.specs.Font.{table_of, glyph_rows}
use Rattle.font.specs.Colors.{color_bytes}
use Rattle.font.specs.Slant.{row_offsets}
use Rattle.font.proofs.RowLaws.{all_rows}
use Rattle.font_c.specs.Exported.{admitted, stroked, stroked_rows}
use Rattle.font_c.proofs.font_stroke.Goals as goal

sixteen : (width rows first mode code : ℕ) (bold : Bool) (slant k x y : ℕ) (l : List ℕ)
    → stroked_rows 16 width rows first mode code bold slant k x y l ≡ stroked width rows first mode code bold slant k x y l
unfolding stroked_rows stroked
sixteen width rows first mode code bold slant k x y l =
    ap (λ (m : List ℕ). cond (admitted (length l) width rows first slant x y) m l)
    (all_rows (glyph_rows (table_of bold) mode code) (row_offsets slant) (color_bytes k) x y (4 * width) rows first l)

pub returns : goal.returns
returns c =
    let rows = c.font_stroke_rows.ensures in
    record { answers = rows.answers; leaves = rows.leaves ∙ sixteen _ _ _ _ _ _ _ _ _ _ _ }
