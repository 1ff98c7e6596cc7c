-- `BitmapFont::table` meets its contract: both constants are compared with their definitions, all 4,096 rows.
use Rattle.font.specs.Glyphs.{printable, printable_glyph, glyph_of, latin1, glyphs}
use Rattle.font.specs.Font.{regular_table, bold_table}
use Rattle.font.proofs.BitmapFont.table.Goals as goal

pub returns-then-self : goal.returns-then-self
unfolding bold_table regular_table glyphs printable glyph_of latin1 printable_glyph
returns-then-self c = rw c.if-self.true

pub returns-else-self : goal.returns-else-self
unfolding regular_table glyphs printable glyph_of latin1 printable_glyph
returns-else-self c = rw c.if-self.false
