-- Laws of tables, of the slant, and of painting; the notation's signs.
pub mod ArrayFill  -- an array of f 0, f 1, and so on: its length, its entries, and that these make it
pub mod EveryEntry  -- a rule at each entry of a list, or at each number below n, by computed tests
pub mod GlyphRules  -- the two rules of the glyph tables, over the whole table
pub mod Modes  -- the glyphs of mode 1 are those of mode 0
pub mod Ink  -- which glyphs have ink, and that a stroke of one without paints nothing
pub mod Rounding  -- the slant in f32, at each of the nine slants and sixteen rows
pub mod PixelBlend  -- a color blended into one pixel
pub mod Columns  -- a glyph's row painted into a picture's row
pub mod RowLaws  -- a picture's rows, each changed by itself, and a stroke's rows
pub mod Pixels  -- lists of pixels without one twice, and a color blended into each
pub mod MetPixels  -- the pixels that a stroke meets
pub mod Upward  -- a stroke drawn from its lowest row up
pub mod Cases  -- the pixels that a comma meets, what modes draw, which glyphs have ink, and how far rows move, by computation
pub mod Signs  -- the signs of the library mean what the deposit says of them
