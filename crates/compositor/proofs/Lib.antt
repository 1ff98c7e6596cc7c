-- Document 01's cases; laws of strokes and of the definitions; what each step of the code comes to; how far the call's
-- outcome goes.
pub mod Cases  -- document 01's cases a to l in one table, letters without ink, other house settings, and some more, by computation
pub mod Painting  -- strokes on lent rows: one list after the other, and a window on them
pub mod Outlines  -- the outline: its displacements one by one, and how many they are
pub mod Ranges  -- settings within their range, and the bounds of positions
pub mod ReadBack  -- letters and lines read back from the workspace, one after the other
pub mod WorkspaceHolds  -- lines read back from the workspace are those that the letters make
pub mod Total  -- the law: T is the letters with ink times (1 + 8o)
pub mod LinesOff  -- lines whose strokes all miss the lent rows
pub mod ClearedPicture  -- strokes on a picture that was cleared
pub mod WrappedLines  -- letters that were wrapped: their lines can be read, and drawn they are the drawing
pub mod Checks  -- what is checked before a tape is read, and how a call goes on
pub mod AcceptedCalls  -- a call that is accepted: what is then known, and what other calls come to
pub mod Answers  -- for the layers above: how far the outcome of a call goes
pub mod Plain  -- document 01's signed formulas for lines, and sums of signed numbers
pub mod PlainStrokes  -- strokes, offsets and displacements in signed numbers
pub mod Replaced  -- the law: drawing in glyph mode 1 is drawing the replaced letters in mode 0
pub mod Inkless  -- the law: strokes without ink may be left out of a picture drawn whole
pub mod House  -- the law: what side margin, slant and outline cap change and what they leave
