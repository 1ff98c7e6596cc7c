-- Laws of lists, columns and bytes; the laws of the definition; what each step of the code comes to.
pub mod Lists  -- tests, lists without their end, and numbers in a row
pub mod ColumnCounts  -- the columns of letters and lines
pub mod InkCounts  -- how many letters with ink lines have
pub mod Chunks  -- a token in chunks: the first of them, and then those of the rest
pub mod AllShown  -- the law: letters that show occur on the lines once each, in tape order
pub mod AllInked  -- the law: the letters on lines have as many with ink as all letters
pub mod EachLetterOnce  -- the law: the numbers on lines are some of the letters', each once and in order
pub mod Narrow  -- the law: no line has over L columns
pub mod Alike  -- the law: captions whose letters are alike to the wrapper have the same lines
pub mod TableBytes  -- numbers in two bytes, the table of lines, and stores beside them
pub mod NextToken  -- the definition passes letters a break or a token at a time
pub mod CursorBounds  -- the bounds of a cursor are kept
pub mod CursorHolds  -- what workspace and cursor hold after a line is closed, and after letters are added
pub mod LoopTurns  -- what a turn of each reading loop finds
pub mod CursorBehind  -- the cursor behind letters that were added
pub mod HardBreaks  -- what the calls for one chunk come to, and for all chunks of a token
pub mod TokenRules  -- a token is put by the rules 1 to 4
pub mod LettersPassed  -- the code passes all letters, a break or a token after the other
pub mod CallWrap  -- where all lines lie, how they come to the front, and what the call comes to
pub mod FewLines  -- the law: there are at most as many lines as letters
pub mod Answers  -- for the layers above: how far the call's outcome goes
pub mod Cases  -- tapes and what Wrap makes of them, by computation
