-- Laws of the tape's meaning; what each step of the reader comes to; the calls; segments; cases.
pub mod Operands  -- operand widths, and the numbers that operand bytes spell
pub mod Faults  -- the table of faults, test by test, and what a command without a fault has
pub mod Commands  -- what single commands are, and how many letters they add
pub mod MeaningSteps  -- how the tape's meaning goes on: one command, a fault, the end
pub mod EqualStyles  -- equal style is equality
pub mod Copied  -- for the layers above too: bytes copied into a part of a buffer are stored one after the other
pub mod StoredRuns  -- runs stored one after the other are stored together
pub mod TapeParts  -- parts of a tape that are read one after the other are read together
pub mod LeafCommands  -- commands that neither open nor end anything
pub mod ShortLetters  -- letters of one byte, and other leaves without a fault
pub mod MarkedRuns  -- letters made run by run are those of the merged runs
pub mod Bounds  -- what a tape comes to is bounded
pub mod Calls  -- the contract of a call, for every call: how it is met, what an answer tells
pub mod Answers  -- for the layers above: how far the reader's outcome goes
pub mod CallRead  -- from the outer list to the call that reads a tape
pub mod StackEnds  -- a stack's ends, one after the other; that its tapes can be lent, and which they are
pub mod StackLetters  -- a stack's letters, by its tapes: all accepted, or the first that is refused
pub mod MergeAlike  -- runs that merge alike: a text may be cut into texts of the same style
pub mod WrittenSegments  -- the tape that segments write means the runs that walking them gives
pub mod StoredLetters  -- for the layers above: a letter read back out of the workspace
pub mod SegmentBytes  -- what segments within the limits write are bytes
pub mod Cases  -- tapes and what they mean, by computation
