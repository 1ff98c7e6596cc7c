-- The definitions in reading order, then the promises that the crate's functions make to each other.
pub mod Outcome
pub mod Call
pub mod Style
pub mod Command
pub mod Runs
pub mod Tape
pub mod Stack
pub mod TapeRead
pub mod Packed
pub mod Segments
pub mod Marks
pub mod Stored
pub mod Reading
pub mod Lent
pub mod Near
pub mod Answer
