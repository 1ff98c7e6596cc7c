-- The definitions in reading order, with the contracts of the calls and demand 3; then the promises that the crate's
-- functions make to each other.
pub mod Stripes
pub mod Work
pub mod Worked
pub mod History
pub mod Ends
pub mod Ready
