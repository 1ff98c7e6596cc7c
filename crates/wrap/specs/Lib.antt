-- The definitions in reading order, with the contract of the call; then the promises that the crate's functions make to
-- each other.
pub mod Columns
pub mod Lines
pub mod Wrap
pub mod Wrapped
pub mod Shown
pub mod Laid
pub mod Limited
pub mod Filled
