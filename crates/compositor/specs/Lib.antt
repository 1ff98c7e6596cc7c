-- The definitions in reading order, with the contract of the call; then the promises that the crate's functions make to
-- each other, and to those of the crates above.
pub mod Settings
pub mod Layout
pub mod Outline
pub mod Order
pub mod Picture
pub mod Draw
pub mod Drawn
pub mod Plain
pub mod Replaced
pub mod Inkless
pub mod House
pub mod Read
pub mod Painting
pub mod Ready
pub mod Checked
