-- The definitions in reading order, then the promises that the crate's functions make to each other.
pub mod Signs
pub mod Glyphs
pub mod Modes
pub mod Font
pub mod Ink
pub mod Slant
pub mod Blend
pub mod Paint
pub mod Colors
pub mod Upward
pub mod Shear
pub mod Lent
