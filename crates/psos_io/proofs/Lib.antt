pub mod Pieces
pub mod KnownBytes
