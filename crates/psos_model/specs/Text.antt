-- How a script is spelled, and how a run is printed.
pub mod Operands
pub mod RequestWords
pub mod Spelling
pub mod Transcript
pub mod Output
pub mod Load
