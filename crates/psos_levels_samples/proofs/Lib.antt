pub mod FoundRows
pub mod TakenSlots
