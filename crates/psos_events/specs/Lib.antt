pub mod Events
pub mod Replays
pub mod Committed
pub mod Phases
