pub mod FreeSlots
pub mod MemoryStore
