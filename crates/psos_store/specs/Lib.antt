pub mod Slots
pub mod MemoryBlocks
pub mod MemStore
