pub mod Causes
pub mod Calls
pub mod Blocks
pub mod Bytes
pub mod MemSource
pub mod MemSink
pub mod NoStore
