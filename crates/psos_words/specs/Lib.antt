pub mod Words
pub mod Guard
pub mod Directory
pub mod Block
