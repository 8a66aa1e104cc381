pub mod Collected
pub mod Kinds
pub mod Listing
pub mod Pages
pub mod Reads
pub mod Room
