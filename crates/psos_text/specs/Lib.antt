pub mod Chain
pub mod Name
pub mod Number
pub mod Hex
pub mod Lines
pub mod Tokens
pub mod Draws
