pub mod Owners
pub mod Wants
