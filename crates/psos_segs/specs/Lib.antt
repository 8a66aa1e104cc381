pub mod Codes
pub mod Within
