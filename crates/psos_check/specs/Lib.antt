pub mod Cuts
pub mod Lines
pub mod UserLine
pub mod DoneLine
pub mod Reading
pub mod Texts
pub mod Order
pub mod Laws
