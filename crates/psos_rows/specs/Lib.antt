pub mod Lines
pub mod Serial
pub mod Fronts
pub mod Running
