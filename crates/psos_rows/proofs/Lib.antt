pub mod FirstUser
pub mod RunSoFar
pub mod SerialRun
pub mod OrderRun
