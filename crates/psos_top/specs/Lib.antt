pub mod Words
pub mod Orders
pub mod Outcome
pub mod Runs
pub mod Loading
pub mod Program
