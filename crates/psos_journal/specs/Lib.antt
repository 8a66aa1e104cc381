pub mod Cells
pub mod Counts
pub mod Members
pub mod Views
pub mod Holds
pub mod Faults
pub mod NewMembers
pub mod Grounds
