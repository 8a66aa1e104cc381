pub mod Beginnings
pub mod StepRule
pub mod MemberEntries
pub mod JournalInvariant
pub mod GroupedCounts
pub mod MetMembers
pub mod TakenMembers
