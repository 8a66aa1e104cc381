pub mod Entries
pub mod Pages
pub mod Scan
pub mod Replacement
pub mod Changes
pub mod Lists
pub mod EntryLists
