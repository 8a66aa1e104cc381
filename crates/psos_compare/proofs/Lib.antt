pub mod CallCounts
