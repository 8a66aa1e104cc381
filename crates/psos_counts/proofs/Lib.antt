pub mod ClassCounts
pub mod RowCounts
