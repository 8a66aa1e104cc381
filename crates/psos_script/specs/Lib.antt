pub mod Operands
pub mod Table
pub mod Values
pub mod Fault
pub mod CauseText
pub mod Draft
pub mod Answers
pub mod LeastFault
