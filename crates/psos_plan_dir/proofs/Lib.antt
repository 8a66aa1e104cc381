pub mod NameLists
pub mod FindPlan
pub mod DirectoryPlans
pub mod DirectoryReaders
pub mod Representations
pub mod PlanSteps
pub mod PageWalk
