pub mod WindowPlan
