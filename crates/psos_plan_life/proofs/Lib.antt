pub mod PlanSequence
pub mod RunFronts
pub mod RoomSearch
pub mod TypedOpening
pub mod CreationPlans
pub mod DeletePlan
