pub mod Kinds
pub mod Parts
pub mod Vacancies
pub mod Deletion
