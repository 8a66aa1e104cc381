pub mod ReadingSteps
pub mod FirstPlaces
pub mod NameLaws
pub mod NumberLaws
pub mod HexLaws
pub mod LineLaws
pub mod WordLaws
