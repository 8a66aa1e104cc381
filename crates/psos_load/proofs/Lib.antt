pub mod LinesLeft
pub mod Words
pub mod LineTexts
pub mod Requests
pub mod Users
