pub mod CutLaws
pub mod UserNames
pub mod LineReading
pub mod DoneReading
pub mod LineLoop
pub mod Places
pub mod TextLaws
pub mod StampLaws
