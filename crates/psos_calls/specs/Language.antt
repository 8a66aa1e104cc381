-- The language of scripts, and what flat answers and plans share.
pub mod Rights
pub mod Capabilities
pub mod Request
pub mod Script
pub mod User
pub mod Names
pub mod Tests
pub mod Views
pub mod Stores
pub mod Replies
