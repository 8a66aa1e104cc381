-- Language: requests, scripts, a user's own part, and the tests and views that answers and plans share. Nothing in it knows a level or a plan.
pub mod Language
-- Levels: what a call of each level changes and answers, and its condition.
pub mod Levels
-- Locks: the lock of a call, and which may be taken.
pub mod Locks
-- Plan: the calls that a request makes.
pub mod Plan
