-- Flat: the flat state, its places, its changes, and boot.
pub mod Flat
-- Answer: the outcome of each request, and the state and reply after it.
pub mod Answer
-- Run: answers one after another, and their order.
pub mod Run
-- Text: how a script is spelled, and how a run is printed. Nothing up to here knows a level or a plan.
pub mod Text
-- Sound: what holds of every flat state that a run reaches.
pub mod Sound
-- Replay: plans one after another over the levels, the levels at boot, and when levels stand for a flat state.
pub mod Replay
-- Events: takes, calls and closes of users that go beside one another, and turns.
pub mod Events
-- Laws: what is proved of answers and runs.
pub mod Laws
