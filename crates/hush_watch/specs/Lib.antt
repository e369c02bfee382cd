-- for the inside of the crate alone
pub mod Served
pub mod NextMessages
pub mod Watching
-- the words of crates below, handed on
pub use Rattle.hush_laws.specs as hush_laws
pub use Rattle.event_replay.specs as event_replay
