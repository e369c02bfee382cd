pub mod Answers
pub mod Files
pub mod Journal
pub mod Laws
pub mod Pieces
pub mod Log
pub mod MemoryForms
pub mod Peers
pub mod link
pub mod Playing
pub mod Putting
pub mod ReadWhole
pub mod Rising
pub mod Scripted
pub mod SystemForms
-- the words of crates below, handed on
pub use Rattle.script_text.specs as script_text
pub use Rattle.plain_values.specs as plain_values
pub use Rattle.script_text.specs.hex as hex
