pub mod loading
pub mod Outside
pub mod Troubles
pub mod Ending
-- the words of crates below, handed on
pub use Rattle.change_replay.specs as change_replay
pub use Rattle.client_core.specs as client_core
pub use Rattle.data_file.specs as data_file
pub use Rattle.data_file.specs.ldif_load as ldif_load
pub use Rattle.data_file.specs.ldif_records as ldif_records
pub use Rattle.change_replay.specs.aci_item as aci_item
pub use Rattle.dir_tree.specs as dir_tree
pub use Rattle.dir_tree.specs.dn_names as dn_names
pub use Rattle.wire_io.specs.plain_values as plain_values
pub use Rattle.wire_io.specs as wire_io
pub use Rattle.wire_io.specs.script_text as script_text
pub use Rattle.wire_io.specs.hex as hex
