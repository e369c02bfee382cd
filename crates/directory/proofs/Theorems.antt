-- What crates above may cite of directories.
pub use Rattle.directory.proofs.entries.EntryLemmas.{in-use}
pub use Rattle.directory.proofs.hiding.SeenLemmas.{discloses-named}
