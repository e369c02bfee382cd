-- What crates above may cite of loading.
pub use Rattle.ldif_load.proofs.load.NameLemmas.{entry_of_record-named, name-with_pairs, name-with_value, good-with_pairs}
pub use Rattle.ldif_load.proofs.laws.FileLemmas.{ends_at_first}
