-- What crates above may cite of changes.
pub use Rattle.entry_changes.proofs.laws.GoodLemmas.{good-changed_by, name-changed_by, good-renamed_entry, name-renamed_entry}
pub use Rattle.entry_changes.proofs.effects.EffectLemmas.{filled_from}
