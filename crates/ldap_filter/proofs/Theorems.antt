-- What crates above may cite.

-- a filter that is read is the one that the octets say, and the one that they say is read
pub use Rattle.ldap_filter.proofs.laws.SoundLemmas.{filter_sound}
pub use Rattle.ldap_filter.proofs.laws.CompleteLemmas.{filter_complete}
-- a written filter says itself
pub use Rattle.ldap_filter.proofs.writing.SpellingLemmas.{filter_spells, spelled}
