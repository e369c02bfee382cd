-- What crates above may cite of access control items.
pub use Rattle.aci_item.proofs.reading.ReadLemmas.{reads_shape}
pub use Rattle.aci_item.proofs.bits.BitLemmas.{among_filtered, filtered}
