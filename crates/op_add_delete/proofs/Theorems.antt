-- What crates above may cite of what is added and deleted.
pub use Rattle.op_add_delete.proofs.reading.ReadingLemmas.{distinct-repeats, values-filled, put_before, before-none, before-more}
pub use Rattle.op_add_delete.proofs.adding.UpdateLemmas.{changed-refused, changed-like}
pub use Rattle.op_add_delete.proofs.reading.TableLemmas.{unless-good, unless-made, not_broken}
