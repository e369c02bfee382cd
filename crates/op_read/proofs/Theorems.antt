-- What crates above may cite of reads.
-- pages of twins are the same
pub use Rattle.op_read.proofs.paging.TwinLemmas.{page_replies-twins}
