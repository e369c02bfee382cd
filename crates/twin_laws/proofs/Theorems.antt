-- What crates above may cite of twins.
pub use Rattle.twin_laws.proofs.laws.TwinLaws.{search_replies-twins, compare_result-twins, view_of-twins, selected-twins, matched_name-twins, hidden-twins, replies_at-unseen, hidden-unseen, in_force-twins, named_in-twins, is_below_suffix-same}
