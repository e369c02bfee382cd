-- What crates above may cite of tests, orderings and lists, beside std's lemmas.
pub use Rattle.base_laws.proofs.laws.TestLemmas.{and_middle, choose, other_choice, number_apart, suc_not_zero, text_apart, is_equal, both_equal}
pub use Rattle.base_laws.proofs.laws.EachLemmas.{all_true, all_map, all_append, all_push, all_filter, none_passes, list_any-none, passes_at}
pub use Rattle.base_laws.proofs.laws.FilterLemmas.{filter-filter, filter-filter_kept, filter-none, reverse-filter, find-filter, find-passes}
pub use Rattle.base_laws.proofs.laws.MapLemmas.{map-agree, filter-map, find-map, list_any-map, next-item}
