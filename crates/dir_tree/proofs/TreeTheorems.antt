-- What crates above may cite of trees.
pub use Rattle.dir_tree.proofs.tree.TreeLaws.{superior_of-suffix, superior_of-others, scoped-One, scoped-Sub, own_entries, child_is, entry_of-found, named-found, named-none, entries_at-kept, scoped-One-entries, scoped-Sub-entries, entries_of-without, put_row-taken, without-put_row}
pub use Rattle.dir_tree.proofs.tree.NumberedLemmas.{entries_of-put_row, found_row, found_later, all_known_entry, all_known, keep_all}
pub use Rattle.dir_tree.proofs.tree.OrderLemmas.{taken_out-put_in, put_in-taken_out, all_named, all_put, IsPut, is_put, taken_at}
pub use Rattle.dir_tree.proofs.tree.StayLaws.{named_by, all_under_suffix, tree-put_in, tree-taken_out, tree-same_name, tree-moved}
pub use Rattle.dir_tree.proofs.tree.KeptLemmas.{has_name-find, has_name-found}
pub use Rattle.dir_tree.proofs.tree.NameLemmas.{length-same, same-superior, same_like, same_itself, same_back, like_before, Less-from_before, before_not_same, superior_before}
pub use Rattle.dir_tree.proofs.tree.RootLemmas.{any_put, has_name_like}
pub use Rattle.dir_tree.proofs.replace.ReplaceLemmas.{IsAllowedThere, allowed_there, place_filled, place_under}
pub use Rattle.dir_tree.proofs.replace.ReviseLemmas.{called_same}
pub use Rattle.dir_tree.proofs.classes.ClassLemmas.{list_any-above}
pub use Rattle.dir_tree.proofs.tree.FrontLemmas.{same_over, begins, begins_both, prefix_same, prefix_like, child_same, at_base, length-front, length-superior, filled}
pub use Rattle.dir_tree.proofs.tree.NamedLemmas.{found_same, found_by_own_name, none_named, not_same, not_same_back, later-other, put_in-some, left_out, has_superior}
pub use Rattle.dir_tree.proofs.tree.EntryOfLemmas.{none_here, further, entry_of-put, entry_of-gone, entry_of-other, without-absent, found_both, other_number, front_of_superior}
pub use Rattle.dir_tree.proofs.subentries.AccessLemmas.{filter-put_other, unlisted-without}
pub use Rattle.dir_tree.proofs.laws.FreeLemmas.{apart_from_leaf, superiors_apart, new_removable, removed_alone, number_left, other_name, outside}
pub use Rattle.dir_tree.proofs.laws.BesideLemmas.{one_if, rest_kept, count_beside, length_beside, any_beside, none_beside, count-numbers}
