-- What crates above may cite of values and their texts.
pub use Rattle.gser_tree.proofs.looking.TextLemmas.{tree_of-IsTextOf, IsTextOf-tree_of}
-- what is written
pub use Rattle.gser_tree.proofs.writing.PutsLemmas.{text_of-append, put_both, PutsMembers-none, PutsMembers-one, PutsMembers-component, put_choice, PutsMembers-append, PutsMembers-braces}
-- what is printed is read
pub use Rattle.gser_tree.proofs.writing.PrintsLemmas.{Written, IsWritten, AreWritten, word_is_written, string_is_written, choice_is_written, component_is_written, written_weaker, none_are_written, more_are_written, braces_are_written, written_within, IsTextOf-written}
pub use Rattle.gser_tree.proofs.reading.ReadsLemmas.{IsRead, Prints, AreGathered, none_gathered, more_gathered, set_is_written, Skips, skips_end, IsApart, OptionalRead, PrintsOptional, optional_is_written, RequiredRead, required_is_written, FlagRead, flagged, flag_is_written}
-- what is read is good
pub use Rattle.gser_tree.proofs.reading.OnlyLemmas.{Gives, Only, gives_value, gives_nothing, gives_weaker, gives_both, gives_choice, gives_expected, gives_part, gives_optional, gives_required, gives_end, gives_gathered}
pub use Rattle.gser_tree.proofs.looking.LookingLemmas.{listed_gathered}
-- numbers
pub use Rattle.gser_tree.proofs.writing.DecimalLemmas.{is_letter-digit, is_letter-alphanumeric, is_letter-hyphen, is_letter-dot, is_number-decimal, is_word-decimal, number_prints, number_is_at_most}
-- how deep what is read is
pub use Rattle.gser_tree.proofs.reading.NestedLemmas.{Shallow, both_read, was_there, word_nest, string_nest, chosen_nest, members_nest, optional_nest, gather_nest, left_nothing, number_is_shallow}
