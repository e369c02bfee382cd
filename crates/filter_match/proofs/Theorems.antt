-- What crates above may cite.

-- the test of parts by cuts says that the key has the parts
pub use Rattle.filter_match.proofs.matching.SubstringsLemmas.{is_substring-IsSubstring}
-- what the answers of all members say together is what the and or the or is
pub use Rattle.filter_match.proofs.evaluating.JoinLemmas.{answer-all_of, answer-any_of, answer-negated}
