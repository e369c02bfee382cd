-- Cuts and parts say the same.
use Rattle.filter_match.proofs.matching.SubstringsLemmas.{is_substring-IsSubstring}
use Rattle.filter_match.proofs.laws.substrings_are_cuts.Goals as goal

pub returns : goal.returns
returns c = record { exact = is_substring-IsSubstring }
