-- What is looked for in order is what the cuts say.
use Rattle.std.proofs.Common.{map}
use Rattle.std.proofs.lemmas.Bool.Decides.{same_from_decides}
use Rattle.filter_match.proofs.matching.SubstringsLemmas.{is_substring-IsSubstring}
use Rattle.filter_match.proofs.matching.has_parts.Goals as goal

pub returns : goal.returns
returns c = record {
  exact =
      same_from_decides _ _ c.substring.ensures
      (is_substring-IsSubstring c.args.key.now c.args.first.now c.args.last.now (map (λ part. part.items) c.args.middle.now));
}
