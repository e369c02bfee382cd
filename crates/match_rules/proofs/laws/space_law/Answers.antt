-- Both texts are values, and what is left of them is the same.
use Rattle.std.proofs.Common.{Some, sym, ap, ◌∙◌}
use Rattle.match_rules.proofs.laws.AsciiLemmas.{prepared_text-ascii}
use Rattle.match_rules.proofs.keys.KeysLemmas.{key_of-value}
use Rattle.match_rules.proofs.laws.LawsLemmas.{prepared-same}
use Rattle.match_rules.proofs.laws.SpaceLawLemmas.{cut_and_joined-more}
use Rattle.match_rules.proofs.laws.space_law.Goals as goal

pub returns : goal.returns
returns c =
    λ rule text more other text_ascii more_ascii text_is more_is space.
    let same = prepared_text-ascii text text_ascii ∙ cut_and_joined-more text more space ∙ sym (prepared_text-ascii more more_ascii) in
    key_of-value rule text text_is ∙ ap Some (prepared-same rule text more other same) ∙ sym (key_of-value rule more more_is)
