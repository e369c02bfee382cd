-- Both are the heading that is computed.
use Rattle.std.proofs.Common.{sym, ◌∙◌}
use Rattle.ber_elements.proofs.Theorems.{heading_complete}
use Rattle.ber_elements.proofs.laws.one_heading.Goals as goal

pub returns : goal.returns
returns c bytes heading other h h' = heading_complete bytes heading h ∙ sym (heading_complete bytes other h')
