-- The map has the key where the type is there.
use Rattle.std.proofs.Common.{sym, ◌∙◌}
use Rattle.dir_tree.proofs.attributes.ChangeLemmas.{has_kind-rows}
use Rattle.dir_tree.proofs.attributes.has_kind.Goals as goal

pub returns : goal.returns
returns c = record { exact = c.contains_key.ensures ∙ sym (has_kind-rows c.args.kind c.args.attributes.now.entries) }
