-- By the length.
use Rattle.std.proofs.Common.{not, sym, ap, ◌∙◌}
use Rattle.aci_item.specs.subtree_spec.Subtrees.{subtree_of}
use Rattle.acdf_filters.proofs.users.UserLemmas.{is_filled-map}
use Rattle.acdf_filters.proofs.users.has_subtree.Goals as goal

pub returns : goal.returns
returns c = record { exact = ap not c.is_empty.ensures ∙ sym (is_filled-map subtree_of c.args.subtrees.now) }
