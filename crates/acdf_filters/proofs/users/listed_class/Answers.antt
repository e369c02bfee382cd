-- The least rank is that of the first class that is listed.
use Rattle.std.proofs.Common.{◌||◌, map, sym}
use Rattle.aci_item.specs.subtree_spec.Subtrees.{subtree_of}
use Rattle.acdf_filters.specs.users.Choices.{is_filled}
use Rattle.acdf_filters.specs.users.Users.{listed_ranks}
use Rattle.acdf_filters.proofs.users.UserLemmas.{least-ranks}
use Rattle.acdf_filters.proofs.users.listed_class.Goals as goal

pub returns : goal.returns
unfolding listed_ranks
returns c = record {
  exact =
      let classes = c.args.classes.now in
      rw (c.first_rank.ensures.exact, c.has_users.ensures.exact, c.has_some.ensures.exact, c.has_subtree.ensures.exact, c.deref.ensures.value, c.deref-2.ensures.value)
      (sym (least-ranks (classes.this_entry || is_filled classes.names.items) (is_filled classes.groups.items)
      (is_filled (map subtree_of classes.subtrees.items)) classes.all));
}
