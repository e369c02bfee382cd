-- Which user classes a requester is in (X.501 18.4.2.5), and how specific they are (X.501 18.8.4): 0 is for name and
-- thisEntry, 1 for userGroup, 2 for subtree, and 3 for allUsers.
use Rattle.std.specs.Prelude.{ℕ, Bool, false, ◌&&◌, ◌||◌, List, [], ◌∷◌, ◌++◌, Option, Some, None, if◌then◌else◌}
use Rattle.std.specs.List.{list_any}
use Rattle.std.specs.Option.{option_map_or}
use Rattle.dir_tree.specs.dn_names.name.Names.{RdnSequence}
use Rattle.dir_tree.specs.dn_names.NameOrder.{is_same}
use Rattle.dir_tree.specs.dn_names.Printing.{name_key}
use Rattle.dir_tree.specs.Entry.{EntryInformation, values_of, has_key}
use Rattle.dir_tree.specs.tree.Trees.{named_in}
use Rattle.aci_item.specs.subtree_spec.Subtrees.{Subtree}
use Rattle.aci_item.specs.subtree_spec.membership.Membership.{holds_name}
use Rattle.aci_item.specs.item.Items.{UserClasses}
use Rattle.acdf_filters.specs.users.Choices.{is_filled}

-- the numbers of member and uniqueMember in the table of attribute types
abbrev pub member : ℕ
member = 14

abbrev pub unique_member : ℕ
unique_member = 21

-- the name is among the members of the group
abbrev pub has_member : RdnSequence → EntryInformation → Bool
has_member name group =
    has_key (name_key name) (values_of member group.attributes) || has_key (name_key name) (values_of unique_member group.attributes)

-- the name is a member of the group of this name; an absent group has no members, and a group that is a member gives none
unfoldable pub is_in_group : List EntryInformation → RdnSequence → RdnSequence → Bool
is_in_group entries name group = option_map_or (has_member name) (named_in group entries) false

-- the name is a member of one of the groups
abbrev pub is_in_groups : List EntryInformation → RdnSequence → List RdnSequence → Bool
is_in_groups entries name groups = list_any (is_in_group entries name) groups

-- one of the subtrees holds the name
abbrev pub is_held : RdnSequence → List Subtree → Bool
is_held name subtrees = list_any (λ subtree. holds_name subtree name) subtrees

-- a rank, where it is one
abbrev pub rank_where : ℕ → Bool → List ℕ
rank_where rank holds = if holds then rank ∷ [] else []

-- the ranks of the classes in which a requester of this name is, for an entry: an anonymous one is in allUsers alone
unfoldable pub ranks_of : List EntryInformation → EntryInformation → UserClasses → Option RdnSequence → List ℕ
ranks_of entries entry classes None = rank_where 3 classes.all
ranks_of entries entry classes (Some name) =
    rank_where 0 ((classes.this_entry && is_same name entry.name) || list_any (is_same name) classes.names)
    ++ rank_where 1 (is_in_groups entries name classes.groups)
    ++ rank_where 2 (is_held name classes.subtrees)
    ++ rank_where 3 classes.all

-- the ranks of the classes that are listed
unfoldable pub listed_ranks : UserClasses → List ℕ
listed_ranks classes =
    rank_where 0 (classes.this_entry || is_filled classes.names)
    ++ rank_where 1 (is_filled classes.groups)
    ++ rank_where 2 (is_filled classes.subtrees)
    ++ rank_where 3 classes.all
