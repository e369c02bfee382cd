-- Which entries belong to a subtree (X.501 12.3, RFC 3672 section 2.1): those in its place whose classes meet its
-- refinement.
use Rattle.std.specs.Prelude.{Bool, true, false, not, ◌&&◌, ◌||◌, Option, Some, None}
use Rattle.dir_tree.specs.dn_names.name.Names.{RdnSequence}
use Rattle.dir_tree.specs.Entry.{EntryInformation}
use Rattle.dir_tree.specs.EntryClasses.{has_class}
use Rattle.subtree_spec.specs.Subtrees.{Choice, Item, And, Or, Not, Choices, Subtree}
use Rattle.subtree_spec.specs.Subtrees as refinement
use Rattle.subtree_spec.specs.membership.Membership.{holds_below}

-- an item is true of an entry that has the class, also as a superclass; of the empty sets, as X.511 7.8 has it for filters,
-- all of none are true, and one of none is not
abbrev mutual
  pub is_true_of : Choice → EntryInformation → Bool
  is_true_of (Item oid) entry = has_class oid entry
  is_true_of (And choices) entry = all_true_of choices entry
  is_true_of (Or choices) entry = some_true_of choices entry
  is_true_of (Not choice) entry = not (is_true_of choice entry)

  -- all of them are true
  pub all_true_of : Choices → EntryInformation → Bool
  all_true_of refinement.None entry = true
  all_true_of (refinement.Some choice choices) entry = is_true_of choice entry && all_true_of choices entry

  -- one of them is true
  pub some_true_of : Choices → EntryInformation → Bool
  some_true_of refinement.None entry = false
  some_true_of (refinement.Some choice choices) entry = is_true_of choice entry || some_true_of choices entry

-- a subtree without a refinement asks nothing of the classes
abbrev pub meets_filter : Option Choice → EntryInformation → Bool
meets_filter None entry = true
meets_filter (Some choice) entry = is_true_of choice entry

-- the subtree of the point of this name holds the entry
unfoldable pub holds : Subtree → RdnSequence → EntryInformation → Bool
holds subtree point entry = holds_below subtree point entry.name && meets_filter subtree.filter entry
