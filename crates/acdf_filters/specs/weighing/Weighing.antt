-- A tuple weighed for a question: the keys that the last three filters ask, and the first three filters as one test.
use Rattle.std.specs.Prelude.{◌≡◌, ℕ, Bool, true, false, not, ◌&&◌, ◌||◌, List, [], ◌∷◌, string_bytes, find, map, Option, Some, None, if◌then◌else◌}
use Rattle.std.specs.List.{AllByRecursion}
use Rattle.std.specs.Option.{option_map, option_map_or}
use Rattle.dir_tree.specs.dn_names.name.Names.{Keyed, RdnSequence}
use Rattle.dir_tree.specs.dn_names.NameOrder.{is_same}
use Rattle.dir_tree.specs.Entry.{EntryInformation}
use Rattle.dir_tree.specs.attributes.Changes.{with_value}
use Rattle.dir_tree.specs.tree.Numbered.{entries_of}
use Rattle.aci_item.specs.AciTuples.{AciTuple}
use Rattle.acdf_filters.specs.Asking.{Asked, protected_of, with_item}
use Rattle.acdf_filters.specs.users.Choices.{least, is_filled}
use Rattle.acdf_filters.specs.users.Users.{is_in_group, ranks_of, listed_ranks}
use Rattle.acdf_filters.specs.Covering.{covers, is_explicit}
use Rattle.acdf_filters.specs.Limits.{is_barred}
use Rattle.acdf_filters.specs.Filters.{Placed, asks_above, stays, rank, has_permission, permits}
use Rattle.acdf_filters.specs.weighing.LastFilters.{Keys}
use Rattle.acdf_filters.specs.Standing.{with_one}
use Rattle.acdf_filters.specs.declared.question.Membership.{Membership}
use Rattle.acdf_filters.specs.declared.question.Question.{Question}
use Rattle.aci_item.specs.item.Views.{tuple_of}
use Rattle.acdf_filters.specs.Tuples as tuples
use Rattle.acdf_filters.specs.declared.weighing.TaggedTuples as code
use Rattle.acdf_filters.specs.declared.standing.Standing.{Standing}

-- the tuple passes the first three filters
abbrev pub passes : Asked → AciTuple → List ℕ → Bool
passes asked tuple ranks =
    stays asked.who.level tuple ranks && covers asked.who.name asked.item tuple.items && permits asked tuple

-- the state of the tuple alone, whose class has this rank
abbrev pub alone_at : Asked → AciTuple → ℕ → Standing
alone_at asked tuple rank = record {
  filled = true;
  precedence = tuple.precedence;
  rank = rank;
  explicit = is_explicit asked.who.name asked.item tuple.items;
  grants = tuple.grants;
}

-- the state of the tuple alone
abbrev pub alone : Asked → AciTuple → List ℕ → Standing
alone asked tuple ranks = alone_at asked tuple (rank tuple ranks)

-- the state with the tuple weighed
unfoldable pub weighed : Asked → Standing → AciTuple → List ℕ → Standing
weighed asked seen tuple ranks = if passes asked tuple ranks then with_one (alone asked tuple ranks) seen else seen

-- what the last three filters ask
abbrev pub keys_of : Asked → Keys Placed
keys_of asked = record {
  precedence = λ x. x.listed.tuple.precedence;
  rank = λ x. rank x.listed.tuple x.ranks;
  explicit = λ x. is_explicit asked.who.name asked.item x.listed.tuple.items;
  grants = λ x. x.listed.tuple.grants;
}

-- a requester of the name is a member of the group
abbrev pub is_member : List EntryInformation → Option RdnSequence → RdnSequence → Bool
is_member entries None group = false
is_member entries (Some name) group = is_in_group entries name group

-- each membership is what the entries say
abbrev pub AreMemberships : List EntryInformation → Option RdnSequence → List Membership → Type 0
AreMemberships entries name known = AllByRecursion (λ membership. membership.member ≡ is_member entries name membership.group) known

-- what the memberships say of the group, by the first that does
abbrev pub known_member : List Membership → RdnSequence → Option Bool
known_member known group = option_map (λ membership. membership.member) (find (λ membership. is_same membership.group group) known)

-- the least of ranks, if there are any
abbrev pub least_class : List ℕ → Option ℕ
least_class ranks = if is_filled ranks then Some (least ranks) else None

-- that of allUsers
abbrev pub class_of_all : Bool → Option ℕ
class_of_all all = if all then Some 3 else None

-- the rank of the first class that is listed
abbrev pub first_rank : Bool → Bool → Bool → ℕ
first_rank users groups subtrees = if users then 0 else if groups then 1 else if subtrees then 2 else 3

-- the entry that a change would leave: the one that a program gives, or else the entry with the item
abbrev pub after_of : Question → EntryInformation
after_of question = option_map_or (λ after. after.now) question.after (with_item (protected_of question.item) question.entry.now)

-- the same where a value of the type is added
abbrev pub left_with : Question → ℕ → Keyed → EntryInformation
left_with question kind value = option_map_or (λ after. after.now) question.after (with_value kind value question.entry.now)

-- what a program asks
abbrev pub asked_of : Question → Asked
asked_of question = record {
  who = question.who.now;
  item = protected_of question.item;
  permission = question.permission;
  after = after_of question;
}

-- the memberships that go with a question are those of its tree
abbrev pub KnowsGroups : Question → Type 0
KnowsGroups question = AreMemberships (entries_of question.tree.now) question.who.now.name question.known.now

-- the ranks of classes, for what a program asks
abbrev pub asked_ranks : Question → AciTuple → List ℕ
asked_ranks question tuple = ranks_of (entries_of question.tree.now) question.entry.now tuple.classes question.who.now.name

-- the state with a tuple weighed for what a program asks
abbrev pub weighed_for : Question → Standing → AciTuple → Standing
weighed_for question seen tuple = weighed (asked_of question) seen tuple (asked_ranks question tuple)

-- the state with a tuple weighed that covers the item, has the permission and extends to what is added
abbrev pub with_class_of : Asked → Standing → AciTuple → List ℕ → Standing
with_class_of asked seen tuple ranks = if stays asked.who.level tuple ranks then with_one (alone asked tuple ranks) seen else seen

-- the same of one that covers the item and has the permission
abbrev pub with_limits_of : Asked → Standing → AciTuple → List ℕ → Standing
with_limits_of asked seen tuple ranks = if is_barred asked tuple then seen else with_class_of asked seen tuple ranks

-- the same of one that has the permission
abbrev pub with_item_of : Asked → Standing → AciTuple → List ℕ → Standing
with_item_of asked seen tuple ranks = if covers asked.who.name asked.item tuple.items then with_limits_of asked seen tuple ranks else seen

-- the same of any
abbrev pub with_permission_of : Asked → Standing → AciTuple → List ℕ → Standing
with_permission_of asked seen tuple ranks = if has_permission asked.permission tuple then with_item_of asked seen tuple ranks else seen

-- the state with a tuple that passes the second and third filter, by the most specific class in which the requester is, if there is one
abbrev pub by_class : Asked → Standing → AciTuple → Option ℕ → Standing
by_class asked seen tuple (Some rank) =
    if tuple.grants && asks_above asked.who.level tuple then seen else with_one (alone_at asked tuple rank) seen
by_class asked seen tuple None =
    if tuple.grants || not (asks_above asked.who.level tuple) then seen
    else with_one (alone_at asked tuple (least (listed_ranks tuple.classes))) seen

-- the tuples of an item, as the program holds them
abbrev pub tagged_of : code.TaggedTuples → tuples.TaggedTuples
tagged_of item = record { tag = string_bytes item.tag; tuples = map tuple_of item.tuples.items }

-- access is granted in the state
abbrev pub is_granted : Standing → Bool
is_granted seen = seen.filled && seen.grants

-- the item, if there is one
abbrev pub listed_option : Option tuples.TaggedTuples → List tuples.TaggedTuples
listed_option None = []
listed_option (Some item) = item ∷ []
