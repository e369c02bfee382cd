-- The decision, computed on small trees and short lists of tuples.
use Rattle.std.proofs.Common.{◌≡◌, ℕ, List, [], ◌∷◌, Bool, true, false, Some, None, refl}
use Rattle.std.specs.Prelude.{codes, length}
use Prim.Native.String.{String}
use Rattle.dir_tree.specs.schema_tables.Attributes.{attributes}
use Rattle.dir_tree.specs.dn_names.name.Names.{Keyed, TypeAndValue, RdnSequence}
use Rattle.dir_tree.specs.dn_names.NameOrder.{name_cmp, is_same}
use Rattle.dir_tree.specs.dn_names.Classes.{class_of}
use Rattle.dir_tree.specs.dn_names.Printing.{name_key, print_by, print_value}
use Rattle.dir_tree.specs.Entry.{EntryInformation}
use Rattle.aci_item.specs.declared.level.Level.TheVariants.{Anyone, Simple, Strong}
use Rattle.aci_item.specs.declared.permission.Permission.TheVariants.{Add, Read, Browse}
use Rattle.aci_item.specs.item.Items.{UserClasses, ProtectedItems}
use Rattle.aci_item.specs.AciTuples.{AciTuple}
use Rattle.acdf_filters.specs.Asking.{Entry, Kind, Value, Asked, asked_on}
use Rattle.acdf_filters.specs.users.Choices.{highest, lowest}
use Rattle.acdf_filters.specs.users.Users.{is_in_group, ranks_of, listed_ranks}
use Rattle.acdf_filters.specs.Covering.{covers, is_explicit, has_names}
use Rattle.acdf_filters.specs.Limits.{exceeds, is_barred}
use Rattle.acdf_filters.specs.Filters.{Placed, stays, rank, left_by_users, left_by_item, left_by_permission, left_by_precedence, left_by_class, left_by_explicit, decided}

-- a name of one RDN for each letter
abbrev rdn : String → List TypeAndValue
rdn name = record { kind = 1; value = record { octets = codes name; key = codes name } } ∷ []

abbrev ada : RdnSequence
ada = rdn "a" ∷ []

-- a value that is a name
abbrev named : RdnSequence → Keyed
named name = record { octets = name_key name; key = name_key name }

abbrev nobody : UserClasses
nobody = record { all = false; this_entry = false; names = []; groups = []; subtrees = [] }

abbrev everyone : UserClasses
everyone = record nobody { all = true }

abbrev nothing : ProtectedItems
nothing = record {
  entry = false;
  all_kinds = false;
  kinds = [];
  all_values = [];
  all_kinds_and_values = false;
  values = [];
  self_values = [];
  max_counts = [];
  restricted = [];
}

-- a tuple for reading, of these classes, items and precedence
abbrev tuple : UserClasses → ProtectedItems → Bool → ℕ → AciTuple
tuple classes items grants precedence = record {
  classes = classes;
  level = Anyone;
  items = items;
  permissions = Read ∷ [];
  grants = grants;
  precedence = precedence;
}

-- with the ranks of its classes in which the requester is
abbrev at : AciTuple → List ℕ → Placed
at tuple ranks = record { listed = record { source = []; tag = []; tuple = tuple }; ranks = ranks }

abbrev whole : ProtectedItems
whole = record nothing { entry = true }

-- Ada asks to read the entry as a whole
abbrev ada_reads : Asked
ada_reads = asked_on (record { name = Some ada; level = Simple }) (record { name = []; attributes = [] }) Entry Read

-- a group of which Ada is a member, and one of which that group is a member
abbrev group : RdnSequence → RdnSequence → EntryInformation
group name member = record { name = name; attributes = record { kind = 14; values = named member ∷ [] } ∷ [] }

abbrev groups : List EntryInformation
groups = group (rdn "g" ∷ []) ada ∷ group (rdn "h" ∷ []) (rdn "g" ∷ []) ∷ []

a_member_is_in_the_group : is_in_group groups ada (rdn "g" ∷ []) ≡ true
unfolding is_in_group name_key name_cmp is_same print_by print_value class_of attributes
a_member_is_in_the_group = refl

-- members of members are not
nested_groups_are_not_followed : is_in_group groups ada (rdn "h" ∷ []) ≡ false
unfolding is_in_group name_key name_cmp is_same print_by print_value class_of attributes
nested_groups_are_not_followed = refl

an_absent_group_has_no_members : is_in_group groups ada (rdn "i" ∷ []) ≡ false
unfolding is_in_group name_key name_cmp is_same print_by print_value class_of attributes
an_absent_group_has_no_members = refl

-- classes and ranks
abbrev of_groups_and_all : UserClasses
of_groups_and_all = record everyone { groups = (rdn "g" ∷ []) ∷ [] }

a_member_has_the_ranks_of_group_and_all : ranks_of groups (group ada []) of_groups_and_all (Some ada) ≡ 1 ∷ 3 ∷ []
unfolding ranks_of is_in_group name_key name_cmp is_same print_by print_value class_of attributes
a_member_has_the_ranks_of_group_and_all = refl

an_anonymous_requester_is_in_all_users_alone : ranks_of groups (group ada []) of_groups_and_all None ≡ 3 ∷ []
unfolding ranks_of
an_anonymous_requester_is_in_all_users_alone = refl

this_entry_is_that_of_the_requester : ranks_of groups (group ada []) (record nobody { this_entry = true }) (Some ada) ≡ 0 ∷ []
unfolding ranks_of is_in_group name_key name_cmp is_same print_by print_value class_of attributes
this_entry_is_that_of_the_requester = refl

-- filter 1: levels
abbrev strong_grant : AciTuple
strong_grant = record (tuple everyone whole true 10) { level = Strong }

abbrev strong_denial : AciTuple
strong_denial = record (tuple nobody whole false 10) { level = Strong }

a_grant_above_the_level_goes : stays Simple strong_grant (3 ∷ []) ≡ false
a_grant_above_the_level_goes = refl

a_denial_above_the_level_stays : stays Simple strong_denial [] ≡ true
a_denial_above_the_level_stays = refl

a_denial_at_the_level_goes : stays Strong strong_denial [] ≡ false
a_denial_at_the_level_goes = refl

-- a denial that stays by its level alone has the rank of what it lists, or else that of allUsers
its_rank_is_that_of_allUsers : rank strong_denial [] ≡ 3
unfolding listed_ranks
its_rank_is_that_of_allUsers = refl

its_rank_is_that_of_what_it_lists : rank (record strong_denial { classes = of_groups_and_all }) [] ≡ 1
unfolding listed_ranks
its_rank_is_that_of_what_it_lists = refl

-- no tuple is left
abbrev no_tuples : List Placed
no_tuples = []

nothing_is_granted_of_no_tuples : decided ada_reads no_tuples ≡ false
unfolding decided
nothing_is_granted_of_no_tuples = refl

a_grant_alone_grants : decided ada_reads (at (tuple everyone whole true 10) (3 ∷ []) ∷ []) ≡ true
unfolding decided covers is_explicit
a_grant_alone_grants = refl

-- filter 4 before filter 5: a denial of all of a higher precedence is above a grant by name
abbrev both : List Placed
both = at (tuple everyone whole false 20) (3 ∷ []) ∷ at (tuple nobody whole true 10) (0 ∷ []) ∷ []

precedence_comes_before_classes : decided ada_reads both ≡ false
unfolding decided covers is_explicit
precedence_comes_before_classes = refl

-- filter 5: of one precedence, the grant by name is above the denial of all
abbrev alike : List Placed
alike = at (tuple everyone whole false 10) (3 ∷ []) ∷ at (tuple nobody whole true 10) (0 ∷ 3 ∷ []) ∷ []

the_specific_class_decides : decided ada_reads alike ≡ true
unfolding decided covers is_explicit
the_specific_class_decides = refl

-- of one class the denial wins
a_denial_wins : decided ada_reads (at (tuple everyone whole true 10) (3 ∷ []) ∷ at (tuple everyone whole false 10) (3 ∷ []) ∷ []) ≡ false
unfolding decided covers is_explicit
a_denial_wins = refl

-- of keys that are all above 3 the least and the greatest choose too
abbrev itself : ℕ → ℕ
itself key = key

the_lowest_keys_stay : lowest itself (7 ∷ 5 ∷ 6 ∷ 5 ∷ []) ≡ 5 ∷ 5 ∷ []
the_lowest_keys_stay = refl

the_highest_keys_stay : highest itself (5 ∷ 7 ∷ 6 ∷ 7 ∷ []) ≡ 7 ∷ 7 ∷ []
the_highest_keys_stay = refl

-- filter 6: a type that is named is above one that all user attributes name
abbrev ada_reads_type : Asked
ada_reads_type = record ada_reads { item = Kind 1 }

abbrev types : List Placed
types =
    at (tuple everyone (record nothing { all_kinds = true }) false 10) (3 ∷ [])
    ∷ at (tuple everyone (record nothing { kinds = 1 ∷ [] }) true 10) (3 ∷ []) ∷ []

the_explicit_type_decides : decided ada_reads_type types ≡ true
unfolding decided covers is_explicit attributes
the_explicit_type_decides = refl

-- allUserAttributeTypes covers no operational attribute
operational_types_are_apart : covers None (Kind 33) (record nothing { all_kinds = true; all_kinds_and_values = true }) ≡ false
unfolding covers attributes
operational_types_are_apart = refl

-- selfValue covers the requester's own name among members
self_values_are_covered : covers (Some ada) (Value 14 (named ada)) (record nothing { self_values = 14 ∷ [] }) ≡ true
unfolding covers has_names attributes name_key print_by print_value class_of
self_values_are_covered = refl

other_values_are_not : covers (Some ada) (Value 14 (named (rdn "b" ∷ []))) (record nothing { self_values = 14 ∷ [] }) ≡ false
unfolding covers has_names attributes name_key print_by print_value class_of
other_values_are_not = refl

-- how many each filter leaves
abbrev counts : Asked → List Placed → List ℕ
counts asked xs =
    length xs ∷ length (left_by_users asked xs) ∷ length (left_by_item asked xs) ∷ length (left_by_permission asked xs) ∷ length (left_by_precedence asked xs)
    ∷ length (left_by_class asked xs) ∷ length (left_by_explicit asked xs) ∷ []

abbrev many : List Placed
many =
    at strong_grant (3 ∷ []) ∷ at (tuple everyone nothing true 30) (3 ∷ [])
    ∷ at (record (tuple everyone whole true 30) { permissions = Browse ∷ [] }) (3 ∷ []) ∷ at (tuple everyone whole true 10) (3 ∷ [])
    ∷ at (tuple everyone whole false 20) (3 ∷ []) ∷ at (tuple nobody whole true 20) (0 ∷ []) ∷ []

each_filter_takes_one : counts ada_reads many ≡ 6 ∷ 5 ∷ 4 ∷ 3 ∷ 2 ∷ 1 ∷ 1 ∷ []
unfolding covers is_explicit
each_filter_takes_one = refl

-- limits: a group of one member, and one of two
abbrev group_of_one : EntryInformation
group_of_one = group (rdn "g" ∷ []) ada

abbrev bob : Keyed
bob = named (rdn "b" ∷ [])

abbrev cleo : Keyed
cleo = named (rdn "c" ∷ [])

abbrev group_of_two : EntryInformation
group_of_two = record { name = rdn "g" ∷ []; attributes = record { kind = 14; values = named ada ∷ bob ∷ [] } ∷ [] }

-- Ada adds a member
abbrev ada_adds : EntryInformation → Keyed → Asked
ada_adds entry value = asked_on (record { name = Some ada; level = Simple }) entry (Value 14 value) Add

-- of at most two, or of a type whose values are all among those of uniqueMember
abbrev at_most_two : ProtectedItems
at_most_two = record nothing { all_values = 14 ∷ []; max_counts = record { kind = 14; max_count = 2 } ∷ [] }

abbrev among_others : ProtectedItems
among_others = record nothing { all_values = 14 ∷ []; restricted = record { kind = 14; values_in = 21 } ∷ [] }

abbrev adding : ProtectedItems → Bool → ℕ → AciTuple
adding items grants precedence = record (tuple everyone items grants precedence) { permissions = Add ∷ Read ∷ [] }

a_second_member_is_within_the_limit : is_barred (ada_adds group_of_one bob) (adding at_most_two true 10) ≡ false
unfolding exceeds name_key print_by print_value class_of attributes
a_second_member_is_within_the_limit = refl

a_third_is_not : is_barred (ada_adds group_of_two cleo) (adding at_most_two true 10) ≡ true
unfolding exceeds name_key print_by print_value class_of attributes
a_third_is_not = refl

-- a value that is there is not counted again
a_member_that_is_there_counts_once : is_barred (ada_adds group_of_two bob) (adding at_most_two true 10) ≡ false
unfolding exceeds name_key print_by print_value class_of attributes
a_member_that_is_there_counts_once = refl

-- what the whole change leaves is what counts
others_that_are_added_count : is_barred (record (ada_adds group_of_one cleo) { after = record group_of_two { attributes = record { kind = 14; values = named ada ∷ bob ∷ cleo ∷ [] } ∷ [] } }) (adding at_most_two true 10) ≡ true
unfolding exceeds name_key print_by print_value class_of attributes
others_that_are_added_count = refl

-- denials have no limits, nor has another permission, nor the type
a_denial_stays_as_it_is : is_barred (ada_adds group_of_two cleo) (adding at_most_two false 10) ≡ false
a_denial_stays_as_it_is = refl

reading_has_no_limit : is_barred (record (ada_adds group_of_two cleo) { permission = Read }) (adding at_most_two true 10) ≡ false
reading_has_no_limit = refl

the_type_has_no_limit : is_barred (record (ada_adds group_of_two cleo) { item = Kind 14 }) (adding at_most_two true 10) ≡ false
the_type_has_no_limit = refl

-- a value that is none of the other type's
a_value_of_no_other_is_outside : is_barred (ada_adds group_of_one bob) (adding among_others true 10) ≡ true
unfolding exceeds name_key print_by print_value class_of attributes
a_value_of_no_other_is_outside = refl

a_value_of_another_is_not : is_barred (record (ada_adds group_of_one bob) { after = record group_of_one { attributes = record { kind = 21; values = bob ∷ [] } ∷ [] } }) (adding among_others true 10) ≡ false
unfolding exceeds name_key print_by print_value class_of attributes
a_value_of_another_is_not = refl

-- a grant that does not extend to the value does not count by its precedence: the one below decides
abbrev limited_above : List Placed
limited_above = at (adding at_most_two true 20) (3 ∷ []) ∷ at (adding (record nothing { all_values = 14 ∷ [] }) true 10) (3 ∷ []) ∷ []

the_unlimited_grant_decides : decided (ada_adds group_of_two cleo) limited_above ≡ true
unfolding decided covers is_explicit exceeds name_key print_by print_value class_of attributes
the_unlimited_grant_decides = refl

it_goes_at_the_third_filter : counts (ada_adds group_of_two cleo) limited_above ≡ 2 ∷ 2 ∷ 2 ∷ 1 ∷ 1 ∷ 1 ∷ 1 ∷ []
unfolding covers is_explicit exceeds name_key print_by print_value class_of attributes
it_goes_at_the_third_filter = refl
