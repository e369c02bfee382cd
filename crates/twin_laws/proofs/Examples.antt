-- Twins, computed on small trees, and what is answered over small views.
use Rattle.std.proofs.Common.{◌≡◌, List, [], ◌∷◌, Bool, true, false, Some, None, Option, refl}
use Rattle.std.specs.Prelude.{codes}
use Prim.Native.String.{String}
use Rattle.dir_tree.specs.dn_names.name.Names.{TypeAndValue, RdnSequence}
use Rattle.dir_tree.specs.dn_names.NameOrder.{name_cmp, is_same, is_prefix_of}
use Rattle.dir_tree.specs.Entry.{Attribute, EntryInformation}
use Rattle.dir_tree.specs.EntryClasses.{has_class}
use Rattle.dir_tree.specs.Points.{is_point, is_specific_point, is_inner_point, is_subentry}
use Rattle.acdf_filters.specs.admin_scope.Areas.{areas, has_within}
use Rattle.acdf_filters.specs.admin_scope.InForce.{in_force}
use Rattle.acdf_filters.specs.aci_item.declared.level.Level.TheVariants.{Anyone}
use Rattle.acdf_filters.specs.aci_item.declared.permission.Permission.TheVariants.{Browse}
use Rattle.acdf_filters.specs.aci_item.Permission.{is_same as is_same_permission}
use Rattle.acdf_filters.specs.aci_item.item.Items.{UserClasses, ProtectedItems, ItemFirst, UserFirst}
use Rattle.acdf_filters.specs.declared.asking.Requester.{Requester}
use Rattle.acdf_filters.specs.Tuples.{items_in, inherited, tuples_of}
use Rattle.acdf_filters.specs.Filters.{decided}
use Rattle.acdf_filters.specs.Granted.{granted}
use Rattle.ldap_msg.specs.ldap_filter.filter.Filters.Filter.{Present}
use Rattle.ldap_msg.specs.declared.operations.ResultCode.TheVariants as code
use Rattle.ldap_msg.specs.declared.kinds.SearchScope.TheVariants.{WholeSubtree}
use Rattle.ldap_msg.specs.declared.kinds.SearchRequest.{SearchRequest}
use Rattle.ldap_msg.specs.declared.kinds.Reply.{Reply}
use Rattle.ldap_msg.specs.declared.kinds.Reply.TheVariants as reply
use Rattle.ldap_msg.specs.declared.operations.Ending.TheVariants as ending
use Rattle.read_model.specs.Views.{Row, view_of, matched_name, hidden, result_of, result_with}
use Rattle.read_model.specs.Selecting.{is_selected, selected}
use Rattle.read_model.specs.SearchReplies.{found_replies, replies_at, search_replies}
use Rattle.twin_laws.specs.Groups.{groups_of}
use Rattle.twin_laws.specs.Twins.{is_below_suffix, shows_within, IsUnseen, AreTwins}
use Rattle.twin_laws.proofs.Theorems.{search_replies-twins}

-- a name of one RDN for each letter
abbrev rdn : String → List TypeAndValue
rdn name = record { kind = 1; value = record { octets = codes name; key = codes name } } ∷ []

abbrev suffix : RdnSequence
suffix = rdn "t" ∷ []

abbrev secret : RdnSequence
secret = rdn "t" ∷ rdn "a" ∷ []

abbrev entry : RdnSequence → List Attribute → EntryInformation
entry name attributes = record { name = name; attributes = attributes }

abbrev anonymous : Requester
anonymous = record { name = None; level = Anyone }

-- a tree with an entry below the suffix, and one without
abbrev with_secret : List EntryInformation
with_secret = entry suffix [] ∷ entry secret [] ∷ []

abbrev without_secret : List EntryInformation
without_secret = entry suffix [] ∷ []

unseen_there : IsUnseen anonymous secret with_secret
unfolding name_cmp is_same is_prefix_of has_class is_subentry is_point is_specific_point is_inner_point areas in_force
    items_in inherited tuples_of decided granted
unseen_there = record { below = refl; subentries = refl; points = refl; shown = refl; groups = refl }

unseen_where_absent : IsUnseen anonymous secret without_secret
unfolding name_cmp is_same is_prefix_of
unseen_where_absent = record { below = refl; subentries = refl; points = refl; shown = refl; groups = refl }

-- they are twins
are_twins : AreTwins anonymous with_secret without_secret secret
unfolding name_cmp is_same is_prefix_of
are_twins = record { same = refl; first = unseen_there; second = unseen_where_absent }

-- so each search is answered alike
are_searched_alike : (request : SearchRequest) (subentries : Option Bool)
    → search_replies (view_of with_secret anonymous) request subentries
    ≡ search_replies (view_of without_secret anonymous) request subentries
are_searched_alike request subentries =
    search_replies-twins anonymous with_secret without_secret secret are_twins request subentries

-- the groups of an item, also of one that has no permissions
abbrev of_group : UserClasses
of_group = record { all = false; this_entry = false; names = []; groups = secret ∷ []; subtrees = [] }

abbrev whole : ProtectedItems
whole = record {
  entry = true;
  all_kinds = false;
  kinds = [];
  all_values = [];
  all_kinds_and_values = false;
  values = [];
  self_values = [];
  max_counts = [];
  restricted = [];
}

users_first : groups_of (UserFirst of_group []) ≡ secret ∷ []
users_first = refl

items_first : groups_of (ItemFirst whole (record { precedence = None; classes = of_group; bits = [] } ∷ [])) ≡ secret ∷ []
items_first = refl

-- the suffix is not below itself, nor is any name below that of an empty tree
the_suffix_is_seen : is_below_suffix suffix with_secret ≡ false
unfolding name_cmp is_same is_prefix_of
the_suffix_is_seen = refl

there_is_no_suffix : is_below_suffix secret [] ≡ false
there_is_no_suffix = refl

-- an entry with a role is no ordinary one
abbrev role : Attribute
role = record { kind = 29; values = record { octets = codes "r"; key = codes "r" } ∷ [] }

abbrev with_role : List EntryInformation
with_role = entry suffix [] ∷ entry secret (role ∷ []) ∷ []

a_role_is_a_point : has_within is_point secret with_role ≡ true
unfolding name_cmp is_same is_prefix_of is_point
a_role_is_a_point = refl

-- an entry on which all is allowed, one on which nothing is, and one that may be browsed alone
abbrev allowed : RdnSequence → Row
allowed name = record { entry = entry name []; allows = λ item permission. true }

abbrev closed : RdnSequence → Row
closed name = record { entry = entry name []; allows = λ item permission. false }

abbrev browsed : RdnSequence → Row
browsed name = record { entry = entry name []; allows = λ item permission. is_same_permission permission Browse }

nothing_is_shown : shows_within secret (allowed suffix ∷ closed secret ∷ []) ≡ false
unfolding name_cmp is_same is_prefix_of
nothing_is_shown = refl

one_permission_shows : shows_within secret (allowed suffix ∷ browsed secret ∷ []) ≡ true
unfolding name_cmp is_same is_prefix_of
one_permission_shows = refl

-- a search of a hidden entry is answered as one of no entry, with the name above that may be known of
abbrev asked : SearchRequest
asked = record { base = []; scope = WholeSubtree; size = 0; kinds_only = false; filter = Present (codes "objectClass"); selection = [] }

abbrev refusal : List Reply
refusal = reply.Ended ending.Done (result_with code.NoSuchObject suffix) ∷ []

a_hidden_base : replies_at (allowed suffix ∷ closed secret ∷ []) asked None secret ≡ refusal
unfolding name_cmp is_same is_prefix_of matched_name hidden is_selected selected found_replies replies_at has_class is_subentry
a_hidden_base = refl

an_absent_base : replies_at (allowed suffix ∷ []) asked None secret ≡ refusal
unfolding name_cmp is_same is_prefix_of matched_name hidden is_selected selected found_replies replies_at
an_absent_base = refl

-- a base that may be known of is told from an absent one: twins show none
a_shown_base : replies_at (allowed suffix ∷ allowed secret ∷ []) asked (Some true) secret
    ≡ reply.Ended ending.Done (result_of code.Success) ∷ []
unfolding name_cmp is_same is_prefix_of matched_name hidden is_selected selected found_replies replies_at has_class is_subentry
a_shown_base = refl
