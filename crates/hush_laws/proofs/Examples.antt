-- Hushes and audits, computed over small trees and places.
use Rattle.std.proofs.Common.{◌≡◌, ℕ, List, [], ◌∷◌, Bool, true, false, Some, None, refl}
use Rattle.std.specs.Prelude.{codes}
use Rattle.std.specs.Fmt.{digits}
use Prim.Native.String.{String}
use Rattle.dir_tree.specs.dn_names.name.Names.{TypeAndValue, RdnSequence}
use Rattle.dir_tree.specs.dn_names.NameOrder.{name_cmp, is_same, is_prefix_of}
use Rattle.dir_tree.specs.dn_names.parsing.NameText.{read_name}
use Rattle.dir_tree.specs.dn_names.Modes.{text_fault}
use Rattle.dir_tree.specs.dn_names.Resolving.{resolve}
use Rattle.dir_tree.specs.dn_names.Reading.{written_of}
use Rattle.dir_tree.specs.Entry.{Attribute, EntryInformation}
use Rattle.dir_tree.specs.EntryClasses.{has_class}
use Rattle.dir_tree.specs.Points.{is_point, is_specific_point, is_inner_point, is_subentry}
use Rattle.op_read.specs.acdf_filters.admin_scope.Areas.{areas}
use Rattle.op_read.specs.acdf_filters.admin_scope.InForce.{in_force}
use Rattle.op_read.specs.acdf_filters.Tuples.{items_in, inherited, tuples_of}
use Rattle.op_read.specs.acdf_filters.Filters.{decided}
use Rattle.op_read.specs.acdf_filters.Granted.{granted}
use Rattle.session_hub.specs.session_model.ldap_msg.declared.kinds.Auth.TheVariants.{Simple}
use Rattle.session_hub.specs.session_model.ldap_msg.declared.kinds.BindRequest.{BindRequest}
use Rattle.session_hub.specs.session_model.ldap_msg.declared.kinds.Request.TheVariants as request
use Rattle.session_hub.specs.session_model.ldap_msg.declared.kinds.Update.TheVariants as update
use Rattle.session_hub.specs.Parties.{nobody}
use Rattle.hush_laws.specs.declared.part.Part.TheVariants.{Suffix, Others, Governs, Change, Bind, TurnedAway}
use Rattle.hush_laws.specs.TwinParts.{failing_twins}
use Rattle.hush_laws.specs.Requests.{failing_asked}
use Rattle.hush_laws.specs.Hush.{ServedPlace, hush}
use Rattle.hush_laws.specs.Audits.{first_difference, audit_text}

-- a name of one RDN for each letter
abbrev rdn : String → List TypeAndValue
rdn name = record { kind = 1; value = record { octets = codes name; key = codes name } } ∷ []

abbrev suffix : RdnSequence
suffix = rdn "t" ∷ []

abbrev secret : RdnSequence
secret = rdn "t" ∷ rdn "a" ∷ []

abbrev other : RdnSequence
other = rdn "t" ∷ rdn "b" ∷ []

abbrev entry : RdnSequence → List Attribute → EntryInformation
entry name attributes = record { name = name; attributes = attributes }

-- a tree without entries below the suffix; with one at the name; with another; and with one that has a role
abbrev bare : List EntryInformation
bare = entry suffix [] ∷ []

abbrev with_secret : List EntryInformation
with_secret = entry suffix [] ∷ entry secret [] ∷ []

abbrev with_other : List EntryInformation
with_other = entry suffix [] ∷ entry other [] ∷ []

abbrev with_role : List EntryInformation
with_role = entry suffix [] ∷ entry secret (record { kind = 29; values = record { octets = codes "r"; key = codes "r" } ∷ [] } ∷ []) ∷ []

-- an ordinary entry at the name fails nothing; another elsewhere, and a role, do
twins_fail_nothing : failing_twins secret bare with_secret nobody ≡ None
unfolding name_cmp is_same is_prefix_of has_class is_subentry is_point is_specific_point is_inner_point areas in_force
    items_in inherited tuples_of decided granted
twins_fail_nothing = refl

another_entry_fails : failing_twins secret bare with_other nobody ≡ Some Others
unfolding name_cmp is_same is_prefix_of
another_entry_fails = refl

a_role_fails : failing_twins secret bare with_role nobody ≡ Some Governs
unfolding name_cmp is_same is_prefix_of has_class is_subentry is_point
a_role_fails = refl

-- a change is forbidden, and a bind at or below the name: an anonymous one is at the empty name
a_delete_is_forbidden : failing_asked secret (request.Update (update.Delete (record { name = codes "dc=example" }))) ≡ Some Change
a_delete_is_forbidden = refl

abbrev anonymous : BindRequest
anonymous = record { version = 3; name = []; auth = Simple [] }

an_anonymous_bind_is_not : failing_asked secret (request.Bind anonymous) ≡ None
unfolding is_prefix_of is_same name_cmp read_name text_fault resolve written_of
an_anonymous_bind_is_not = refl

but_at_the_root_it_is : failing_asked [] (request.Bind anonymous) ≡ Some Bind
unfolding is_prefix_of is_same name_cmp read_name text_fault resolve written_of
but_at_the_root_it_is = refl

-- a place of a connection that isn't open, over a tree that is no twin
abbrev closed : ℕ → Bool → ServedPlace
closed heard turned = record { heard = heard; tree = with_other; asks = None; message = None; turned = turned }

-- such a tree breaks nothing there, and to be turned away does; the first place that breaks something is told
nothing_is_broken : hush bare (closed 1 false ∷ closed 2 false ∷ []) secret ≡ None
unfolding name_cmp is_same is_prefix_of
nothing_is_broken = refl

turned_away : hush bare (closed 1 false ∷ closed 2 true ∷ closed 3 true ∷ []) secret ≡ Some (record { heard = 2; part = TurnedAway })
unfolding name_cmp is_same is_prefix_of
turned_away = refl

-- where the connection is open the tree counts, before all else
abbrev asked : ServedPlace
asked = record { heard = 4; tree = with_other; asks = Some nobody; message = None; turned = true }

the_least_part_is_told : hush bare (closed 1 false ∷ asked ∷ []) secret ≡ Some (record { heard = 4; part = Others })
unfolding name_cmp is_same is_prefix_of
the_least_part_is_told = refl

-- the suffix itself is below no suffix
the_suffix_is_not_hushed : hush bare (closed 1 true ∷ []) suffix ≡ Some (record { heard = 0; part = Suffix })
unfolding name_cmp is_same is_prefix_of
the_suffix_is_not_hushed = refl

-- where texts differ
within_both : first_difference (1 ∷ 2 ∷ 3 ∷ []) (1 ∷ 2 ∷ 4 ∷ []) ≡ Some 2
within_both = refl

one_is_longer : first_difference (1 ∷ []) (1 ∷ 2 ∷ []) ≡ Some 1
one_is_longer = refl

both_the_same : first_difference (1 ∷ 2 ∷ []) (1 ∷ 2 ∷ []) ≡ None
both_the_same = refl

-- the two lines
hushed_and_same : audit_text (record { fault = None; differs = None }) ≡ codes "hush yes\nsame\n"
hushed_and_same = refl

broken_and_different : audit_text (record { fault = Some (record { heard = 257; part = TurnedAway }); differs = Some 0 }) ≡ codes "hush no at 257: part 7\ndiffers at 0\n"
unfolding digits
broken_and_different = refl
