-- The definitions on small cases.
use Rattle.std.proofs.Common.{◌≡◌, ℕ, true, false, [], ◌∷◌, List, refl}
use Rattle.std.specs.Prelude.{codes}
use Rattle.dir_tree.specs.dn_names.name.Names.{Keyed, RdnSequence}
use Rattle.dir_tree.specs.dn_names.NameOrder.{name_cmp, is_same}
use Rattle.dir_tree.specs.Entry.{EntryInformation}
use Rattle.acdf_filters.specs.declared.asking.Requester.{Requester}
use Rattle.acdf_filters.specs.Asking.{Entry}
use Rattle.acdf_filters.specs.Granted.{granted}
use Rattle.acdf_filters.specs.aci_item.declared.permission.Permission.TheVariants.{DiscloseOnError}
use Rattle.ldap_msg.specs.declared.operations.ResultCode.TheVariants as code
use Rattle.read_model.specs.Views.{view_of, no_such_object, result_of}
use Rattle.directory.specs.Targets.{is_suffix, not_leaf}

-- a value whose key is its octets
plain_value : List ℕ → Keyed
plain_value octets = record { octets = octets; key = octets }

-- dc=A, and ou=b below it
root : RdnSequence
root = (record { kind = 25; value = record { octets = codes "A"; key = codes "a" } } ∷ []) ∷ []

below : RdnSequence
below = (record { kind = 25; value = record { octets = codes "a"; key = codes "a" } } ∷ []) ∷ (record { kind = 9; value = record { octets = codes "b"; key = codes "b" } } ∷ []) ∷ []

bare : RdnSequence → EntryInformation
bare name = record { name = name; attributes = [] }

-- the suffix is known by its name in any spelling
the_suffix : is_suffix ((record { kind = 25; value = plain_value (codes "a") } ∷ []) ∷ []) (bare root ∷ bare below ∷ []) ≡ true
unfolding root below bare plain_value name_cmp is_same
the_suffix = refl

below_the_suffix : is_suffix below (bare root ∷ bare below ∷ []) ≡ false
unfolding root below bare name_cmp is_same
below_the_suffix = refl

no_suffix : is_suffix root [] ≡ false
no_suffix = refl

-- a target that may be known of is told to be no leaf
a_known_target : (entries : List EntryInformation) (who : Requester) (name : RdnSequence) (target : EntryInformation) → granted entries who target Entry DiscloseOnError ≡ true → not_leaf entries who name target ≡ result_of code.NotAllowedOnNonLeaf
a_known_target entries who name target known = rw known refl

a_hidden_target : (entries : List EntryInformation) (who : Requester) (name : RdnSequence) (target : EntryInformation) → granted entries who target Entry DiscloseOnError ≡ false → not_leaf entries who name target ≡ no_such_object (view_of entries who) name
a_hidden_target entries who name target hidden = rw hidden refl
