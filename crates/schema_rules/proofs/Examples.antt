-- Entries that keep the rules or break one: the first that is broken answers.
use Rattle.std.proofs.Common.{◌≡◌, ℕ, true, false, [], ◌∷◌, Some, None, refl}
use Rattle.std.specs.Prelude.{List, codes, is_err}
use Prim.Native.String.{String}
use Rattle.dir_tree.specs.schema_tables.Attributes.{attributes}
use Rattle.dir_tree.specs.schema_tables.classes.Classes.{classes}
use Rattle.dir_tree.specs.dn_names.name.Names.{Keyed, RdnSequence}
use Rattle.dir_tree.specs.dn_names.NameOrder.{name_cmp, is_same, is_prefix_of}
use Rattle.dir_tree.specs.Entry.{Attribute, EntryInformation}
use Rattle.dir_tree.specs.EntryClasses.{has_class}
use Rattle.dir_tree.specs.Points.{is_point, is_subentry, is_access_subentry}
use Rattle.dir_tree.specs.schema_tables.Superclasses.{with_superclasses}
use Rattle.dir_tree.specs.schema_tables.declared.kinds.Syntax.TheVariants.{Subtree, Aci}
use Rattle.aci_item.specs.subtree_spec.SubtreeText.{read_subtree}
use Rattle.aci_item.specs.AciText.{read_item}
use Rattle.aci_item.specs.Listed.{are_in_line}
use Rattle.aci_item.specs.declared.entry_rule.EntryRule.TheVariants.{RdnValues, StructuralClass, Classes, SingleValues, Place}
use Rattle.aci_item.specs.Rules.{broken_rule, lacks_own_value, has_other_structural, breaks_classes, is_unread, has_unread, has_two_values, is_misplaced, is_past_limits, stands_wrong, octets_in}

-- a value of its key, which stands for its octets too
abbrev value : String → Keyed
value key = record { octets = codes key; key = codes key }

-- an attribute with one value, and with two
abbrev one : ℕ → String → Attribute
one kind key = record { kind = kind; values = value key ∷ [] }

abbrev two : ℕ → String → String → Attribute
two kind key other = record { kind = kind; values = value key ∷ value other ∷ [] }

-- an entry of a name and of attributes
abbrev entry : RdnSequence → List Attribute → EntryInformation
entry name attributes = record { name = name; attributes = attributes }

-- the names dc=example and cn=ann,dc=example and cn=lee,cn=ann,dc=example
abbrev example : RdnSequence
example = (record { kind = 25; value = value "example" } ∷ []) ∷ []

abbrev ann : RdnSequence
ann = (record { kind = 25; value = value "example" } ∷ []) ∷ (record { kind = 1; value = value "ann" } ∷ []) ∷ []

abbrev lee : RdnSequence
lee = (record { kind = 25; value = value "example" } ∷ []) ∷ (record { kind = 1; value = value "ann" } ∷ [])
    ∷ (record { kind = 1; value = value "lee" } ∷ []) ∷ []

-- a domain, and one that is an administrative point
abbrev suffix : EntryInformation
suffix = entry example (one 0 "0.9.2342.19200300.100.4.13" ∷ one 25 "example" ∷ [])

abbrev area : EntryInformation
area = entry example (one 0 "0.9.2342.19200300.100.4.13" ∷ one 25 "example" ∷ one 29 "2.5.23.1" ∷ [])

-- a person, and a person with these attributes besides
abbrev with_more : List Attribute → EntryInformation
with_more more = entry ann (one 0 "2.5.6.6" ∷ one 1 "ann" ∷ one 2 "lee" ∷ more)

abbrev of_classes : List Keyed → EntryInformation
of_classes listed = entry ann (record { kind = 0; values = listed } ∷ one 1 "ann" ∷ one 2 "lee" ∷ [])

-- a subentry
abbrev subentry : RdnSequence → EntryInformation
subentry name = entry name (one 0 "2.5.17.0" ∷ one 1 "ann" ∷ one 30 "{ }" ∷ [])

-- inetOrgPerson, organizationalPerson, person, top
chain : with_superclasses 13 ≡ 13 ∷ 6 ∷ 5 ∷ 0 ∷ []
unfolding classes
chain = refl

in_line : are_in_line 13 5 ≡ true
unfolding classes
in_line = refl

-- organizationalRole is below top alone
out_of_line : are_in_line 7 5 ≡ false
unfolding classes
out_of_line = refl

-- what the rules compute by
unfoldable breaking : Unit {0}
unfolding attributes classes broken_rule lacks_own_value has_other_structural breaks_classes has_unread has_two_values is_misplaced is_past_limits is_same name_cmp is_prefix_of has_class is_point is_subentry is_access_subentry
breaking = tt

-- entries that break no rule
a_suffix : broken_rule None [] suffix ≡ None
unfolding breaking
a_suffix = refl

a_person : broken_rule None (suffix ∷ []) (with_more []) ≡ None
unfolding breaking
a_person = refl

a_point : broken_rule None [] area ≡ None
unfolding breaking
a_point = refl

classes_in_line : broken_rule None (suffix ∷ []) (of_classes (value "2.5.6.6" ∷ value "2.16.840.1.113730.3.2.2" ∷ value "2.5.6.0" ∷ [])) ≡ None
unfolding breaking
classes_in_line = refl

-- notAllowedOnRDN comes before all others
no_own_value : broken_rule None (suffix ∷ []) (entry lee (one 0 "2.5.6.6" ∷ one 1 "ann" ∷ one 2 "lee" ∷ [])) ≡ Some RdnValues
unfolding breaking
no_own_value = refl

no_own_value_and_no_class : broken_rule None [] (entry ann []) ≡ Some RdnValues
unfolding breaking
no_own_value_and_no_class = refl

-- objectClassViolation
no_class : broken_rule None (suffix ∷ []) (entry ann (one 1 "ann" ∷ [])) ≡ Some Classes
unfolding breaking
no_class = refl

no_such_class : broken_rule None (suffix ∷ []) (of_classes (value "2.5.6.6" ∷ value "1.2.3" ∷ [])) ≡ Some Classes
unfolding breaking
no_such_class = refl

abstract_alone : broken_rule None (suffix ∷ []) (entry ann (one 0 "2.5.6.0" ∷ one 1 "ann" ∷ [])) ≡ Some Classes
unfolding breaking
abstract_alone = refl

auxiliary_alone : broken_rule None (suffix ∷ []) (entry ann (one 0 "1.3.6.1.1.3.1" ∷ one 1 "ann" ∷ one 22 "ann" ∷ [])) ≡ Some Classes
unfolding breaking
auxiliary_alone = refl

two_lines : broken_rule None (suffix ∷ []) (of_classes (value "2.5.6.6" ∷ value "2.5.6.8" ∷ [])) ≡ Some Classes
unfolding breaking
two_lines = refl

-- a superclass requires the surname
no_surname : broken_rule None (suffix ∷ []) (entry ann (one 0 "2.16.840.1.113730.3.2.2" ∷ one 1 "ann" ∷ [])) ≡ Some Classes
unfolding breaking
no_surname = refl

no_such_attribute : broken_rule None (suffix ∷ []) (with_more (one 23 "ann" ∷ [])) ≡ Some Classes
unfolding breaking
no_such_attribute = refl

access_alone : broken_rule None (suffix ∷ []) (of_classes (value "2.5.6.6" ∷ value "2.5.17.1" ∷ [])) ≡ Some Classes
unfolding breaking
access_alone = refl

a_role_in_a_subentry : broken_rule None (area ∷ []) (entry ann (one 0 "2.5.17.0" ∷ one 1 "ann" ∷ one 30 "{ }" ∷ one 29 "2.5.23.1" ∷ [])) ≡ Some Classes
unfolding breaking
a_role_in_a_subentry = refl

-- invalidAttributeSyntax: a text that is no subtree specification or no access control item
a_subtree_is_read : (octets : List ℕ) → is_unread Subtree octets ≡ is_err (read_subtree octets)
a_subtree_is_read octets = refl

an_item_is_read : (octets : List ℕ) → is_unread Aci octets ≡ is_err (read_item octets)
an_item_is_read octets = refl

-- constraintViolation
two_schemes : broken_rule None (suffix ∷ []) (with_more (two 31 "2.5.28.1" "2.5.28.2" ∷ [])) ≡ Some SingleValues
unfolding breaking
two_schemes = refl

two_common_names : broken_rule None (suffix ∷ []) (entry ann (one 0 "2.5.6.6" ∷ two 1 "ann" "anna" ∷ one 2 "lee" ∷ [])) ≡ None
unfolding breaking
two_common_names = refl

-- namingViolation
below_a_subentry : broken_rule None (area ∷ subentry ann ∷ []) (entry lee (one 0 "2.5.6.6" ∷ one 1 "lee" ∷ one 2 "lee" ∷ [])) ≡ Some Place
unfolding breaking
below_a_subentry = refl

below_a_point : stands_wrong (Some area) (subentry ann) ≡ false
unfolding breaking
below_a_point = refl

below_no_point : stands_wrong (Some suffix) (subentry ann) ≡ true
unfolding breaking
below_no_point = refl

a_subentry_as_suffix : stands_wrong None (subentry example) ≡ true
unfolding breaking
a_subentry_as_suffix = refl

below_another : stands_wrong (Some (subentry ann)) (subentry lee) ≡ true
unfolding breaking
below_another = refl

-- an entry in the place of an old one: a person that becomes a residential one, or lists a class above its own besides
other_classes : broken_rule (Some (with_more [])) (suffix ∷ []) (of_classes (value "2.5.6.0" ∷ [])) ≡ Some StructuralClass
unfolding breaking
other_classes = refl

a_class_more : broken_rule (Some (with_more [])) (suffix ∷ []) (of_classes (value "2.5.6.6" ∷ value "2.16.840.1.113730.3.2.2" ∷ [])) ≡ Some StructuralClass
unfolding breaking
a_class_more = refl

the_same_classes : broken_rule (Some (with_more [])) (suffix ∷ []) (of_classes (value "2.5.6.6" ∷ value "2.5.6.0" ∷ [])) ≡ None
unfolding breaking
the_same_classes = refl

-- a point above a subentry keeps its role
no_role_above_a_subentry : broken_rule (Some area) (subentry ann ∷ []) suffix ≡ Some Place
unfolding breaking
no_role_above_a_subentry = refl

a_role_above_a_subentry : broken_rule (Some area) (subentry ann ∷ []) area ≡ None
unfolding breaking
a_role_above_a_subentry = refl

-- the octets of all values, whatever their keys
octets : octets_in suffix ≡ 33
octets = refl
