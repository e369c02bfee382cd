-- An entry, what changes leave of it, and its classes and roles.
use Rattle.std.proofs.Common.{◌≡◌, true, false, [], ◌∷◌, Some, refl}
use Rattle.std.specs.Prelude.{List, codes}
use Prim.Native.String.{String}
use Rattle.schema_tables.specs.Attributes.{attributes, attr_of}
use Rattle.schema_tables.specs.classes.Classes.{classes}
use Rattle.dn_names.specs.name.Names.{Keyed}
use Rattle.dir_tree.specs.Entry.{EntryInformation, values_of, kinds_of}
use Rattle.dir_tree.specs.attributes.Changes.{with_value, without_value, without_kind}
use Rattle.dir_tree.specs.EntryClasses.{object_class, oids_of_classes, has_class}
use Rattle.dir_tree.specs.Points.{administrative_role, is_point, is_specific_point, is_inner_point, is_subentry, is_access_subentry, access_subentries}

-- a value of its octets and its key
abbrev value : String → String → Keyed
value octets key = record { octets = codes octets; key = codes key }

-- Ann: an organizationalPerson, with a class outside the table
abbrev ann : EntryInformation
ann = record {
  name = [];
  attributes =
      record { kind = 0; values = value "organizationalPerson" "2.5.6.7" ∷ value "1.2.3" "1.2.3" ∷ [] }
      ∷ record { kind = 1; values = value "Ann" "ann" ∷ [] }
      ∷ [];
}

numbers : attr_of (codes "objectClass") ≡ Some object_class
unfolding attributes
numbers = refl

role_number : attr_of (codes "administrativeRole") ≡ Some administrative_role
unfolding attributes
role_number = refl

-- a value comes last of its type, and is not added where its key is there
a_second_value : values_of 1 (with_value 1 (value "Anna" "anna") ann).attributes
    ≡ value "Ann" "ann" ∷ value "Anna" "anna" ∷ []
a_second_value = refl

a_value_that_matches : with_value 1 (value "ANN" "ann") ann ≡ ann
a_value_that_matches = refl

a_new_type : kinds_of (with_value 2 (value "Lee" "lee") ann).attributes ≡ 0 ∷ 1 ∷ 2 ∷ []
a_new_type = refl

-- the attribute goes with its last value
the_last_value : kinds_of (without_value 1 (codes "ann") ann).attributes ≡ 0 ∷ []
the_last_value = refl

the_first_of_two : values_of 0 (without_value 0 (codes "2.5.6.7") ann).attributes ≡ value "1.2.3" "1.2.3" ∷ []
the_first_of_two = refl

no_such_value : without_value 1 (codes "lee") ann ≡ ann
no_such_value = refl

the_whole_attribute : kinds_of (without_kind 0 ann).attributes ≡ 1 ∷ []
the_whole_attribute = refl

no_such_type : without_kind 7 ann ≡ ann
no_such_type = refl

-- an organizationalPerson is a person; of a class outside the table its own object identifier is known
oids : oids_of_classes ann.attributes
    ≡ codes "2.5.6.7" ∷ codes "2.5.6.7" ∷ codes "2.5.6.6" ∷ codes "2.5.6.0" ∷ codes "1.2.3" ∷ []
unfolding attributes classes
oids = refl

a_person : has_class (codes "2.5.6.6") ann ≡ true
unfolding has_class attributes classes
a_person = refl

not_a_device : has_class (codes "2.5.6.14") ann ≡ false
unfolding has_class attributes classes
not_a_device = refl

a_foreign_class : has_class (codes "1.2.3") ann ≡ true
unfolding has_class attributes classes
a_foreign_class = refl

-- an entry with roles or classes alone
abbrev with : List Keyed → List Keyed → EntryInformation
with roles listed = record {
  name = [];
  attributes = record { kind = 29; values = roles } ∷ record { kind = 0; values = listed } ∷ [];
}

abbrev autonomous : Keyed
autonomous = value "autonomousArea" "2.5.23.1"

abbrev inner : Keyed
inner = value "accessControlInnerArea" "2.5.23.3"

both_roles : is_specific_point (with (inner ∷ autonomous ∷ []) []) ≡ true
unfolding is_specific_point
both_roles = refl

specific_is_not_inner : is_inner_point (with (inner ∷ autonomous ∷ []) []) ≡ false
unfolding is_inner_point is_specific_point
specific_is_not_inner = refl

inner_alone : is_inner_point (with (inner ∷ []) []) ≡ true
unfolding is_inner_point is_specific_point
inner_alone = refl

another_role : is_point (with (value "2.5.23.9" "2.5.23.9" ∷ []) []) ≡ true
unfolding is_point
another_role = refl

no_role : is_point ann ≡ false
unfolding is_point
no_role = refl

abbrev subentry : Keyed
subentry = value "subentry" "2.5.17.0"

abbrev access_control : Keyed
access_control = value "accessControlSubentry" "2.5.17.1"

a_subentry : is_subentry (with [] (subentry ∷ [])) ≡ true
unfolding is_subentry has_class attributes classes
a_subentry = refl

no_access_subentry : is_access_subentry (with [] (access_control ∷ [])) ≡ false
unfolding is_access_subentry is_subentry has_class attributes classes
no_access_subentry = refl

an_access_subentry : is_access_subentry (with [] (subentry ∷ access_control ∷ [])) ≡ true
unfolding is_access_subentry is_subentry has_class attributes classes
an_access_subentry = refl

-- a subentry of another kind does not count, nor does an entry that is none
access_subentries_counted : access_subentries (ann ∷ with [] (subentry ∷ access_control ∷ []) ∷ with [] (subentry ∷ []) ∷ []) ≡ 1
unfolding is_access_subentry is_subentry has_class attributes classes
access_subentries_counted = refl
