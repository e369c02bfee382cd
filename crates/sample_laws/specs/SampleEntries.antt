-- The entries of a sample (X.501 8.2 and 9.4): an area of access control with one subentry, which opens one of two units, and
-- persons by turns in the open unit and in the other. The numbers of types are those of the table of attribute types.
use Rattle.std.specs.Prelude.{ℕ, zero, suc, List, [], ◌∷◌, ◌++◌, codes, decimal}
use Prim.Native.String.{String}
use Rattle.dir_tree.specs.dn_names.name.Names.{Keyed, TypeAndValue, RdnSequence}
use Rattle.dir_tree.specs.Entry.{Attribute, EntryInformation}
use Rattle.dir_tree.specs.EntryClasses.{object_class}
use Rattle.dir_tree.specs.Points.{administrative_role}
use Rattle.dir_tree.specs.tree.Trees.{put_in}
use Rattle.sample_input.specs.SampleFile.{grants, unit_of}

-- a value that is compared as it stands
abbrev pub own : List ℕ → Keyed
own octets = record { octets = octets; key = octets }

-- a name of the schema, which is compared by its object identifier
abbrev pub known : String → String → Keyed
known name oid = record { octets = codes name; key = codes oid }

-- an attribute with one value
abbrev pub with_one : ℕ → Keyed → Attribute
with_one kind value = record { kind = kind; values = value ∷ [] }

-- an RDN of one type, with a value that is compared as it stands
abbrev pub rdn : ℕ → List ℕ → List TypeAndValue
rdn kind octets = record { kind = kind; value = own octets } ∷ []

-- cn, ou, uid and dc, and the types of a subentry
abbrev pub cn : ℕ
cn = 1

abbrev pub ou : ℕ
ou = 9

abbrev pub uid : ℕ
uid = 22

abbrev pub dc : ℕ
dc = 25

abbrev pub subtree_specification : ℕ
subtree_specification = 30

abbrev pub prescriptive_aci : ℕ
prescriptive_aci = 32

-- the area
abbrev pub area_name : RdnSequence
area_name = rdn dc (codes "sample") ∷ []

abbrev pub area : EntryInformation
area = record {
  name = area_name;
  attributes =
      with_one object_class (known "domain" "0.9.2342.19200300.100.4.13")
      ∷ with_one dc (own (codes "sample"))
      ∷ with_one administrative_role (known "accessControlSpecificArea" "2.5.23.2")
      ∷ [];
}

-- what everyone may do in the open unit
abbrev pub item_text : List ℕ
item_text =
    codes "{ identificationTag \"a\", precedence 0, authenticationLevel none, itemOrUserFirst userFirst: { userClasses { allUsers }, "
    ++ (grants ++ codes " } }")

-- the subentry of the area
abbrev pub subentry : EntryInformation
subentry = record {
  name = rdn dc (codes "sample") ∷ rdn cn (codes "acl") ∷ [];
  attributes =
      record { kind = object_class; values = known "subentry" "2.5.17.0" ∷ known "accessControlSubentry" "2.5.17.1" ∷ [] }
      ∷ with_one cn (own (codes "acl"))
      ∷ with_one subtree_specification (own (codes "{ base \"ou=open\" }"))
      ∷ with_one prescriptive_aci (own item_text)
      ∷ [];
}

-- a unit
abbrev pub unit_name : List ℕ → RdnSequence
unit_name unit = rdn dc (codes "sample") ∷ rdn ou unit ∷ []

abbrev pub unit_entry : List ℕ → EntryInformation
unit_entry unit = record {
  name = unit_name unit;
  attributes = with_one object_class (known "organizationalUnit" "2.5.6.5") ∷ with_one ou (own unit) ∷ [];
}

-- a person of a unit, by an identifier
abbrev pub person_in : List ℕ → List ℕ → EntryInformation
person_in unit identifier = record {
  name = rdn dc (codes "sample") ∷ rdn ou unit ∷ rdn uid identifier ∷ [];
  attributes = with_one object_class (known "account" "0.9.2342.19200300.100.4.5") ∷ with_one uid (own identifier) ∷ [];
}

-- the person of a number
abbrev pub person : ℕ → EntryInformation
person number = person_in (unit_of number) (codes "u" ++ decimal number)

-- the entries before all persons
abbrev pub head_entries : List EntryInformation
head_entries = area ∷ subentry ∷ unit_entry (codes "open") ∷ unit_entry (codes "shut") ∷ []

-- the entries of a sample of so many persons, with numbers from 1 on, in the order of their names
unfoldable pub sample_entries : ℕ → List EntryInformation
sample_entries zero = head_entries
sample_entries (suc count) = put_in (person (suc count)) (sample_entries count)
