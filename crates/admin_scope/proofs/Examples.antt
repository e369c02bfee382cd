-- The areas and the subentries in force, computed on small trees.
use Rattle.std.proofs.Common.{◌≡◌, List, [], ◌∷◌, true, false, Some, None, refl}
use Rattle.std.specs.Prelude.{codes}
use Prim.Native.String.{String}
use Rattle.dir_tree.specs.schema_tables.Attributes.{attributes, attr_of}
use Rattle.dir_tree.specs.schema_tables.classes.Classes.{classes}
use Rattle.dir_tree.specs.dn_names.name.Names.{Keyed, TypeAndValue, RdnSequence}
use Rattle.dir_tree.specs.dn_names.NameOrder.{name_cmp, is_same, is_prefix_of}
use Rattle.dir_tree.specs.Entry.{EntryInformation}
use Rattle.dir_tree.specs.EntryClasses.{has_class}
use Rattle.dir_tree.specs.Points.{is_specific_point, is_inner_point}
use Rattle.subtree_spec.specs.Subtrees.{Choice, Item, And, Or, Not, gathered, Subtree}
use Rattle.subtree_spec.specs.membership.Membership.{holds_below}
use Rattle.admin_scope.specs.Refinements.{is_true_of, holds}
use Rattle.admin_scope.specs.Areas.{areas, without_subtree}
use Rattle.admin_scope.specs.InForce.{subtree_specification}

number : attr_of (codes "subtreeSpecification") ≡ Some subtree_specification
unfolding attributes
number = refl

-- a value of its octets and its key
abbrev value : String → String → Keyed
value octets key = record { octets = codes octets; key = codes key }

abbrev rdn : String → List TypeAndValue
rdn name = record { kind = 1; value = value name name } ∷ []

abbrev specific : Keyed
specific = value "accessControlSpecificArea" "2.5.23.2"

abbrev inner : Keyed
inner = value "accessControlInnerArea" "2.5.23.3"

-- an entry of some classes with some roles
abbrev entry : RdnSequence → List Keyed → List Keyed → EntryInformation
entry name listed roles = record {
  name = name;
  attributes = record { kind = 0; values = listed } ∷ record { kind = 29; values = roles } ∷ [];
}

-- a class and the entries: u is specific, b below it inner, c below b has no role
abbrev unit : List Keyed
unit = value "organizationalUnit" "2.5.6.5" ∷ []

abbrev u : EntryInformation
u = entry (rdn "u" ∷ []) unit (specific ∷ [])

abbrev b : EntryInformation
b = entry (rdn "u" ∷ rdn "b" ∷ []) unit (inner ∷ [])

abbrev c : EntryInformation
c = entry (rdn "u" ∷ rdn "b" ∷ rdn "c" ∷ []) unit []

abbrev entries : List EntryInformation
entries = u ∷ b ∷ c ∷ []

-- the inner point and the specific one above it
both_points : areas entries c ≡ b ∷ u ∷ []
unfolding areas name_cmp is_same is_prefix_of is_specific_point is_inner_point
both_points = refl

-- an entry is among its own points
own_point : areas entries u ≡ u ∷ []
unfolding areas name_cmp is_same is_prefix_of is_specific_point is_inner_point
own_point = refl

-- nothing above the first specific point counts
cut_at_specific : areas (b ∷ entry (rdn "u" ∷ rdn "b" ∷ rdn "d" ∷ []) unit (specific ∷ []) ∷ [])
    (entry (rdn "u" ∷ rdn "b" ∷ rdn "d" ∷ rdn "e" ∷ []) unit [])
    ≡ entry (rdn "u" ∷ rdn "b" ∷ rdn "d" ∷ []) unit (specific ∷ []) ∷ []
unfolding areas name_cmp is_same is_prefix_of is_specific_point is_inner_point
cut_at_specific = refl

-- an inner point alone makes no area
no_specific_point : areas (b ∷ c ∷ []) c ≡ []
unfolding areas name_cmp is_same is_prefix_of is_specific_point is_inner_point
no_specific_point = refl

-- a subtree of all below the point, with a refinement
abbrev refined : Choice → Subtree
refined choice = record { base = []; before = []; after = []; minimum = 0; maximum = None; filter = Some choice }

-- an organizationalPerson is a person, and no inetOrgPerson
abbrev ann : EntryInformation
ann = entry (rdn "u" ∷ rdn "a" ∷ []) (value "organizationalPerson" "2.5.6.7" ∷ []) []

a_superclass : holds (refined (Item (codes "2.5.6.6"))) u.name ann ≡ true
unfolding holds holds_below name_cmp is_same is_prefix_of has_class attributes classes
a_superclass = refl

a_class_below : holds (refined (Item (codes "2.16.840.1.113730.3.2.2"))) u.name ann ≡ false
unfolding holds holds_below name_cmp is_same is_prefix_of has_class attributes classes
a_class_below = refl

-- of no refinements all are true, and none is
all_of_none : is_true_of (And (gathered [])) ann ≡ true
all_of_none = refl

one_of_none : is_true_of (Or (gathered [])) ann ≡ false
one_of_none = refl

-- a refinement that is not
not_one : is_true_of (Not (Or (gathered []))) ann ≡ true
not_one = refl

-- without the entries at b and below
without_b : without_subtree b.name entries ≡ u ∷ []
unfolding name_cmp is_same is_prefix_of
without_b = refl
