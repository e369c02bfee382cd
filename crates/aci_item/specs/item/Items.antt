-- Access control items as plain values (X.501 18.4.2). Attribute types are their numbers in the table of the schema.
use Rattle.std.specs.Prelude.{ℕ, Bool, List, Option}
use Rattle.dir_tree.specs.dn_names.name.Names.{RdnSequence, TypeAndValue}
use Rattle.subtree_spec.specs.Subtrees.{Subtree}
use Rattle.aci_item.specs.declared.level.Level.{Level}
use Rattle.aci_item.specs.Permission.{Bit}

-- UserClasses ::= SEQUENCE { allUsers, thisEntry, name, userGroup, subtree }
pub record UserClasses : Type 0 where
  pub all : Bool
  pub this_entry : Bool
  pub names : List RdnSequence
  pub groups : List RdnSequence
  pub subtrees : List Subtree

-- MaxValueCount ::= SEQUENCE { type, maxCount }: at most so many values of the type
pub record MaxValueCount : Type 0 where
  pub kind : ℕ
  pub max_count : ℕ

-- RestrictedValue ::= SEQUENCE { type, valuesIn }: values of the type are among those of the other
pub record RestrictedValue : Type 0 where
  pub kind : ℕ
  pub values_in : ℕ

-- ProtectedItems ::= SEQUENCE { entry, allUserAttributeTypes, attributeType, allAttributeValues,
-- allUserAttributeTypesAndValues, attributeValue, selfValue, maxValueCount, restrictedBy }, of X.501's thirteen
pub record ProtectedItems : Type 0 where
  pub entry : Bool
  pub all_kinds : Bool
  pub kinds : List ℕ
  pub all_values : List ℕ
  pub all_kinds_and_values : Bool
  pub values : List TypeAndValue
  pub self_values : List ℕ
  pub max_counts : List MaxValueCount
  pub restricted : List RestrictedValue

-- ItemPermission ::= SEQUENCE { precedence OPTIONAL, userClasses, grantsAndDenials }: the bits in rising order
pub record ItemPermission : Type 0 where
  pub precedence : Option ℕ
  pub classes : UserClasses
  pub bits : List Bit

-- UserPermission ::= SEQUENCE { precedence OPTIONAL, protectedItems, grantsAndDenials }: the bits in rising order
pub record UserPermission : Type 0 where
  pub precedence : Option ℕ
  pub items : ProtectedItems
  pub bits : List Bit

-- itemOrUserFirst: CHOICE { itemFirst [0] SEQUENCE { protectedItems, itemPermissions },
-- userFirst [1] SEQUENCE { userClasses, userPermissions } }
pub data First : Type 0 where
  ItemFirst : ProtectedItems → List ItemPermission → First
  UserFirst : UserClasses → List UserPermission → First

-- ACIItem ::= SEQUENCE { identificationTag, precedence, authenticationLevel, itemOrUserFirst }
pub record Item : Type 0 where
  pub tag : List ℕ
  pub precedence : ℕ
  pub level : Level
  pub first : First
