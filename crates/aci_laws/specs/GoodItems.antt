-- Access control items as the rules allow them: what reading gives, and what is read again from its printed form.
use Rattle.std.specs.Prelude.{◌≡◌, ◌≤◌, true, List, Some, None}
use Rattle.std.specs.List.{AllByRecursion}
use Rattle.std.specs.List.Sorted.{IsStrictlySortedBy}
use Rattle.std.specs.Str.{is_utf8}
use Rattle.dir_tree.specs.schema_tables.Attributes.{IsAttrId}
use Rattle.dir_tree.specs.dn_names.name.GoodNames.{IsGoodName}
use Rattle.dir_tree.specs.dn_names.name.Names.{TypeAndValue}
use Rattle.dir_tree.specs.dn_names.NameValues.{value_of}
use Rattle.gser_tree.specs.Lexemes.{Lexeme}
use Rattle.gser_tree.specs.Writing.{text_of}
use Rattle.subtree_spec.specs.GoodSubtrees.{IfThere, IsGoodSubtree}
use Rattle.subtree_spec.specs.SubtreePrinted.{print_subtree}
use Rattle.subtree_spec.specs.Subtrees.{Subtree}
use Rattle.aci_item.specs.Permission.{Bit, in_order}
use Rattle.aci_item.specs.item.Items.{UserClasses, MaxValueCount, RestrictedValue, ProtectedItems, ItemPermission, UserPermission, First, ItemFirst, UserFirst, Item}
use Rattle.aci_item.specs.members.Limits.{have_same_syntax}
use Rattle.aci_item.specs.ItemPrinted.{print_user, print_kind, print_value, print_max_value_count, print_restricted_value, print_item_permission, print_user_permission}
use Rattle.aci_item.specs.Sets.{by_text}

-- members that have a property, in the order of their printed texts, no two of which are equal
pub record IsSetOf {A : Type 0} (print : A → List Lexeme) (P : A → Type 0) (values : List A) : Type 0 where
  pub good : AllByRecursion P values
  pub sorted : IsStrictlySortedBy (by_text (λ value. text_of (print value))) values

-- a value of an attribute type of the table, which is a text
pub record IsGoodValue (pair : TypeAndValue) : Type 0 where
  pub kind : IsAttrId pair.kind
  pub value : value_of pair.kind pair.value.octets ≡ Some pair.value
  pub text : is_utf8 pair.value.octets ≡ true

-- a number of values, of an attribute type of the table
pub record IsGoodMaxValueCount (limit : MaxValueCount) : Type 0 where
  pub kind : IsAttrId limit.kind
  pub max_count : limit.max_count ≤ 2147483647

-- two attribute types of the table, of the same syntax
pub record IsGoodRestrictedValue (limit : RestrictedValue) : Type 0 where
  pub kind : IsAttrId limit.kind
  pub values_in : IsAttrId limit.values_in
  pub same_syntax : have_same_syntax limit.kind limit.values_in ≡ true

-- a subtree without a refinement
pub record IsGoodClassSubtree (spec : Subtree) : Type 0 where
  pub good : IsGoodSubtree spec
  pub unrefined : spec.filter ≡ None

pub record IsGoodClasses (classes : UserClasses) : Type 0 where
  pub names : IsSetOf print_user IsGoodName classes.names
  pub groups : IsSetOf print_user IsGoodName classes.groups
  pub subtrees : IsSetOf print_subtree IsGoodClassSubtree classes.subtrees

pub record IsGoodItems (items : ProtectedItems) : Type 0 where
  pub kinds : IsSetOf print_kind IsAttrId items.kinds
  pub all_values : IsSetOf print_kind IsAttrId items.all_values
  pub values : IsSetOf print_value IsGoodValue items.values
  pub self_values : IsSetOf print_kind IsAttrId items.self_values
  pub max_counts : IsSetOf print_max_value_count IsGoodMaxValueCount items.max_counts
  pub restricted : IsSetOf print_restricted_value IsGoodRestrictedValue items.restricted

-- bits in rising order, each once
abbrev pub AreGoodBits : List Bit → Type 0
AreGoodBits bits = in_order bits ≡ bits

pub record IsGoodItemPermission (permission : ItemPermission) : Type 0 where
  pub precedence : IfThere (λ number. number ≤ 255) permission.precedence
  pub classes : IsGoodClasses permission.classes
  pub bits : AreGoodBits permission.bits

pub record IsGoodUserPermission (permission : UserPermission) : Type 0 where
  pub precedence : IfThere (λ number. number ≤ 255) permission.precedence
  pub items : IsGoodItems permission.items
  pub bits : AreGoodBits permission.bits

abbrev pub IsGoodFirst : First → Type 0
IsGoodFirst (ItemFirst items permissions) = IsGoodItems items × IsSetOf print_item_permission IsGoodItemPermission permissions
IsGoodFirst (UserFirst classes permissions) = IsGoodClasses classes × IsSetOf print_user_permission IsGoodUserPermission permissions

-- an item
pub record IsGoodItem (item : Item) : Type 0 where
  pub tag : is_utf8 item.tag ≡ true
  pub precedence : item.precedence ≤ 255
  pub first : IsGoodFirst item.first
