-- Access control items as text (X.501 18.4.2, RFC 3641), a production a definition. Of X.501's protected items and user
-- classes four are left out: rangeOfValues, maxImmSub, contexts and classes.
use Rattle.std.specs.Prelude.{◌≡◌, ℕ, List, [], Option, Some, None, option_and_then, Result, codes, if◌then◌else◌}
use Rattle.std.specs.Result.{result_ok}
use Rattle.std.specs.Str.{bytes_eq}
use Rattle.gser_tree.specs.Lexemes.{Lexeme}
use Rattle.gser_tree.specs.looking.Shapes.{Shape}
use Rattle.gser_tree.specs.TextOf.{IsTextOf}
use Rattle.gser_tree.specs.Growing.{tree_of}
use Rattle.gser_tree.specs.looking.Looking.{members_in, string_in, chosen_in}
use Rattle.gser_tree.specs.Reading.{Read, give, ◌>>=◌, expect, optional, required, nothing_left, number}
use Rattle.gser_tree.specs.Writing.{text_of}
use Rattle.subtree_spec.specs.declared.error.BadText.{BadText}
use Rattle.subtree_spec.specs.SubtreePrinted.{print_subtree}
use Rattle.subtree_spec.specs.SubtreeText.{there, judged}
use Rattle.aci_item.specs.item.Items.{UserClasses, ProtectedItems, ItemPermission, UserPermission, First, ItemFirst, UserFirst, Item}
use Rattle.aci_item.specs.members.ItemParts.{level, bits, user, kind, kind_and_value, class_subtree, flagged}
use Rattle.aci_item.specs.members.Limits.{max_value_count, restricted_value}
use Rattle.aci_item.specs.ItemPrinted.{print_user, print_kind, print_value, print_max_value_count, print_restricted_value, print_item_permission, print_user_permission}
use Rattle.aci_item.specs.Sets.{put_member, gather_into}

-- SET OF: the members in the order of their printed texts, of equal ones the first
abbrev pub sorted_set : {A : Type 0} → (A → List Lexeme) → (Shape → Read A) → Shape → Read (List A)
sorted_set print reader shape = expect (members_in shape) >>= gather_into (put_member (λ value. text_of (print value))) reader []

-- UserClasses
unfoldable pub classes : Shape → Read UserClasses
classes shape = do
  components ← expect (members_in shape)
  all ← flagged (codes "allUsers") components
  this_entry ← flagged (codes "thisEntry") all.rest
  names ← optional (codes "name") [] (sorted_set print_user user) this_entry.rest
  groups ← optional (codes "userGroup") [] (sorted_set print_user user) names.rest
  subtrees ← optional (codes "subtree") [] (sorted_set print_subtree class_subtree) groups.rest
  nothing_left subtrees.rest (record {
    all = all.value;
    this_entry = this_entry.value;
    names = names.value;
    groups = groups.value;
    subtrees = subtrees.value;
  })

-- SET OF AttributeType
abbrev pub kinds : Shape → Read (List ℕ)
kinds = sorted_set print_kind kind

-- ProtectedItems
unfoldable pub items : Shape → Read ProtectedItems
items shape = do
  components ← expect (members_in shape)
  entry ← flagged (codes "entry") components
  all_kinds ← flagged (codes "allUserAttributeTypes") entry.rest
  some_kinds ← optional (codes "attributeType") [] kinds all_kinds.rest
  all_values ← optional (codes "allAttributeValues") [] kinds some_kinds.rest
  all_kinds_and_values ← flagged (codes "allUserAttributeTypesAndValues") all_values.rest
  values ← optional (codes "attributeValue") [] (sorted_set print_value kind_and_value) all_kinds_and_values.rest
  self_values ← optional (codes "selfValue") [] kinds values.rest
  max_counts ← optional (codes "maxValueCount") [] (sorted_set print_max_value_count max_value_count) self_values.rest
  restricted ← optional (codes "restrictedBy") [] (sorted_set print_restricted_value restricted_value) max_counts.rest
  nothing_left restricted.rest (record {
    entry = entry.value;
    all_kinds = all_kinds.value;
    kinds = some_kinds.value;
    all_values = all_values.value;
    all_kinds_and_values = all_kinds_and_values.value;
    values = values.value;
    self_values = self_values.value;
    max_counts = max_counts.value;
    restricted = restricted.value;
  })

-- Precedence ::= INTEGER (0..255)
abbrev pub precedence : Shape → Read ℕ
precedence = number 255

-- ItemPermission
unfoldable pub item_permission : Shape → Read ItemPermission
item_permission shape = do
  components ← expect (members_in shape)
  own ← optional (codes "precedence") None (there precedence) components
  users ← required (codes "userClasses") classes own.rest
  granted ← required (codes "grantsAndDenials") bits users.rest
  nothing_left granted.rest (record { precedence = own.value; classes = users.value; bits = granted.value })

-- UserPermission
unfoldable pub user_permission : Shape → Read UserPermission
user_permission shape = do
  components ← expect (members_in shape)
  own ← optional (codes "precedence") None (there precedence) components
  protected ← required (codes "protectedItems") items own.rest
  granted ← required (codes "grantsAndDenials") bits protected.rest
  nothing_left granted.rest (record { precedence = own.value; items = protected.value; bits = granted.value })

-- itemFirst [0] SEQUENCE { protectedItems, itemPermissions }
unfoldable pub item_first : Shape → Read First
item_first shape = do
  components ← expect (members_in shape)
  protected ← required (codes "protectedItems") items components
  permissions ← required (codes "itemPermissions") (sorted_set print_item_permission item_permission) protected.rest
  nothing_left permissions.rest (ItemFirst protected.value permissions.value)

-- userFirst [1] SEQUENCE { userClasses, userPermissions }
unfoldable pub user_first : Shape → Read First
user_first shape = do
  components ← expect (members_in shape)
  users ← required (codes "userClasses") classes components
  permissions ← required (codes "userPermissions") (sorted_set print_user_permission user_permission) users.rest
  nothing_left permissions.rest (UserFirst users.value permissions.value)

-- itemOrUserFirst
unfoldable pub first : Shape → Read First
first shape = expect (chosen_in shape) >>= λ chosen.
    if bytes_eq chosen.0.text (codes "itemFirst") then item_first chosen.1
    else if bytes_eq chosen.0.text (codes "userFirst") then user_first chosen.1
    else λ bad. None

-- DirectoryString
abbrev pub tag : Shape → Read (List ℕ)
tag shape = expect (string_in shape) >>= λ string. give string.text

-- ACIItem
unfoldable pub aci_item : Shape → Read Item
aci_item shape = do
  components ← expect (members_in shape)
  name ← required (codes "identificationTag") tag components
  rank ← required (codes "precedence") precedence name.rest
  least ← required (codes "authenticationLevel") level rank.rest
  begins ← required (codes "itemOrUserFirst") first least.rest
  nothing_left begins.rest (record { tag = name.value; precedence = rank.value; level = least.value; first = begins.value })

-- the text is written for a value that reads as the item, and no part of it is bad
pub record AciText (item : Item) (text : List ℕ) : Type 0 where
  pub shape : Shape
  pub written : IsTextOf shape text
  pub reads : aci_item shape None ≡ Some (record { value = item; bad = None })

-- the item of a text, or the fault
unfoldable pub read_item : List ℕ → Result Item BadText
read_item text = judged (option_and_then (λ shape. aci_item shape None) (tree_of text))

-- the item of a text; None where it has none
unfoldable pub item_of : List ℕ → Option Item
item_of text = result_ok (read_item text)
