-- What is read as an item, with no bad part, is good.
use Rattle.std.proofs.Common.{◌≡◌, ◌≤◌, ℕ, Bool, true, List, [], codes}
use Rattle.std.specs.Prelude.{Option, None}
use Rattle.std.specs.Str.{bytes_eq, is_utf8}
use Rattle.dir_tree.specs.schema_tables.Attributes.{IsAttrId}
use Rattle.dir_tree.specs.dn_names.name.GoodNames.{IsGoodName}
use Rattle.dir_tree.specs.dn_names.name.Names.{RdnSequence, TypeAndValue}
use Rattle.gser_tree.specs.declared.part.Part.{Part}
use Rattle.gser_tree.specs.looking.Looking.{chosen_in, string_in}
use Rattle.gser_tree.specs.Reading.{expect, give}
use Rattle.gser_tree.specs.looking.Shapes.{Shape}
use Rattle.gser_tree.proofs.Theorems.{gives_both, gives_choice, gives_end, gives_expected, gives_nothing, gives_value, gives_weaker}
use Rattle.subtree_spec.specs.GoodSubtrees.{IfThere}
use Rattle.subtree_spec.specs.SubtreePrinted.{print_subtree}
use Rattle.subtree_spec.specs.SubtreeText.{there}
use Rattle.subtree_spec.specs.Subtrees.{Subtree}
use Rattle.aci_item.specs.declared.level.Level.{Level}
use Rattle.aci_item.specs.AciText.{aci_item, classes, first, item_first, item_permission, items, kinds, precedence, sorted_set, tag, user_first, user_permission}
use Rattle.aci_laws.specs.GoodItems.{AreGoodBits, IsGoodClasses, IsGoodClassSubtree, IsGoodFirst, IsGoodItem, IsGoodItemPermission, IsGoodItems, IsGoodMaxValueCount, IsGoodRestrictedValue, IsGoodUserPermission, IsGoodValue, IsSetOf}
use Rattle.aci_item.specs.members.ItemParts.{bits, class_subtree, kind, kind_and_value, level, user}
use Rattle.aci_item.specs.members.Limits.{max_value_count, restricted_value}
use Rattle.aci_item.specs.ItemPrinted.{print_item_permission, print_kind, print_max_value_count, print_restricted_value, print_user, print_user_permission, print_value}
use Rattle.aci_item.specs.item.Items.{ItemPermission, UserPermission, ItemFirst, UserFirst}
use Rattle.aci_laws.proofs.laws.OnlyLemmas.{OnlyTexts, gives_flagged, gives_members, gives_next, gives_optional_texts, gives_required_texts, no_members, set_is_good}
use Rattle.aci_laws.proofs.laws.PartOnly.{bits_are_good, kind_is_good, level_is_good, own_is_good, precedence_is_good, user_is_good, value_is_good}
use Rattle.aci_laws.proofs.laws.LimitOnly.{AreMaxValueCounts, AreRestrictedValues, max_value_counts_are_good, restricted_values_are_good}
use Rattle.aci_laws.proofs.laws.SubtreeOnly.{class_subtree_is_good}
use Rattle.aci_laws.proofs.laws.StringLemmas.{HasTexts, chosen_texts, string_text}

abbrev IsFlag : Bool → Type 0
IsFlag value = Unit {0}

abbrev IsText : List ℕ → Type 0
IsText text = is_utf8 text ≡ true

abbrev IsPrecedence : ℕ → Type 0
IsPrecedence number = number ≤ 255

-- ---- sets

abbrev AreUsers : List RdnSequence → Type 0
AreUsers users = IsSetOf print_user IsGoodName users

abbrev AreSubtrees : List Subtree → Type 0
AreSubtrees subtrees = IsSetOf print_subtree IsGoodClassSubtree subtrees

abbrev AreKinds : List ℕ → Type 0
AreKinds numbers = IsSetOf print_kind IsAttrId numbers

abbrev AreValues : List TypeAndValue → Type 0
AreValues values = IsSetOf print_value IsGoodValue values

abbrev AreItemPermissions : List ItemPermission → Type 0
AreItemPermissions permissions = IsSetOf print_item_permission IsGoodItemPermission permissions

abbrev AreUserPermissions : List UserPermission → Type 0
AreUserPermissions permissions = IsSetOf print_user_permission IsGoodUserPermission permissions

users_are_good : OnlyTexts AreUsers (sorted_set print_user user)
users_are_good shape = set_is_good print_user IsGoodName user user_is_good shape

subtrees_are_good : OnlyTexts AreSubtrees (sorted_set print_subtree class_subtree)
subtrees_are_good shape = set_is_good print_subtree IsGoodClassSubtree class_subtree class_subtree_is_good shape

kinds_are_good : OnlyTexts AreKinds kinds
kinds_are_good shape = set_is_good print_kind IsAttrId kind kind_is_good shape

values_are_good : OnlyTexts AreValues (sorted_set print_value kind_and_value)
values_are_good shape = set_is_good print_value IsGoodValue kind_and_value value_is_good shape

no_users : AreUsers []
no_users = no_members print_user IsGoodName

no_kinds : AreKinds []
no_kinds = no_members print_kind IsAttrId

-- ---- user classes and protected items

classes_are_good : OnlyTexts IsGoodClasses classes
unfolding classes
classes_are_good shape =
    gives_members IsGoodClasses shape _
    (λ members. gives_next IsFlag _ members _ _
    (gives_flagged (codes "allUsers") members)
    (λ all. gives_next IsFlag _ all.rest _ _
    (gives_flagged (codes "thisEntry") all.rest)
    (λ this. gives_next AreUsers _ this.rest _ _
    (gives_optional_texts AreUsers (codes "name") [] (sorted_set print_user user) this.rest no_users users_are_good)
    (λ names. gives_next AreUsers _ names.rest _ _
    (gives_optional_texts AreUsers (codes "userGroup") [] (sorted_set print_user user) names.rest no_users users_are_good)
    (λ groups. gives_next AreSubtrees _ groups.rest _ _
    (gives_optional_texts AreSubtrees (codes "subtree") [] (sorted_set print_subtree class_subtree) groups.rest (no_members print_subtree IsGoodClassSubtree) subtrees_are_good)
    (λ subtrees. gives_end _ subtrees.rest
    (record { all = all.value; this_entry = this.value; names = names.value; groups = groups.value; subtrees = subtrees.value })
    (λ texts subtrees_good groups_good names_good this_good all_good. record { names = names_good; groups = groups_good; subtrees = subtrees_good })))))))

items_are_good : OnlyTexts IsGoodItems items
unfolding items
items_are_good shape =
    gives_members IsGoodItems shape _
    (λ members. gives_next IsFlag _ members _ _
    (gives_flagged (codes "entry") members)
    (λ entry. gives_next IsFlag _ entry.rest _ _
    (gives_flagged (codes "allUserAttributeTypes") entry.rest)
    (λ all. gives_next AreKinds _ all.rest _ _
    (gives_optional_texts AreKinds (codes "attributeType") [] kinds all.rest no_kinds kinds_are_good)
    (λ some. gives_next AreKinds _ some.rest _ _
    (gives_optional_texts AreKinds (codes "allAttributeValues") [] kinds some.rest no_kinds kinds_are_good)
    (λ whole. gives_next IsFlag _ whole.rest _ _
    (gives_flagged (codes "allUserAttributeTypesAndValues") whole.rest)
    (λ both. gives_next AreValues _ both.rest _ _
    (gives_optional_texts AreValues (codes "attributeValue") [] (sorted_set print_value kind_and_value) both.rest (no_members print_value IsGoodValue) values_are_good)
    (λ values. gives_next AreKinds _ values.rest _ _
    (gives_optional_texts AreKinds (codes "selfValue") [] kinds values.rest no_kinds kinds_are_good)
    (λ selves. gives_next AreMaxValueCounts _ selves.rest _ _
    (gives_optional_texts AreMaxValueCounts (codes "maxValueCount") [] (sorted_set print_max_value_count max_value_count) selves.rest
    (no_members print_max_value_count IsGoodMaxValueCount) max_value_counts_are_good)
    (λ counts. gives_next AreRestrictedValues _ counts.rest _ _
    (gives_optional_texts AreRestrictedValues (codes "restrictedBy") [] (sorted_set print_restricted_value restricted_value) counts.rest
    (no_members print_restricted_value IsGoodRestrictedValue) restricted_values_are_good)
    (λ restricted. gives_end _ restricted.rest
    (record {
      entry = entry.value;
      all_kinds = all.value;
      kinds = some.value;
      all_values = whole.value;
      all_kinds_and_values = both.value;
      values = values.value;
      self_values = selves.value;
      max_counts = counts.value;
      restricted = restricted.value;
    })
    (λ texts restricted_good counts_good selves_good values_good both_good whole_good some_good all_good entry_good. record {
      kinds = some_good;
      all_values = whole_good;
      values = values_good;
      self_values = selves_good;
      max_counts = counts_good;
      restricted = restricted_good;
    })))))))))))

-- ---- permissions

abbrev IsOwn : Option ℕ → Type 0
IsOwn own = IfThere (λ number. number ≤ 255) own

item_permission_is_good : OnlyTexts IsGoodItemPermission item_permission
unfolding item_permission
item_permission_is_good shape =
    gives_members IsGoodItemPermission shape _
    (λ members. gives_next IsOwn _ members _ _
    (gives_optional_texts IsOwn (codes "precedence") None (there precedence) members tt own_is_good)
    (λ own. gives_next IsGoodClasses _ own.rest _ _
    (gives_required_texts IsGoodClasses (codes "userClasses") classes own.rest classes_are_good)
    (λ users. gives_next AreGoodBits _ users.rest _ _
    (gives_required_texts AreGoodBits (codes "grantsAndDenials") bits users.rest bits_are_good)
    (λ granted. gives_end _ granted.rest
    (record { precedence = own.value; classes = users.value; bits = granted.value })
    (λ texts granted_good users_good own_good. record { precedence = own_good; classes = users_good; bits = granted_good })))))

user_permission_is_good : OnlyTexts IsGoodUserPermission user_permission
unfolding user_permission
user_permission_is_good shape =
    gives_members IsGoodUserPermission shape _
    (λ members. gives_next IsOwn _ members _ _
    (gives_optional_texts IsOwn (codes "precedence") None (there precedence) members tt own_is_good)
    (λ own. gives_next IsGoodItems _ own.rest _ _
    (gives_required_texts IsGoodItems (codes "protectedItems") items own.rest items_are_good)
    (λ protected. gives_next AreGoodBits _ protected.rest _ _
    (gives_required_texts AreGoodBits (codes "grantsAndDenials") bits protected.rest bits_are_good)
    (λ granted. gives_end _ granted.rest
    (record { precedence = own.value; items = protected.value; bits = granted.value })
    (λ texts granted_good protected_good own_good. record { precedence = own_good; items = protected_good; bits = granted_good })))))

item_permissions_are_good : OnlyTexts AreItemPermissions (sorted_set print_item_permission item_permission)
item_permissions_are_good shape = set_is_good print_item_permission IsGoodItemPermission item_permission item_permission_is_good shape

user_permissions_are_good : OnlyTexts AreUserPermissions (sorted_set print_user_permission user_permission)
user_permissions_are_good shape = set_is_good print_user_permission IsGoodUserPermission user_permission user_permission_is_good shape

-- ---- what an item begins with

item_first_is_good : OnlyTexts IsGoodFirst item_first
unfolding item_first
item_first_is_good shape =
    gives_members IsGoodFirst shape _
    (λ members. gives_next IsGoodItems _ members _ _
    (gives_required_texts IsGoodItems (codes "protectedItems") items members items_are_good)
    (λ protected. gives_next AreItemPermissions _ protected.rest _ _
    (gives_required_texts AreItemPermissions (codes "itemPermissions") (sorted_set print_item_permission item_permission) protected.rest item_permissions_are_good)
    (λ permissions. gives_end _ permissions.rest
    (ItemFirst protected.value permissions.value)
    (λ texts permissions_good protected_good. (protected_good, permissions_good)))))

user_first_is_good : OnlyTexts IsGoodFirst user_first
unfolding user_first
user_first_is_good shape =
    gives_members IsGoodFirst shape _
    (λ members. gives_next IsGoodClasses _ members _ _
    (gives_required_texts IsGoodClasses (codes "userClasses") classes members classes_are_good)
    (λ users. gives_next AreUserPermissions _ users.rest _ _
    (gives_required_texts AreUserPermissions (codes "userPermissions") (sorted_set print_user_permission user_permission) users.rest user_permissions_are_good)
    (λ permissions. gives_end _ permissions.rest
    (UserFirst users.value permissions.value)
    (λ texts permissions_good users_good. (users_good, permissions_good)))))

first_is_good : OnlyTexts IsGoodFirst first
unfolding first
first_is_good shape =
    gives_both (λ (chosen : Part × Shape). HasTexts shape → HasTexts chosen.1) (λ value. HasTexts shape → IsGoodFirst value) (expect (chosen_in shape)) _
    (gives_expected (λ (chosen : Part × Shape). HasTexts shape → HasTexts chosen.1) (chosen_in shape) (λ chosen is. chosen_texts shape chosen is))
    (λ chosen. gives_weaker (λ value. HasTexts chosen.1 → IsGoodFirst value)
    (λ value. (HasTexts shape → HasTexts chosen.1) → HasTexts shape → IsGoodFirst value) _ (λ value h k texts. h (k texts))
    (gives_choice (λ value. HasTexts chosen.1 → IsGoodFirst value) (bytes_eq chosen.0.text (codes "itemFirst")) _ _ (λ _. item_first_is_good chosen.1)
    (λ _. gives_choice (λ value. HasTexts chosen.1 → IsGoodFirst value) (bytes_eq chosen.0.text (codes "userFirst")) _ _ (λ _. user_first_is_good chosen.1)
    (λ _. gives_nothing (λ value. HasTexts chosen.1 → IsGoodFirst value)))))

-- ---- items

tag_is_good : OnlyTexts IsText tag
tag_is_good shape =
    gives_both (λ (string : Part). HasTexts shape → is_utf8 string.text ≡ true) (λ text. HasTexts shape → is_utf8 text ≡ true) (expect (string_in shape))
    (λ (string : Part). give string.text)
    (gives_expected (λ (string : Part). HasTexts shape → is_utf8 string.text ≡ true) (string_in shape) (λ string is. string_text shape string is))
    (λ string. gives_value (λ text. (HasTexts shape → is_utf8 string.text ≡ true) → HasTexts shape → is_utf8 text ≡ true) string.text (λ h. h))

abbrev IsLevel : Level → Type 0
IsLevel value = Unit {0}

pub item_is_good : OnlyTexts IsGoodItem aci_item
unfolding aci_item
item_is_good shape =
    gives_members IsGoodItem shape _
    (λ members. gives_next IsText _ members _ _
    (gives_required_texts IsText (codes "identificationTag") tag members tag_is_good)
    (λ name. gives_next IsPrecedence _ name.rest _ _
    (gives_required_texts IsPrecedence (codes "precedence") precedence name.rest precedence_is_good)
    (λ rank. gives_next IsLevel _ rank.rest _ _
    (gives_required_texts IsLevel (codes "authenticationLevel") level rank.rest level_is_good)
    (λ least. gives_next IsGoodFirst _ least.rest _ _
    (gives_required_texts IsGoodFirst (codes "itemOrUserFirst") first least.rest first_is_good)
    (λ begins. gives_end _ begins.rest
    (record { tag = name.value; precedence = rank.value; level = least.value; first = begins.value })
    (λ texts begins_good least_good rank_good name_good. record { tag = name_good; precedence = rank_good; first = begins_good }))))))
