-- A value that is read as an item is at most 71 deep.
use Rattle.std.proofs.Common.{◌≡◌, ℕ, ◌≤◌, Bool, true, false, List, [], refl, ap, ◌∙◌, subst, codes, arith}
use Rattle.std.specs.Prelude.{Option, Some, None, Result, Ok, find, if◌then◌else◌}
use Rattle.std.specs.Str.{bytes_eq}
use Rattle.dir_tree.specs.plain_values.Answers.{Answers}
use Rattle.gser_tree.specs.declared.part.Part.{Part}
use Rattle.gser_tree.specs.looking.Shapes.{Shape, nest}
use Rattle.gser_tree.specs.looking.Looking.{members_in, chosen_in}
use Rattle.gser_tree.specs.Reading.{give, expect, part}
use Rattle.gser_tree.proofs.Theorems.{Shallow, both_read, was_there, chosen_nest, members_nest, number_is_shallow}
use Rattle.dir_tree.specs.dn_names.NameValues.{value_of}
use Rattle.subtree_spec.specs.declared.error.BadText.{BadText}
use Rattle.subtree_spec.specs.Parts.{name}
use Rattle.subtree_spec.specs.SubtreePrinted.{print_subtree}
use Rattle.subtree_spec.specs.SubtreeText.{subtree, there, judged, fault_of}
use Rattle.subtree_spec.proofs.Theorems.{subtree_is_shallow}
use Rattle.aci_item.specs.declared.item.AciItem.{AciItem}
use Rattle.aci_item.specs.AciText.{sorted_set, classes, kinds, items, precedence, item_permission, user_permission, item_first, user_first, first, tag, aci_item, AciText, read_item}
use Rattle.aci_item.specs.members.ItemParts.{level_word, basic_levels, level_by, level, bit, bits, named_user, user_by, user, kind, no_octets, assertion, kind_and_value, unrefined, class_subtree}
use Rattle.aci_item.specs.members.Limits.{max_value_count, restricted_value}
use Rattle.aci_item.specs.ItemPrinted.{level_name, bit_name, print_user, print_kind, print_value, print_max_value_count, print_restricted_value, print_item_permission, print_user_permission}
use Rattle.aci_item.specs.item.Items.{Item, ItemFirst, UserFirst}
use Rattle.aci_item.specs.Level.{levels}
use Rattle.aci_item.specs.Permission.{all_bits, put_bit}
use Rattle.aci_item.specs.Sets.{gather_into}
use Rattle.aci_item.specs.item.Views.{item_of_code}
use Rattle.aci_item.proofs.reading.ReadLemmas.{reads_shape}
use Rattle.aci_item.proofs.reading.NestedLemmas.{Bounds, in_braces, next_bounds, end_bounds, optional_leaves, required_leaves, flagged_leaves, gathered_bounds, set_is_shallow, word_is_shallow, string_is_shallow, name_is_shallow, kind_is_shallow}
use Rattle.aci_item.proofs.reading.LimitNested.{max_value_counts_are_shallow, restricted_values_are_shallow}

-- ---- words and strings

tag_is_shallow : Shallow 0 tag
tag_is_shallow shape = string_is_shallow (λ string. give string.text) shape

assertion_is_shallow : (kind : ℕ) → Shallow 0 (assertion kind)
unfolding assertion
assertion_is_shallow kind shape = string_is_shallow (λ string. part string.place no_octets (value_of kind string.text)) shape

level_word_is_shallow : Shallow 0 level_word
unfolding level_word
level_word_is_shallow shape = word_is_shallow (λ word. expect (find (λ level. bytes_eq word.text (level_name level)) levels)) shape

bit_is_shallow : Shallow 0 bit
unfolding bit
bit_is_shallow shape = word_is_shallow (λ word. expect (find (λ bit. bytes_eq word.text (bit_name bit)) all_bits)) shape

-- ---- parts

basic_levels_is_shallow : Shallow 1 basic_levels
unfolding basic_levels
basic_levels_is_shallow shape =
    in_braces 0 shape _
    (λ members. next_bounds 0 members _ _ (required_leaves 0 0 (codes "level") level_word members level_word_is_shallow (omega arith))
    (λ level. end_bounds 0 level.rest level.value))

level_is_shallow : Shallow 1 level
unfolding level
level_is_shallow shape bad found h = inner (chosen_in shape) refl h
  where
    basic : (value : Shape) (b : Bool) → (if b then basic_levels value else λ bad. None) bad ≡ Some found → nest value ≤ 1
    basic value true h = basic_levels_is_shallow value bad found h
    basic value false h = cc

    inner : (chosen : Option (Part × Shape)) → chosen_in shape ≡ chosen → level_by chosen shape bad ≡ Some found → nest shape ≤ 1
    inner None is h = let none = level_word_is_shallow shape bad found h in omega (arith, none)
    inner (Some chosen) is h =
        let same = chosen_nest shape chosen is in
        let low = basic chosen.1 (bytes_eq chosen.0.text (codes "basicLevels")) h in
        omega (arith, same, low)

bits_are_shallow : Shallow 1 bits
unfolding bits
bits_are_shallow shape = in_braces 0 shape (gather_into put_bit bit []) (λ members. gathered_bounds 0 put_bit bit bit_is_shallow members [])

named_user_bounds : (members : List Shape) → Bounds 0 members (named_user members)
unfolding named_user
named_user_bounds members =
    next_bounds 0 members _ _ (required_leaves 0 0 (codes "dn") name members name_is_shallow (omega arith)) (λ dn. end_bounds 0 dn.rest dn.value)

user_is_shallow : Shallow 1 user
unfolding user
user_is_shallow shape bad found h = inner (members_in shape) refl h
  where
    inner : (members : Option (List Shape)) → members_in shape ≡ members → user_by members shape bad ≡ Some found → nest shape ≤ 1
    inner None is h = let none = name_is_shallow shape bad found h in omega (arith, none)
    inner (Some members) is h =
        let same = members_nest shape members is in
        let low = named_user_bounds members bad found h in
        omega (arith, same, low)

value_is_shallow : Shallow 1 kind_and_value
unfolding kind_and_value
value_is_shallow shape =
    in_braces 0 shape _
    (λ members. next_bounds 0 members _ _ (required_leaves 0 0 (codes "type") kind members kind_is_shallow (omega arith))
    (λ kind. next_bounds 0 kind.rest _ _ (required_leaves 0 0 (codes "value") (assertion kind.value) kind.rest (assertion_is_shallow kind.value) (omega arith))
    (λ value. end_bounds 0 value.rest (record { kind = kind.value; value = value.value }))))

class_subtree_is_shallow : Shallow 65 class_subtree
unfolding class_subtree
class_subtree_is_shallow shape bad found h =
    let read = both_read (subtree shape) (λ spec. unrefined shape spec spec.filter) bad found h in subtree_is_shallow shape bad read.0 read.1

precedence_is_shallow : Shallow 0 precedence
precedence_is_shallow shape = number_is_shallow 0 255 shape

own_is_shallow : Shallow 0 (there precedence)
own_is_shallow shape bad found h =
    let read = both_read (precedence shape) (λ value. give (Some value)) bad found h in precedence_is_shallow shape bad read.0 read.1

-- ---- user classes and protected items

users_are_shallow : Shallow 2 (sorted_set print_user user)
users_are_shallow shape = set_is_shallow 1 print_user user user_is_shallow shape

subtrees_are_shallow : Shallow 66 (sorted_set print_subtree class_subtree)
subtrees_are_shallow shape = set_is_shallow 65 print_subtree class_subtree class_subtree_is_shallow shape

kinds_are_shallow : Shallow 1 kinds
kinds_are_shallow shape = set_is_shallow 0 print_kind kind kind_is_shallow shape

values_are_shallow : Shallow 2 (sorted_set print_value kind_and_value)
values_are_shallow shape = set_is_shallow 1 print_value kind_and_value value_is_shallow shape

classes_are_shallow : Shallow 67 classes
unfolding classes
classes_are_shallow shape =
    in_braces 66 shape _
    (λ members. next_bounds 66 members _ _ (flagged_leaves 66 (codes "allUsers") members)
    (λ all. next_bounds 66 all.rest _ _ (flagged_leaves 66 (codes "thisEntry") all.rest)
    (λ this. next_bounds 66 this.rest _ _ (optional_leaves 2 66 (codes "name") [] (sorted_set print_user user) this.rest users_are_shallow (omega arith))
    (λ names. next_bounds 66 names.rest _ _ (optional_leaves 2 66 (codes "userGroup") [] (sorted_set print_user user) names.rest users_are_shallow (omega arith))
    (λ groups. next_bounds 66 groups.rest _ _
    (optional_leaves 66 66 (codes "subtree") [] (sorted_set print_subtree class_subtree) groups.rest subtrees_are_shallow (omega arith))
    (λ subtrees. end_bounds 66 subtrees.rest
    (record { all = all.value; this_entry = this.value; names = names.value; groups = groups.value; subtrees = subtrees.value })))))))

items_are_shallow : Shallow 3 items
unfolding items
items_are_shallow shape =
    in_braces 2 shape _
    (λ members. next_bounds 2 members _ _ (flagged_leaves 2 (codes "entry") members)
    (λ entry. next_bounds 2 entry.rest _ _ (flagged_leaves 2 (codes "allUserAttributeTypes") entry.rest)
    (λ all. next_bounds 2 all.rest _ _ (optional_leaves 1 2 (codes "attributeType") [] kinds all.rest kinds_are_shallow (omega arith))
    (λ some. next_bounds 2 some.rest _ _ (optional_leaves 1 2 (codes "allAttributeValues") [] kinds some.rest kinds_are_shallow (omega arith))
    (λ whole. next_bounds 2 whole.rest _ _ (flagged_leaves 2 (codes "allUserAttributeTypesAndValues") whole.rest)
    (λ both. next_bounds 2 both.rest _ _
    (optional_leaves 2 2 (codes "attributeValue") [] (sorted_set print_value kind_and_value) both.rest values_are_shallow (omega arith))
    (λ values. next_bounds 2 values.rest _ _ (optional_leaves 1 2 (codes "selfValue") [] kinds values.rest kinds_are_shallow (omega arith))
    (λ selves. next_bounds 2 selves.rest _ _
    (optional_leaves 2 2 (codes "maxValueCount") [] (sorted_set print_max_value_count max_value_count) selves.rest max_value_counts_are_shallow (omega arith))
    (λ counts. next_bounds 2 counts.rest _ _
    (optional_leaves 2 2 (codes "restrictedBy") [] (sorted_set print_restricted_value restricted_value) counts.rest restricted_values_are_shallow (omega arith))
    (λ restricted. end_bounds 2 restricted.rest
    (record {
      entry = entry.value;
      all_kinds = all.value;
      kinds = some.value;
      all_values = whole.value;
      all_kinds_and_values = both.value;
      values = values.value;
      self_values = selves.value;
      max_counts = counts.value;
      restricted = restricted.value;
    })))))))))))

-- ---- permissions

item_permission_is_shallow : Shallow 68 item_permission
unfolding item_permission
item_permission_is_shallow shape =
    in_braces 67 shape _
    (λ members. next_bounds 67 members _ _ (optional_leaves 0 67 (codes "precedence") None (there precedence) members own_is_shallow (omega arith))
    (λ own. next_bounds 67 own.rest _ _ (required_leaves 67 67 (codes "userClasses") classes own.rest classes_are_shallow (omega arith))
    (λ users. next_bounds 67 users.rest _ _ (required_leaves 1 67 (codes "grantsAndDenials") bits users.rest bits_are_shallow (omega arith))
    (λ granted. end_bounds 67 granted.rest (record { precedence = own.value; classes = users.value; bits = granted.value })))))

user_permission_is_shallow : Shallow 4 user_permission
unfolding user_permission
user_permission_is_shallow shape =
    in_braces 3 shape _
    (λ members. next_bounds 3 members _ _ (optional_leaves 0 3 (codes "precedence") None (there precedence) members own_is_shallow (omega arith))
    (λ own. next_bounds 3 own.rest _ _ (required_leaves 3 3 (codes "protectedItems") items own.rest items_are_shallow (omega arith))
    (λ protected. next_bounds 3 protected.rest _ _ (required_leaves 1 3 (codes "grantsAndDenials") bits protected.rest bits_are_shallow (omega arith))
    (λ granted. end_bounds 3 granted.rest (record { precedence = own.value; items = protected.value; bits = granted.value })))))

item_permissions_are_shallow : Shallow 69 (sorted_set print_item_permission item_permission)
item_permissions_are_shallow shape = set_is_shallow 68 print_item_permission item_permission item_permission_is_shallow shape

user_permissions_are_shallow : Shallow 5 (sorted_set print_user_permission user_permission)
user_permissions_are_shallow shape = set_is_shallow 4 print_user_permission user_permission user_permission_is_shallow shape

-- ---- what an item begins with

item_first_is_shallow : Shallow 70 item_first
unfolding item_first
item_first_is_shallow shape =
    in_braces 69 shape _
    (λ members. next_bounds 69 members _ _ (required_leaves 3 69 (codes "protectedItems") items members items_are_shallow (omega arith))
    (λ protected. next_bounds 69 protected.rest _ _
    (required_leaves 69 69 (codes "itemPermissions") (sorted_set print_item_permission item_permission) protected.rest item_permissions_are_shallow (omega arith))
    (λ permissions. end_bounds 69 permissions.rest (ItemFirst protected.value permissions.value))))

user_first_is_shallow : Shallow 70 user_first
unfolding user_first
user_first_is_shallow shape =
    in_braces 69 shape _
    (λ members. next_bounds 69 members _ _ (required_leaves 67 69 (codes "userClasses") classes members classes_are_shallow (omega arith))
    (λ users. next_bounds 69 users.rest _ _
    (required_leaves 5 69 (codes "userPermissions") (sorted_set print_user_permission user_permission) users.rest user_permissions_are_shallow (omega arith))
    (λ permissions. end_bounds 69 permissions.rest (UserFirst users.value permissions.value))))

first_is_shallow : Shallow 70 first
unfolding first
first_is_shallow shape bad found h =
    let read = both_read (expect (chosen_in shape)) _ bad found h in
    let same = chosen_nest shape read.0.value (was_there (chosen_in shape) bad read.0 read.1) in
    let inner = either read.0.value.1 (bytes_eq read.0.value.0.text (codes "itemFirst")) (bytes_eq read.0.value.0.text (codes "userFirst")) read.0.bad read.2 in
    omega (arith, same, inner)
  where
    either : (value : Shape) (b c : Bool) (bad : Option ℕ) → (if b then item_first value else if c then user_first value else λ bad. None) bad ≡ Some found
        → nest value ≤ 70
    either value true c bad h = item_first_is_shallow value bad found h
    either value false true bad h = user_first_is_shallow value bad found h
    either value false false bad h = cc

-- ---- items

item_is_shallow : Shallow 71 aci_item
unfolding aci_item
item_is_shallow shape =
    in_braces 70 shape _
    (λ members. next_bounds 70 members _ _ (required_leaves 0 70 (codes "identificationTag") tag members tag_is_shallow (omega arith))
    (λ name. next_bounds 70 name.rest _ _ (required_leaves 0 70 (codes "precedence") precedence name.rest precedence_is_shallow (omega arith))
    (λ rank. next_bounds 70 rank.rest _ _ (required_leaves 1 70 (codes "authenticationLevel") level rank.rest level_is_shallow (omega arith))
    (λ least. next_bounds 70 least.rest _ _ (required_leaves 70 70 (codes "itemOrUserFirst") first least.rest first_is_shallow (omega arith))
    (λ begins. end_bounds 70 begins.rest
    (record { tag = name.value; precedence = rank.value; level = least.value; first = begins.value }))))))

-- a text that gives an item is read as it
read_item-AciText : (item : Item) (text : List ℕ) → AciText item text → read_item text ≡ Ok item
read_item-AciText item text given =
    let deep = item_is_shallow given.shape None (record { value = item; bad = None }) given.reads in
    reads_shape text given.shape given.written (omega (arith, deep)) ∙ ap judged given.reads

pub reads_given : (text : List ℕ) (result : Result AciItem BadText) → Answers item_of_code fault_of result (read_item text)
    → (item : Item) → AciText item text → Answers item_of_code fault_of result (Ok item)
reads_given text result h item given = subst (λ (r : Result Item BadText). Answers item_of_code fault_of result r) (read_item-AciText item text given) h
