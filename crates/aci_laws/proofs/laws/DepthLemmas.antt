-- The braces of a value that is read as an item stand at most 71 deep: 65 of a subtree, and six around it.
use Rattle.std.proofs.Common.{◌≡◌, ℕ, ◌≤◌, Bool, true, false, List, [], refl, codes, arith}
use Rattle.std.specs.Prelude.{Option, Some, None, find, if◌then◌else◌, option_and_then}
use Rattle.std.specs.Str.{bytes_eq}
use Rattle.dir_tree.specs.dn_names.NameValues.{value_of}
use Rattle.dir_tree.specs.schema_tables.Attributes.{attr_of}
use Rattle.gser_tree.specs.declared.part.Part.{Part}
use Rattle.gser_tree.specs.looking.Shapes.{Shape, nest}
use Rattle.gser_tree.specs.looking.Looking.{members_in, chosen_in}
use Rattle.gser_tree.specs.Reading.{give, expect, part}
use Rattle.gser_tree.proofs.Theorems.{Shallow, both_read, was_there, chosen_nest, members_nest, number_is_shallow}
use Rattle.subtree_spec.specs.Parts.{name, name_of, is_oid, oid}
use Rattle.subtree_spec.specs.SubtreePrinted.{print_subtree}
use Rattle.subtree_spec.specs.SubtreeText.{subtree, there}
use Rattle.subtree_spec.proofs.Theorems.{subtree_is_shallow}
use Rattle.aci_item.specs.AciText.{sorted_set, classes, kinds, items, precedence, item_permission, user_permission, item_first, user_first, first, tag, aci_item}
use Rattle.aci_item.specs.members.ItemParts.{level_word, basic_levels, level_by, level, bit, bits, named_user, user_by, user, kind, no_octets, assertion, kind_and_value, unrefined, class_subtree}
use Rattle.aci_item.specs.members.Limits.{of_same_syntax, kind_alike, count, max_value_count, restricted_value}
use Rattle.aci_item.specs.ItemPrinted.{level_name, bit_name, print_user, print_kind, print_value, print_max_value_count, print_restricted_value, print_item_permission, print_user_permission}
use Rattle.aci_item.specs.item.Items.{ItemFirst, UserFirst}
use Rattle.aci_item.specs.Level.{levels}
use Rattle.aci_item.specs.Permission.{all_bits, put_bit}
use Rattle.aci_laws.proofs.laws.BracesLemmas.{Bounds, in_braces, at_end, after_optional, after_required, after_flag, gathered_bounds, set_is_shallow, word_is_shallow, string_is_shallow}

-- words and strings
name_is_shallow : Shallow 0 name
unfolding name
name_is_shallow shape = string_is_shallow (λ string. part string.place [] (name_of string.text)) shape

tag_is_shallow : Shallow 0 tag
tag_is_shallow shape = string_is_shallow (λ string. give string.text) shape

assertion_is_shallow : (kind : ℕ) → Shallow 0 (assertion kind)
unfolding assertion
assertion_is_shallow kind shape = string_is_shallow (λ string. part string.place no_octets (value_of kind string.text)) shape

oid_is_shallow : Shallow 0 oid
unfolding oid
oid_is_shallow shape = word_is_shallow (λ word. if is_oid word.text then give word else λ bad. None) shape

kind_is_shallow : Shallow 0 kind
unfolding kind
kind_is_shallow shape bad found h =
    let read = both_read (oid shape) (λ word. part word.place 0 (attr_of word.text)) bad found h in oid_is_shallow shape bad read.0 read.1

kind_alike_is_shallow : (number : ℕ) → Shallow 0 (kind_alike number)
unfolding kind_alike
kind_alike_is_shallow number shape bad found h =
    let read = both_read (oid shape) (λ word. part word.place 0 (option_and_then (of_same_syntax number) (attr_of word.text))) bad found h in
    oid_is_shallow shape bad read.0 read.1

level_word_is_shallow : Shallow 0 level_word
unfolding level_word
level_word_is_shallow shape = word_is_shallow (λ word. expect (find (λ level. bytes_eq word.text (level_name level)) levels)) shape

bit_is_shallow : Shallow 0 bit
unfolding bit
bit_is_shallow shape = word_is_shallow (λ word. expect (find (λ bit. bytes_eq word.text (bit_name bit)) all_bits)) shape

count_is_shallow : Shallow 0 count
count_is_shallow shape = number_is_shallow 0 2147483647 shape

precedence_is_shallow : Shallow 0 precedence
precedence_is_shallow shape = number_is_shallow 0 255 shape

own_is_shallow : Shallow 0 (there precedence)
own_is_shallow shape bad found h =
    let read = both_read (precedence shape) (λ value. give (Some value)) bad found h in precedence_is_shallow shape bad read.0 read.1

-- levels and bits
basic_levels_is_shallow : Shallow 1 basic_levels
unfolding basic_levels
basic_levels_is_shallow shape =
    in_braces 0 shape _
    (λ members. after_required 0 0 (codes "level") level_word members _ level_word_is_shallow (omega arith)
    (λ level. at_end 0 level.rest level.value))

level_is_shallow : Shallow 1 level
unfolding level
level_is_shallow shape bad found h = inner (chosen_in shape) refl h
  where
    basic : (value : Shape) (b : Bool) → (if b then basic_levels value else λ bad. None) bad ≡ Some found → nest value ≤ 1
    basic value true h = basic_levels_is_shallow value bad found h
    basic value false h = cc

    inner : (chosen : Option (Part × Shape)) → chosen_in shape ≡ chosen → level_by chosen shape bad ≡ Some found → nest shape ≤ 1
    inner None is h = let none = level_word_is_shallow shape bad found h in omega (arith, none)
    inner (Some chosen) is h =
        let same = chosen_nest shape chosen is in
        let low = basic chosen.1 (bytes_eq chosen.0.text (codes "basicLevels")) h in
        omega (arith, same, low)

bits_are_shallow : Shallow 1 bits
unfolding bits
bits_are_shallow shape = in_braces 0 shape _ (λ members. gathered_bounds 0 put_bit bit bit_is_shallow members [])

-- members of sets
named_user_bounds : (members : List Shape) → Bounds 0 members (named_user members)
unfolding named_user
named_user_bounds members =
    after_required 0 0 (codes "dn") name members _ name_is_shallow (omega arith) (λ dn. at_end 0 dn.rest dn.value)

user_is_shallow : Shallow 1 user
unfolding user
user_is_shallow shape bad found h = inner (members_in shape) refl h
  where
    inner : (members : Option (List Shape)) → members_in shape ≡ members → user_by members shape bad ≡ Some found → nest shape ≤ 1
    inner None is h = let none = name_is_shallow shape bad found h in omega (arith, none)
    inner (Some members) is h =
        let same = members_nest shape members is in
        let low = named_user_bounds members bad found h in
        omega (arith, same, low)

value_is_shallow : Shallow 1 kind_and_value
unfolding kind_and_value
value_is_shallow shape =
    in_braces 0 shape _
    (λ members. after_required 0 0 (codes "type") kind members _ kind_is_shallow (omega arith)
    (λ kind. after_required 0 0 (codes "value") (assertion kind.value) kind.rest _ (assertion_is_shallow kind.value) (omega arith)
    (λ value. at_end 0 value.rest (record { kind = kind.value; value = value.value }))))

max_value_count_is_shallow : Shallow 1 max_value_count
unfolding max_value_count
max_value_count_is_shallow shape =
    in_braces 0 shape _
    (λ members. after_required 0 0 (codes "type") kind members _ kind_is_shallow (omega arith)
    (λ kind. after_required 0 0 (codes "maxCount") count kind.rest _ count_is_shallow (omega arith)
    (λ most. at_end 0 most.rest (record { kind = kind.value; max_count = most.value }))))

restricted_value_is_shallow : Shallow 1 restricted_value
unfolding restricted_value
restricted_value_is_shallow shape =
    in_braces 0 shape _
    (λ members. after_required 0 0 (codes "type") kind members _ kind_is_shallow (omega arith)
    (λ kind. after_required 0 0 (codes "valuesIn") (kind_alike kind.value) kind.rest _ (kind_alike_is_shallow kind.value) (omega arith)
    (λ other. at_end 0 other.rest (record { kind = kind.value; values_in = other.value }))))

class_subtree_is_shallow : Shallow 65 class_subtree
unfolding class_subtree
class_subtree_is_shallow shape bad found h =
    let read = both_read (subtree shape) (λ spec. unrefined shape spec spec.filter) bad found h in subtree_is_shallow shape bad read.0 read.1

-- user classes and protected items
kinds_are_shallow : Shallow 1 kinds
kinds_are_shallow shape = set_is_shallow 0 print_kind kind kind_is_shallow shape

users_are_shallow : Shallow 2 (sorted_set print_user user)
users_are_shallow shape = set_is_shallow 1 print_user user user_is_shallow shape

classes_are_shallow : Shallow 67 classes
unfolding classes
classes_are_shallow shape =
    in_braces 66 shape _
    (λ members. after_flag 66 (codes "allUsers") members _
    (λ all. after_flag 66 (codes "thisEntry") all.rest _
    (λ this. after_optional 2 66 (codes "name") [] (sorted_set print_user user) this.rest _ users_are_shallow (omega arith)
    (λ names. after_optional 2 66 (codes "userGroup") [] (sorted_set print_user user) names.rest _ users_are_shallow (omega arith)
    (λ groups. after_optional 66 66 (codes "subtree") [] (sorted_set print_subtree class_subtree) groups.rest _
    (λ one. set_is_shallow 65 print_subtree class_subtree class_subtree_is_shallow one) (omega arith)
    (λ subtrees. at_end 66 subtrees.rest
    (record { all = all.value; this_entry = this.value; names = names.value; groups = groups.value; subtrees = subtrees.value })))))))

items_are_shallow : Shallow 3 items
unfolding items
items_are_shallow shape =
    in_braces 2 shape _
    (λ members. after_flag 2 (codes "entry") members _
    (λ entry. after_flag 2 (codes "allUserAttributeTypes") entry.rest _
    (λ all. after_optional 1 2 (codes "attributeType") [] kinds all.rest _ kinds_are_shallow (omega arith)
    (λ some. after_optional 1 2 (codes "allAttributeValues") [] kinds some.rest _ kinds_are_shallow (omega arith)
    (λ whole. after_flag 2 (codes "allUserAttributeTypesAndValues") whole.rest _
    (λ both. after_optional 2 2 (codes "attributeValue") [] (sorted_set print_value kind_and_value) both.rest _
    (λ one. set_is_shallow 1 print_value kind_and_value value_is_shallow one) (omega arith)
    (λ values. after_optional 1 2 (codes "selfValue") [] kinds values.rest _ kinds_are_shallow (omega arith)
    (λ selves. after_optional 2 2 (codes "maxValueCount") [] (sorted_set print_max_value_count max_value_count) selves.rest _
    (λ one. set_is_shallow 1 print_max_value_count max_value_count max_value_count_is_shallow one) (omega arith)
    (λ counts. after_optional 2 2 (codes "restrictedBy") [] (sorted_set print_restricted_value restricted_value) counts.rest _
    (λ one. set_is_shallow 1 print_restricted_value restricted_value restricted_value_is_shallow one) (omega arith)
    (λ restricted. at_end 2 restricted.rest
    (record {
      entry = entry.value;
      all_kinds = all.value;
      kinds = some.value;
      all_values = whole.value;
      all_kinds_and_values = both.value;
      values = values.value;
      self_values = selves.value;
      max_counts = counts.value;
      restricted = restricted.value;
    })))))))))))

-- permissions
item_permission_is_shallow : Shallow 68 item_permission
unfolding item_permission
item_permission_is_shallow shape =
    in_braces 67 shape _
    (λ members. after_optional 0 67 (codes "precedence") None (there precedence) members _ own_is_shallow (omega arith)
    (λ own. after_required 67 67 (codes "userClasses") classes own.rest _ classes_are_shallow (omega arith)
    (λ users. after_required 1 67 (codes "grantsAndDenials") bits users.rest _ bits_are_shallow (omega arith)
    (λ granted. at_end 67 granted.rest (record { precedence = own.value; classes = users.value; bits = granted.value })))))

user_permission_is_shallow : Shallow 4 user_permission
unfolding user_permission
user_permission_is_shallow shape =
    in_braces 3 shape _
    (λ members. after_optional 0 3 (codes "precedence") None (there precedence) members _ own_is_shallow (omega arith)
    (λ own. after_required 3 3 (codes "protectedItems") items own.rest _ items_are_shallow (omega arith)
    (λ protected. after_required 1 3 (codes "grantsAndDenials") bits protected.rest _ bits_are_shallow (omega arith)
    (λ granted. at_end 3 granted.rest (record { precedence = own.value; items = protected.value; bits = granted.value })))))

-- what an item begins with
item_first_is_shallow : Shallow 70 item_first
unfolding item_first
item_first_is_shallow shape =
    in_braces 69 shape _
    (λ members. after_required 3 69 (codes "protectedItems") items members _ items_are_shallow (omega arith)
    (λ protected. after_required 69 69 (codes "itemPermissions") (sorted_set print_item_permission item_permission) protected.rest _
    (λ one. set_is_shallow 68 print_item_permission item_permission item_permission_is_shallow one) (omega arith)
    (λ permissions. at_end 69 permissions.rest (ItemFirst protected.value permissions.value))))

user_first_is_shallow : Shallow 70 user_first
unfolding user_first
user_first_is_shallow shape =
    in_braces 69 shape _
    (λ members. after_required 67 69 (codes "userClasses") classes members _ classes_are_shallow (omega arith)
    (λ users. after_required 5 69 (codes "userPermissions") (sorted_set print_user_permission user_permission) users.rest _
    (λ one. set_is_shallow 4 print_user_permission user_permission user_permission_is_shallow one) (omega arith)
    (λ permissions. at_end 69 permissions.rest (UserFirst users.value permissions.value))))

first_is_shallow : Shallow 70 first
unfolding first
first_is_shallow shape bad found h =
    let read = both_read (expect (chosen_in shape)) _ bad found h in
    let same = chosen_nest shape read.0.value (was_there (chosen_in shape) bad read.0 read.1) in
    let inner = either read.0.value.1 (bytes_eq read.0.value.0.text (codes "itemFirst")) (bytes_eq read.0.value.0.text (codes "userFirst")) read.0.bad read.2 in
    omega (arith, same, inner)
  where
    either : (value : Shape) (b c : Bool) (bad : Option ℕ) → (if b then item_first value else if c then user_first value else λ bad. None) bad ≡ Some found
        → nest value ≤ 70
    either value true c bad h = item_first_is_shallow value bad found h
    either value false true bad h = user_first_is_shallow value bad found h
    either value false false bad h = cc

-- an item
pub item_is_shallow : Shallow 71 aci_item
unfolding aci_item
item_is_shallow shape =
    in_braces 70 shape _
    (λ members. after_required 0 70 (codes "identificationTag") tag members _ tag_is_shallow (omega arith)
    (λ name. after_required 0 70 (codes "precedence") precedence name.rest _ precedence_is_shallow (omega arith)
    (λ rank. after_required 1 70 (codes "authenticationLevel") level rank.rest _ level_is_shallow (omega arith)
    (λ least. after_required 70 70 (codes "itemOrUserFirst") first least.rest _ first_is_shallow (omega arith)
    (λ begins. at_end 70 begins.rest
    (record { tag = name.value; precedence = rank.value; level = least.value; first = begins.value }))))))
