-- Printed permissions and items are read as they were.
use Rattle.std.proofs.Common.{◌≡◌, ℕ, true, List, [], ◌∷◌, ◌++◌, refl, arith}
use Rattle.std.specs.Prelude.{codes, map, Option, None, option_map}
use Rattle.gser_tree.specs.Lexemes.{Lexeme, class_of, is_word}
use Rattle.gser_tree.specs.Reading.{Read}
use Rattle.gser_tree.specs.looking.Shapes.{Shape}
use Rattle.gser_tree.specs.Writing.{print_braces, print_component, print_number, print_string}
use Rattle.gser_tree.proofs.Theorems.{listed_gathered, AreWritten, IsRead, OptionalRead, Prints, RequiredRead, braces_are_written, choice_is_written, none_are_written, optional_is_written, required_is_written, string_is_written, written_within}
use Rattle.subtree_spec.specs.SubtreeText.{there}
use Rattle.aci_item.specs.AciText.{aci_item, classes, first, item_first, item_permission, items, precedence, sorted_set, tag, user_first, user_permission}
use Rattle.aci_laws.specs.GoodItems.{IsGoodClasses, IsGoodFirst, IsGoodItem, IsGoodItemPermission, IsGoodItems, IsGoodUserPermission, IsSetOf}
use Rattle.aci_item.specs.members.ItemParts.{bits, level}
use Rattle.aci_item.specs.ItemPrinted.{print_bits, print_classes, print_first, print_item, print_item_first, print_item_permission, print_items, print_level, print_precedence, print_user_first, print_user_permission}
use Rattle.aci_item.specs.item.Items.{UserClasses, ProtectedItems, ItemPermission, UserPermission, First, ItemFirst, UserFirst, Item}
use Rattle.aci_item.specs.Permission.{Bit}
use Rattle.aci_laws.proofs.laws.BitPrints.{bits_print}
use Rattle.aci_laws.proofs.laws.ClassPrints.{classes_print}
use Rattle.aci_laws.proofs.laws.PartPrints.{level_prints, own_prints, precedence_prints}
use Rattle.aci_laws.proofs.laws.ProtectedPrints.{items_print}
use Rattle.aci_laws.proofs.laws.SetPrints.{set_prints}

-- ---- words

precedence_word : is_word (codes "precedence") ≡ true
unfolding class_of
precedence_word = refl

classes_word : is_word (codes "userClasses") ≡ true
unfolding class_of
classes_word = refl

items_word : is_word (codes "protectedItems") ≡ true
unfolding class_of
items_word = refl

bits_word : is_word (codes "grantsAndDenials") ≡ true
unfolding class_of
bits_word = refl

item_permissions_word : is_word (codes "itemPermissions") ≡ true
unfolding class_of
item_permissions_word = refl

user_permissions_word : is_word (codes "userPermissions") ≡ true
unfolding class_of
user_permissions_word = refl

item_first_word : is_word (codes "itemFirst") ≡ true
unfolding class_of
item_first_word = refl

user_first_word : is_word (codes "userFirst") ≡ true
unfolding class_of
user_first_word = refl

tag_word : is_word (codes "identificationTag") ≡ true
unfolding class_of
tag_word = refl

level_word : is_word (codes "authenticationLevel") ≡ true
unfolding class_of
level_word = refl

begins_word : is_word (codes "itemOrUserFirst") ≡ true
unfolding class_of
begins_word = refl

-- nothing is left
abbrev IsEnd : List Shape → Type 0
IsEnd members = members ≡ []

-- ---- permissions

abbrev FromBits : List Bit → List Shape → Type 0
FromBits values members = RequiredRead [] (codes "grantsAndDenials") bits values IsEnd members

abbrev FromPart : {A : Type 0} → List ℕ → (Shape → Read A) → A → List Bit → List Shape → Type 0
FromPart name reader value values members = RequiredRead (codes "precedence" ∷ []) name reader value (FromBits values) members

abbrev FromOwn : {A : Type 0} → List ℕ → (Shape → Read A) → A → List Bit → Option ℕ → List Shape → Type 0
FromOwn name reader value values own members = OptionalRead [] (codes "precedence") None (there precedence) own (FromPart name reader value values) members

pub item_permission_prints : (permission : ItemPermission) → IsGoodItemPermission permission
    → Prints 68 item_permission (print_item_permission permission) permission
unfolding item_permission print_item_permission
item_permission_prints permission good =
    braces_are_written 67 (FromOwn (codes "userClasses") classes permission.classes permission.bits permission.precedence) (IsRead item_permission permission)
    (print_precedence permission.precedence ++ (print_component (codes "userClasses") (print_classes permission.classes)
    ∷ print_component (codes "grantsAndDenials") (print_bits permission.bits) ∷ []))
    (optional_is_written 67 [] (codes "precedence") None (there precedence) (option_map print_number permission.precedence) permission.precedence
    (FromPart (codes "userClasses") classes permission.classes permission.bits)
    (print_component (codes "userClasses") (print_classes permission.classes) ∷ print_component (codes "grantsAndDenials") (print_bits permission.bits) ∷ [])
    precedence_word tt (λ members has. has.skips) (own_prints 67 permission.precedence good.precedence)
    (required_is_written 67 (codes "precedence" ∷ []) (codes "userClasses") classes (print_classes permission.classes) permission.classes (FromBits permission.bits)
    (print_component (codes "grantsAndDenials") (print_bits permission.bits) ∷ []) classes_word (refl, tt) (classes_print permission.classes good.classes)
    (required_is_written 67 [] (codes "grantsAndDenials") bits (print_bits permission.bits) permission.bits IsEnd [] bits_word tt
    (bits_print 66 permission.bits good.bits) (none_are_written 67 IsEnd refl))))
    (λ members has bad. rw (listed_gathered members, has.read bad, has.behind.read bad, has.behind.behind.read bad, has.behind.behind.behind) refl)

pub user_permission_prints : (permission : UserPermission) → IsGoodUserPermission permission
    → Prints 68 user_permission (print_user_permission permission) permission
unfolding user_permission print_user_permission
user_permission_prints permission good =
    braces_are_written 67 (FromOwn (codes "protectedItems") items permission.items permission.bits permission.precedence) (IsRead user_permission permission)
    (print_precedence permission.precedence ++ (print_component (codes "protectedItems") (print_items permission.items)
    ∷ print_component (codes "grantsAndDenials") (print_bits permission.bits) ∷ []))
    (optional_is_written 67 [] (codes "precedence") None (there precedence) (option_map print_number permission.precedence) permission.precedence
    (FromPart (codes "protectedItems") items permission.items permission.bits)
    (print_component (codes "protectedItems") (print_items permission.items) ∷ print_component (codes "grantsAndDenials") (print_bits permission.bits) ∷ [])
    precedence_word tt (λ members has. has.skips) (own_prints 67 permission.precedence good.precedence)
    (required_is_written 67 (codes "precedence" ∷ []) (codes "protectedItems") items (print_items permission.items) permission.items (FromBits permission.bits)
    (print_component (codes "grantsAndDenials") (print_bits permission.bits) ∷ []) items_word (refl, tt) (items_print permission.items good.items)
    (required_is_written 67 [] (codes "grantsAndDenials") bits (print_bits permission.bits) permission.bits IsEnd [] bits_word tt
    (bits_print 66 permission.bits good.bits) (none_are_written 67 IsEnd refl))))
    (λ members has bad. rw (listed_gathered members, has.read bad, has.behind.read bad, has.behind.behind.read bad, has.behind.behind.behind) refl)

-- ---- what an item begins with

-- two components, both of which are there
abbrev Both : {A B : Type 0} → List ℕ → (Shape → Read A) → A → List ℕ → (Shape → Read B) → B → List Shape → Type 0
Both name reader value other another last members = RequiredRead [] name reader value (RequiredRead [] other another last IsEnd) members

both_are_written : {A B : Type 0} (name : List ℕ) (reader : Shape → Read A) (value : A) (other : List ℕ) (another : Shape → Read B) (last : B)
    (lexemes behind : List Lexeme) → is_word name ≡ true → is_word other ≡ true → Prints 69 reader lexemes value → Prints 69 another behind last
    → AreWritten 69 (Both name reader value other another last) (print_component name lexemes ∷ print_component other behind ∷ [])
both_are_written name reader value other another last lexemes behind word next one two =
    required_is_written 69 [] name reader lexemes value (RequiredRead [] other another last IsEnd) (print_component other behind ∷ []) word tt one
    (required_is_written 69 [] other another behind last IsEnd [] next tt two (none_are_written 69 IsEnd refl))

item_first_prints : (protected : ProtectedItems) (permissions : List ItemPermission) → IsGoodItems protected
    → IsSetOf print_item_permission IsGoodItemPermission permissions
    → Prints 70 first (print_item_first protected permissions) (ItemFirst protected permissions)
unfolding first item_first
item_first_prints protected permissions good set =
    let printed = print_braces (map print_item_permission permissions) in
    let members = print_component (codes "protectedItems") (print_items protected) ∷ print_component (codes "itemPermissions") printed ∷ [] in
    choice_is_written 70 (IsRead item_first (ItemFirst protected permissions)) (IsRead first (ItemFirst protected permissions)) (codes "itemFirst")
    (print_braces members) item_first_word
    (braces_are_written 69
    (Both (codes "protectedItems") items protected (codes "itemPermissions") (sorted_set print_item_permission item_permission) permissions)
    (IsRead item_first (ItemFirst protected permissions)) members
    (both_are_written (codes "protectedItems") items protected (codes "itemPermissions") (sorted_set print_item_permission item_permission) permissions
    (print_items protected) printed items_word item_permissions_word
    (written_within 67 69 (IsRead items protected) (print_items protected) (omega arith) (items_print protected good))
    (set_prints 68 item_permission print_item_permission IsGoodItemPermission item_permission_prints permissions set))
    (λ members has bad. rw (listed_gathered members, has.read bad, has.behind.read bad, has.behind.behind) refl))
    (λ place shape read bad. read bad)

user_first_prints : (users : UserClasses) (permissions : List UserPermission) → IsGoodClasses users
    → IsSetOf print_user_permission IsGoodUserPermission permissions
    → Prints 70 first (print_user_first users permissions) (UserFirst users permissions)
unfolding first user_first
user_first_prints users permissions good set =
    let printed = print_braces (map print_user_permission permissions) in
    let members = print_component (codes "userClasses") (print_classes users) ∷ print_component (codes "userPermissions") printed ∷ [] in
    choice_is_written 70 (IsRead user_first (UserFirst users permissions)) (IsRead first (UserFirst users permissions)) (codes "userFirst")
    (print_braces members) user_first_word
    (braces_are_written 69
    (Both (codes "userClasses") classes users (codes "userPermissions") (sorted_set print_user_permission user_permission) permissions)
    (IsRead user_first (UserFirst users permissions)) members
    (both_are_written (codes "userClasses") classes users (codes "userPermissions") (sorted_set print_user_permission user_permission) permissions
    (print_classes users) printed classes_word user_permissions_word
    (written_within 67 69 (IsRead classes users) (print_classes users) (omega arith) (classes_print users good))
    (set_prints 68 user_permission print_user_permission IsGoodUserPermission user_permission_prints permissions set))
    (λ members has bad. rw (listed_gathered members, has.read bad, has.behind.read bad, has.behind.behind) refl))
    (λ place shape read bad. read bad)

first_prints : (value : First) → IsGoodFirst value → Prints 70 first (print_first value) value
unfolding print_first
first_prints (ItemFirst protected permissions) good = item_first_prints protected permissions good.0 good.1
first_prints (UserFirst users permissions) good = user_first_prints users permissions good.0 good.1

-- ---- items

tag_prints : (most : ℕ) (value : Item) → IsGoodItem value → Prints most tag (print_string value.tag) value.tag
tag_prints most value good = string_is_written most (IsRead tag value.tag) value.tag good.tag (λ place bad. refl)

abbrev FromFirst : Item → List Shape → Type 0
FromFirst value members = RequiredRead [] (codes "itemOrUserFirst") first value.first IsEnd members

abbrev FromLevel : Item → List Shape → Type 0
FromLevel value members = RequiredRead [] (codes "authenticationLevel") level value.level (FromFirst value) members

abbrev FromPrecedence : Item → List Shape → Type 0
FromPrecedence value members = RequiredRead [] (codes "precedence") precedence value.precedence (FromLevel value) members

abbrev FromTag : Item → List Shape → Type 0
FromTag value members = RequiredRead [] (codes "identificationTag") tag value.tag (FromPrecedence value) members

pub item_prints : (value : Item) → IsGoodItem value → Prints 71 aci_item (print_item value) value
unfolding aci_item print_item
item_prints value good =
    let last = print_component (codes "itemOrUserFirst") (print_first value.first) ∷ [] in
    let two = print_component (codes "authenticationLevel") (print_level value.level) ∷ last in
    let three = print_component (codes "precedence") (print_number value.precedence) ∷ two in
    braces_are_written 70 (FromTag value) (IsRead aci_item value) (print_component (codes "identificationTag") (print_string value.tag) ∷ three)
    (required_is_written 70 [] (codes "identificationTag") tag (print_string value.tag) value.tag (FromPrecedence value) three tag_word tt
    (tag_prints 70 value good)
    (required_is_written 70 [] (codes "precedence") precedence (print_number value.precedence) value.precedence (FromLevel value) two precedence_word tt
    (precedence_prints 70 value.precedence good.precedence)
    (required_is_written 70 [] (codes "authenticationLevel") level (print_level value.level) value.level (FromFirst value) last level_word tt
    (level_prints 69 value.level)
    (required_is_written 70 [] (codes "itemOrUserFirst") first (print_first value.first) value.first IsEnd [] begins_word tt
    (first_prints value.first good.first) (none_are_written 70 IsEnd refl)))))
    (λ members has bad. rw (
      listed_gathered members,
      has.read bad,
      has.behind.read bad,
      has.behind.behind.read bad,
      has.behind.behind.behind.read bad,
      has.behind.behind.behind.behind,
    ) refl)
