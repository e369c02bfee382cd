-- The one printed form of access control items (X.501 18.4.2, RFC 3641), as lexemes: the full spelling, with bits in
-- rising order; flags that are false and sets of classes or items that are empty are left out.
use Rattle.std.specs.Prelude.{ℕ, Bool, true, false, List, [], ◌∷◌, ◌++◌, map, Option, option_map, codes}
use Rattle.dir_tree.specs.dn_names.name.Names.{RdnSequence, TypeAndValue}
use Rattle.dir_tree.specs.schema_tables.Attributes.{name_of}
use Rattle.gser_tree.specs.Lexemes.{Lexeme}
use Rattle.gser_tree.specs.Writing.{print_word, print_number, print_string, print_choice, print_component, print_braces, print_optional, print_flag, print_filled}
use Rattle.subtree_spec.specs.SubtreePrinted.{print_dn, print_subtree}
use Rattle.aci_item.specs.declared.level.Level.{Level}
use Rattle.aci_item.specs.declared.level.Level.TheVariants.{Anyone, Simple, Strong}
use Rattle.aci_item.specs.declared.permission.Permission.{Permission}
use Rattle.aci_item.specs.declared.permission.Permission.TheVariants.{Add, DiscloseOnError, Read, Remove, Browse, Export, Import, Modify, Rename, ReturnDn, Compare, FilterMatch, Invoke}
use Rattle.aci_item.specs.Permission.{Bit}
use Rattle.aci_item.specs.item.Items.{UserClasses, MaxValueCount, RestrictedValue, ProtectedItems, ItemPermission, UserPermission, First, ItemFirst, UserFirst, Item}

-- the name of a level
abbrev pub level_name : Level → List ℕ
level_name Anyone = codes "none"
level_name Simple = codes "simple"
level_name Strong = codes "strong"

-- the name of a permission, as the bits have it behind `grant` or `deny`
abbrev pub permission_name : Permission → List ℕ
permission_name Add = codes "Add"
permission_name DiscloseOnError = codes "DiscloseOnError"
permission_name Read = codes "Read"
permission_name Remove = codes "Remove"
permission_name Browse = codes "Browse"
permission_name Export = codes "Export"
permission_name Import = codes "Import"
permission_name Modify = codes "Modify"
permission_name Rename = codes "Rename"
permission_name ReturnDn = codes "ReturnDN"
permission_name Compare = codes "Compare"
permission_name FilterMatch = codes "FilterMatch"
permission_name Invoke = codes "Invoke"

-- what stands before it
abbrev pub bit_front : Bool → List ℕ
bit_front true = codes "grant"
bit_front false = codes "deny"

-- the name of a bit
abbrev pub bit_name : Bit → List ℕ
bit_name bit = bit_front bit.grants ++ permission_name bit.permission

-- GrantsAndDenials
abbrev pub print_bits : List Bit → List Lexeme
print_bits bits = print_braces (map (λ bit. print_word (bit_name bit)) bits)

-- NameAndOptionalUID, with a name alone
abbrev pub print_user : RdnSequence → List Lexeme
print_user name = print_braces (print_component (codes "dn") (print_dn name) ∷ [])

-- an attribute type, by its name in the table
abbrev pub print_kind : ℕ → List Lexeme
print_kind kind = print_word (name_of kind)

-- AttributeTypeAndValue
abbrev pub print_value : TypeAndValue → List Lexeme
print_value pair =
    print_braces (print_component (codes "type") (print_kind pair.kind) ∷ print_component (codes "value") (print_string pair.value.octets) ∷ [])

-- MaxValueCount
abbrev pub print_max_value_count : MaxValueCount → List Lexeme
print_max_value_count limit =
    print_braces (print_component (codes "type") (print_kind limit.kind) ∷ print_component (codes "maxCount") (print_number limit.max_count) ∷ [])

-- RestrictedValue
abbrev pub print_restricted_value : RestrictedValue → List Lexeme
print_restricted_value limit =
    print_braces (print_component (codes "type") (print_kind limit.kind) ∷ print_component (codes "valuesIn") (print_kind limit.values_in) ∷ [])

-- a set that is left out where it is empty
abbrev pub print_set : {A : Type 0} → List ℕ → (A → List Lexeme) → List A → List (List Lexeme)
print_set name print values = print_optional name (print_filled (map print values))

-- the components of UserClasses that are not left out
abbrev pub print_class_list : UserClasses → List (List Lexeme)
print_class_list classes =
    print_flag (codes "allUsers") classes.all
    ++ (print_flag (codes "thisEntry") classes.this_entry
    ++ (print_set (codes "name") print_user classes.names
    ++ (print_set (codes "userGroup") print_user classes.groups
    ++ print_set (codes "subtree") print_subtree classes.subtrees)))

-- UserClasses
unfoldable pub print_classes : UserClasses → List Lexeme
print_classes classes = print_braces (print_class_list classes)

-- the components of ProtectedItems that are not left out
abbrev pub print_item_list : ProtectedItems → List (List Lexeme)
print_item_list items =
    print_flag (codes "entry") items.entry
    ++ (print_flag (codes "allUserAttributeTypes") items.all_kinds
    ++ (print_set (codes "attributeType") print_kind items.kinds
    ++ (print_set (codes "allAttributeValues") print_kind items.all_values
    ++ (print_flag (codes "allUserAttributeTypesAndValues") items.all_kinds_and_values
    ++ (print_set (codes "attributeValue") print_value items.values
    ++ (print_set (codes "selfValue") print_kind items.self_values
    ++ (print_set (codes "maxValueCount") print_max_value_count items.max_counts
    ++ print_set (codes "restrictedBy") print_restricted_value items.restricted)))))))

-- ProtectedItems
unfoldable pub print_items : ProtectedItems → List Lexeme
print_items items = print_braces (print_item_list items)

-- a precedence of a permission
abbrev pub print_precedence : Option ℕ → List (List Lexeme)
print_precedence precedence = print_optional (codes "precedence") (option_map print_number precedence)

-- ItemPermission
unfoldable pub print_item_permission : ItemPermission → List Lexeme
print_item_permission permission = print_braces (print_precedence permission.precedence
    ++ (print_component (codes "userClasses") (print_classes permission.classes)
    ∷ print_component (codes "grantsAndDenials") (print_bits permission.bits) ∷ []))

-- UserPermission
unfoldable pub print_user_permission : UserPermission → List Lexeme
print_user_permission permission = print_braces (print_precedence permission.precedence
    ++ (print_component (codes "protectedItems") (print_items permission.items)
    ∷ print_component (codes "grantsAndDenials") (print_bits permission.bits) ∷ []))

-- the components of itemFirst
abbrev pub print_item_first : ProtectedItems → List ItemPermission → List Lexeme
print_item_first items permissions = print_choice (codes "itemFirst") (print_braces (
    print_component (codes "protectedItems") (print_items items)
    ∷ print_component (codes "itemPermissions") (print_braces (map print_item_permission permissions)) ∷ []))

-- the components of userFirst
abbrev pub print_user_first : UserClasses → List UserPermission → List Lexeme
print_user_first classes permissions = print_choice (codes "userFirst") (print_braces (
    print_component (codes "userClasses") (print_classes classes)
    ∷ print_component (codes "userPermissions") (print_braces (map print_user_permission permissions)) ∷ []))

-- itemOrUserFirst
unfoldable pub print_first : First → List Lexeme
print_first (ItemFirst items permissions) = print_item_first items permissions
print_first (UserFirst classes permissions) = print_user_first classes permissions

-- AuthenticationLevel
abbrev pub print_level : Level → List Lexeme
print_level level =
    print_choice (codes "basicLevels") (print_braces (print_component (codes "level") (print_word (level_name level)) ∷ []))

-- ACIItem
unfoldable pub print_item : Item → List Lexeme
print_item item = print_braces (
    print_component (codes "identificationTag") (print_string item.tag)
    ∷ print_component (codes "precedence") (print_number item.precedence)
    ∷ print_component (codes "authenticationLevel") (print_level item.level)
    ∷ print_component (codes "itemOrUserFirst") (print_first item.first) ∷ [])
