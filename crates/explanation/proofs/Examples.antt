-- The words of a question on known cases.
use Rattle.std.proofs.Common.{◌≡◌, [], Some, None, refl}
use Rattle.std.specs.Prelude.{codes}
use Rattle.dir_tree.specs.schema_tables.Attributes.{attributes}
use Rattle.dir_tree.specs.match_rules.Keys.{key_of}
use Rattle.dir_tree.specs.match_rules.Syntaxes.{is_of}
use Rattle.dir_tree.specs.dn_names.Classes.{class_of}
use Rattle.dir_tree.specs.dn_names.Modes.{text_fault}
use Rattle.dir_tree.specs.dn_names.parsing.NameText.{read_name}
use Rattle.dir_tree.specs.dn_names.NameValues.{value_of}
use Rattle.dir_tree.specs.dn_names.Reading.{written_of}
use Rattle.dir_tree.specs.dn_names.Resolving.{resolve}
use Rattle.acdf_filters.specs.aci_item.declared.permission.Permission.TheVariants.{ReturnDn}
use Rattle.acdf_filters.specs.Asking.{Entry, Kind, Value}
use Rattle.explanation.specs.NameWords.{anonymous, who_of, target_of}
use Rattle.explanation.specs.ItemWords.{kind_item, value_item, item_of}
use Rattle.explanation.specs.PermissionWords.{permission_of}

-- who asks: the word, the empty name, and a text that is no name
nobody : who_of (codes "anonymous") ≡ Some anonymous
unfolding who_of
nobody = refl

empty_name : who_of [] ≡ Some anonymous
unfolding who_of read_name text_fault written_of resolve class_of
empty_name = refl

no_name : who_of (codes "Anonymous") ≡ None
unfolding who_of read_name text_fault class_of
no_name = refl

-- which entry: a name of spaces alone is the empty one
empty_target : target_of (codes "  ") ≡ None
unfolding target_of read_name text_fault written_of resolve class_of
empty_target = refl

-- on what of it
whole_entry : item_of (codes "entry") ≡ Some Entry
unfolding item_of
whole_entry = refl

a_type : item_of (codes "type:TELEPHONEnumber") ≡ Some (Kind 13)
unfolding item_of kind_item attributes
a_type = refl

an_identifier : item_of (codes "type:2.5.4.20") ≡ Some (Kind 13)
unfolding item_of kind_item attributes
an_identifier = refl

unknown_type : item_of (codes "type:phone") ≡ None
unfolding item_of kind_item attributes
unknown_type = refl

-- a value with another `=`
a_value : item_of (codes "value:userPassword=a=b") ≡ Some (Value 18 (record { octets = codes "a=b"; key = codes "a=b" }))
unfolding item_of value_item value_of key_of is_of attributes
a_value = refl

no_value : item_of (codes "value:userPassword") ≡ None
unfolding item_of value_item
no_value = refl

-- for which permission
spelled : permission_of (codes "ReturnDN") ≡ Some ReturnDn
spelled = refl

spelled_otherwise : permission_of (codes "ReturnDn") ≡ None
spelled_otherwise = refl

not_asked_for : permission_of (codes "Invoke") ≡ None
not_asked_for = refl
