-- The definitions on small cases.
use Rattle.std.proofs.Common.{◌≡◌, ℕ, true, false, Bool, not, [], ◌∷◌, List, Some, None, Ok, Err, refl}
use Rattle.std.specs.Prelude.{codes, ◌==◌}
use lib.Utf8.{encode}
use Rattle.std.specs.Str.{is_utf8, chars}
use Rattle.dir_tree.specs.schema_tables.Attributes.{attributes}
use Rattle.dir_tree.specs.schema_tables.classes.Classes.{classes}
use Rattle.dir_tree.specs.schema_tables.roles.Roles.{roles}
use Rattle.dir_tree.specs.schema_tables.Oids.{is_dotted_oid}
use Rattle.dir_tree.specs.match_rules.Keys.{key_of}
use Rattle.dir_tree.specs.match_rules.Syntaxes.{is_of}
use Rattle.dir_tree.specs.dn_names.name.Names.{Keyed, RdnSequence}
use Rattle.dir_tree.specs.dn_names.NameValues.{value_of}
use Rattle.dir_tree.specs.dn_names.declared.error.BadName.TheVariants.{TooMany}
use Rattle.dir_tree.specs.Entry.{EntryInformation}
use Rattle.ldif_load.specs.load.Loading.{with_pairs}
use Rattle.acdf_filters.specs.aci_item.declared.entry_rule.EntryRule.{EntryRule}
use Rattle.acdf_filters.specs.aci_item.declared.entry_rule.EntryRule.TheVariants as rule
use Rattle.acdf_filters.specs.aci_item.declared.permission.Permission.{Permission}
use Rattle.acdf_filters.specs.aci_item.EntryRule.{rule_number}
use Rattle.acdf_filters.specs.declared.asking.Requester.{Requester}
use Rattle.acdf_filters.specs.Asking.{Protected, Entry, Kind, Value}
use Rattle.ldap_msg.specs.declared.operations.ResultCode.TheVariants as code
use Rattle.ldap_msg.specs.operations.ResultCodes.{code_number}
use Rattle.ldap_msg.specs.declared.kinds.KindValues.{KindValues}
use Rattle.read_model.specs.Views.{result_of}
use Rattle.op_add_delete.specs.reading.NewEntries.{read_values, read_each, read_attributes, repeats, new_entry}
use Rattle.op_add_delete.specs.RuleCodes.{rule_code}
use Rattle.op_add_delete.specs.adding.Adding.{refuses_entry, rule_refusal}
use Rattle.op_add_delete.specs.adding.Updates.{Changed, Refused, Made, unless, left_by, IsChanged, deleted_named, added_named}

-- a value whose key is its octets
plain_value : List ℕ → Keyed
plain_value octets = record { octets = octets; key = octets }

-- dc=A, and ou=b below it
root : RdnSequence
root = (record { kind = 25; value = record { octets = codes "A"; key = codes "a" } } ∷ []) ∷ []

below : RdnSequence
below = (record { kind = 25; value = record { octets = codes "a"; key = codes "a" } } ∷ []) ∷ (record { kind = 9; value = record { octets = codes "b"; key = codes "b" } } ∷ []) ∷ []

bare : RdnSequence → EntryInformation
bare name = record { name = name; attributes = [] }

-- a type and values as a request gives them
given : List ℕ → List (List ℕ) → KindValues
given kind values = record { kind = kind; values = values }

-- a name that is none, and the empty name
a_bad_name : (entries : List EntryInformation) (who : Requester) → deleted_named entries who (Err TooMany) ≡ Refused (result_of code.InvalidDnSyntax)
a_bad_name entries who = refl

the_empty_name : (entries : List EntryInformation) (who : Requester) (attributes : List KindValues) → added_named entries who attributes (Ok []) ≡ Refused (result_of code.UnwillingToPerform)
the_empty_name entries who attributes = refl

-- an attribute without values comes before all else, then types and values in order, and last what comes twice
no_values : read_attributes (given (codes "zz") (codes "x" ∷ []) ∷ given (codes "cn") [] ∷ []) ≡ Err code.ProtocolError
unfolding given read_attributes
no_values = refl

an_unknown_type : read_attributes (given (codes "zz") (codes "x" ∷ []) ∷ given (codes "objectClass") (codes "no class" ∷ []) ∷ []) ≡ Err code.UndefinedAttributeType
unfolding given read_attributes read_each attributes
an_unknown_type = refl

no_value_of_the_type : read_attributes (given (codes "objectClass") (codes "top" ∷ codes "no class" ∷ []) ∷ given (codes "zz") (codes "x" ∷ []) ∷ []) ≡ Err code.InvalidAttributeSyntax
unfolding given read_attributes read_each read_values attributes classes roles is_dotted_oid is_utf8 encode chars value_of key_of is_of
no_value_of_the_type = refl

two_equal_values : read_attributes (given (codes "objectClass") (codes "top" ∷ codes "2.5.6.0" ∷ []) ∷ []) ≡ Err code.AttributeOrValueExists
unfolding given read_attributes read_each read_values repeats attributes classes roles is_dotted_oid is_utf8 encode chars value_of key_of is_of
two_equal_values = refl

a_type_twice : read_attributes (given (codes "userPassword") (codes "x" ∷ []) ∷ given (codes "2.5.4.35") (codes "y" ∷ []) ∷ []) ≡ Err code.AttributeOrValueExists
unfolding given read_attributes read_each read_values repeats attributes classes roles is_dotted_oid is_utf8 encode chars value_of key_of is_of
a_type_twice = refl

an_unknown_type_after_equal_values : read_attributes (given (codes "userPassword") (codes "x" ∷ codes "x" ∷ []) ∷ given (codes "zz") (codes "y" ∷ []) ∷ []) ≡ Err code.UndefinedAttributeType
unfolding given read_attributes read_each read_values attributes is_utf8 encode chars value_of key_of is_of
an_unknown_type_after_equal_values = refl

-- values of the own RDN come last, unless they are there
own_value_last : (new_entry root (record { kind = 18; values = plain_value (codes "x") ∷ [] } ∷ [])).attributes
    ≡ record { kind = 18; values = plain_value (codes "x") ∷ [] } ∷ record { kind = 25; values = record { octets = codes "A"; key = codes "a" } ∷ [] } ∷ []
unfolding root plain_value with_pairs
own_value_last = refl

-- one value that may not be added is enough to refuse the entry
all_but_passwords : Protected → Permission → Bool
all_but_passwords Entry permission = true
all_but_passwords (Kind kind) permission = true
all_but_passwords (Value kind value) permission = not (kind == 18)

a_value_refused : refuses_entry all_but_passwords (record { name = root; attributes = record { kind = 18; values = plain_value (codes "x") ∷ [] } ∷ [] }) ≡ true
unfolding all_but_passwords refuses_entry
a_value_refused = refl

nothing_refused : refuses_entry all_but_passwords (record { name = root; attributes = record { kind = 25; values = plain_value (codes "a") ∷ [] } ∷ [] }) ≡ false
unfolding all_but_passwords refuses_entry
nothing_refused = refl

-- a rule is told by its code
a_rule : rule_refusal (Some rule.Classes) ≡ Some (result_of code.ObjectClassViolation)
a_rule = refl

-- which has the rule's number
same_number : (broken : EntryRule) → code_number (rule_code broken) ≡ rule_number broken
same_number rule.RdnValues = refl
same_number rule.StructuralClass = refl
same_number rule.Classes = refl
same_number rule.Syntaxes = refl
same_number rule.SingleValues = refl
same_number rule.Place = refl
same_number rule.Limits = refl

-- a refused change leaves the entries, and one that is made leaves its own
refused_change : unless (Some (result_of code.EntryAlreadyExists)) (bare root ∷ bare below ∷ []) ≡ Refused (result_of code.EntryAlreadyExists)
refused_change = refl

left_by_a_refused_change : left_by (bare root ∷ []) (Refused (result_of code.EntryAlreadyExists)) ≡ bare root ∷ []
left_by_a_refused_change = refl

left_by_a_change : left_by (bare root ∷ []) (unless None (bare root ∷ bare below ∷ [])) ≡ bare root ∷ bare below ∷ []
left_by_a_change = refl

-- a call that answers a refusal did not make the change, and one that answers a refusal and leaves an entry more did nothing
-- that a change comes to
no_refusal_of_what_is_made : (before made after : List EntryInformation) → ¬ (IsChanged before (Made made) (Some (result_of code.EntryAlreadyExists)) after)
no_refusal_of_what_is_made before made after is = let same : Made made ≡ Refused (result_of code.EntryAlreadyExists) = is.0 in absurd cc

no_refusal_with_an_entry : (changed : Changed) → ¬ (IsChanged (bare root ∷ []) changed (Some (result_of code.EntryAlreadyExists)) (bare root ∷ bare below ∷ []))
no_refusal_with_an_entry changed is = let same : bare root ∷ bare below ∷ [] ≡ bare root ∷ [] = is.1 in absurd cc
