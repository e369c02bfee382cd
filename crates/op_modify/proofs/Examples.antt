-- The definitions on small cases.
use Rattle.std.proofs.Common.{◌≡◌, ℕ, true, false, [], ◌∷◌, List, Option, Some, None, Ok, Err, refl}
use Rattle.std.specs.Prelude.{codes}
use Rattle.std.specs.Str.{is_utf8, chars}
use lib.Utf8.{encode}
use Rattle.dir_tree.specs.schema_tables.Attributes.{attributes}
use Rattle.dir_tree.specs.match_rules.Keys.{key_of}
use Rattle.dir_tree.specs.match_rules.Syntaxes.{is_of}
use Rattle.dir_tree.specs.dn_names.name.Names.{Keyed, RdnSequence}
use Rattle.dir_tree.specs.dn_names.NameValues.{value_of}
use Rattle.dir_tree.specs.dn_names.NameOrder.{name_cmp, is_same}
use Rattle.dir_tree.specs.dn_names.declared.error.BadName.TheVariants.{TooMany}
use Rattle.dir_tree.specs.Entry.{EntryInformation}
use Rattle.acdf_filters.specs.declared.asking.Requester.{Requester}
use Rattle.entry_changes.specs.declared.kind.ChangeKind.TheVariants as kind
use Rattle.ldap_msg.specs.declared.operations.ResultCode.TheVariants as code
use Rattle.ldap_msg.specs.declared.kinds.ModifyOperation.{ModifyOperation}
use Rattle.ldap_msg.specs.declared.kinds.ModifyOperation.TheVariants.{Add, Delete, Replace}
use Rattle.ldap_msg.specs.declared.kinds.Change.{Change}
use Rattle.ldap_msg.specs.Attributes.{operation_from}
use Rattle.read_model.specs.Views.{result_of}
use Rattle.op_add_delete.specs.reading.NewEntries.{read_values, repeats}
use Rattle.op_add_delete.specs.adding.Updates.{Refused}
use Rattle.op_modify.specs.ReadChanges.{is_no_change, change_of, read_each, read_changes}
use Rattle.op_modify.specs.Modifying.{modified_as, modified_named}
use Rattle.op_modify.specs.ReadRenames.{new_superior, asks_rename}
use Rattle.op_modify.specs.Renames.{new_name, taken_refusal, other_named, renamed_by}
use Rattle.op_modify.specs.declared.renaming.Renaming.{Renaming}

-- a value whose key is its octets, and one spelled in capitals
plain_value : List ℕ → Keyed
plain_value octets = record { octets = octets; key = octets }

spelled_value : List ℕ → List ℕ → Keyed
spelled_value octets key = record { octets = octets; key = key }

-- dc=A, and ou=b and ou=c below it
root : RdnSequence
root = (record { kind = 25; value = spelled_value (codes "A") (codes "a") } ∷ []) ∷ []

below : List ℕ → RdnSequence
below octets = (record { kind = 25; value = plain_value (codes "a") } ∷ []) ∷ (record { kind = 9; value = plain_value octets } ∷ []) ∷ []

bare : RdnSequence → EntryInformation
bare name = record { name = name; attributes = [] }

-- a change as a request gives it
given : ModifyOperation → List ℕ → List (List ℕ) → Change
given operation kind values = record { operation = operation; body = record { kind = kind; values = values } }

-- an add must bring values, and a fourth operation is none; a delete and a replace may come without values
an_add_of_nothing : is_no_change (given Add (codes "cn") []) ≡ true
unfolding given
an_add_of_nothing = refl

an_increment : is_no_change (given (operation_from 3) (codes "cn") (codes "1" ∷ [])) ≡ true
unfolding given
an_increment = refl

a_delete_of_all : is_no_change (given Delete (codes "cn") []) ≡ false
unfolding given
a_delete_of_all = refl

a_replace_by_nothing : is_no_change (given Replace (codes "cn") []) ≡ false
unfolding given
a_replace_by_nothing = refl

the_three : (change_of (operation_from 0) ≡ kind.Add) × (change_of (operation_from 1) ≡ kind.Delete) × (change_of (operation_from 2) ≡ kind.Replace)
the_three = (refl, refl, refl)

-- no change at all is none to be refused
no_changes : read_changes [] ≡ Ok []
unfolding read_changes read_each
no_changes = refl

-- an operation that is none comes before an unknown type that comes earlier
an_operation_first : read_changes (given Replace (codes "zz") [] ∷ given (operation_from 3) (codes "cn") [] ∷ []) ≡ Err code.ProtocolError
unfolding given read_changes
an_operation_first = refl

an_unknown_type : read_changes (given Replace (codes "zz") [] ∷ []) ≡ Err code.UndefinedAttributeType
unfolding given read_changes read_each attributes
an_unknown_type = refl

-- two values of one change may not match; those of two changes may
equal_values : read_changes (given Replace (codes "userPassword") (codes "x" ∷ codes "x" ∷ []) ∷ []) ≡ Err code.AttributeOrValueExists
unfolding given read_changes read_each read_values repeats attributes is_utf8 encode chars value_of key_of is_of
equal_values = refl

values_of_two_changes : read_changes (given Delete (codes "userPassword") (codes "x" ∷ []) ∷ given Add (codes "2.5.4.35") (codes "x" ∷ []) ∷ [])
    ≡ Ok (record { change = kind.Delete; kind = 18; values = plain_value (codes "x") ∷ [] } ∷ record { change = kind.Add; kind = 18; values = plain_value (codes "x") ∷ [] } ∷ [])
unfolding plain_value given read_changes read_each read_values repeats attributes is_utf8 encode chars value_of key_of is_of
values_of_two_changes = refl

-- a name that is none, and the empty name
a_bad_name : (entries : List EntryInformation) (who : Requester) (changes : List Change) → modified_named entries who changes (Err TooMany) ≡ Refused (result_of code.InvalidDnSyntax)
a_bad_name entries who changes = refl

the_empty_name : (entries : List EntryInformation) (who : Requester) (changes : List Change) → modified_named entries who changes (Ok []) ≡ Refused (result_of code.UnwillingToPerform)
the_empty_name entries who changes = refl

-- a change that can't be made refuses the modify
a_refused_change : (entries : List EntryInformation) (target : EntryInformation) → modified_as entries target (Err code.NoSuchAttribute) ≡ Refused (result_of code.NoSuchAttribute)
a_refused_change entries target = refl

-- what is no rename, and the root's
no_rename : (entries : List EntryInformation) (who : Requester) → renamed_by entries who None ≡ Refused (result_of code.InvalidDnSyntax)
no_rename entries who = refl

the_root : (entries : List EntryInformation) (who : Requester) → renamed_by entries who (Some (record { name = []; rdn = root; delete_old = true; superior = None })) ≡ Refused (result_of code.UnwillingToPerform)
the_root entries who = refl

-- the present superior may be given, in any spelling, and is as if none were; another one moves the entry
no_superior : new_superior (below (codes "b")) None ≡ None
no_superior = refl

the_same_superior : new_superior (below (codes "b")) (Some root) ≡ None
unfolding root below plain_value spelled_value name_cmp is_same
the_same_superior = refl

another_superior : new_superior (below (codes "b")) (Some (below (codes "c"))) ≡ Some (below (codes "c"))
unfolding below plain_value name_cmp is_same
another_superior = refl

-- an RDN is the same in another spelling, and so asks for no rename where the entry moves
renaming_of : List ℕ → Option RdnSequence → Renaming
renaming_of octets superior = record { name = below (codes "b"); rdn = (record { kind = 9; value = spelled_value octets (codes "b") } ∷ []) ∷ []; delete_old = true; superior = superior }

a_move_alone : asks_rename (renaming_of (codes "B") (Some root)) ≡ false
unfolding renaming_of root below plain_value spelled_value
a_move_alone = refl

a_spelling_alone : asks_rename (renaming_of (codes "B") None) ≡ true
unfolding renaming_of root below plain_value spelled_value
a_spelling_alone = refl

-- the superior's part of the new name is spelled as the superior's own
the_spelling : new_name (bare root ∷ bare (below (codes "b")) ∷ []) (record { name = below (codes "b"); rdn = (record { kind = 9; value = plain_value (codes "c") } ∷ []) ∷ []; delete_old = true; superior = None })
    ≡ (record { kind = 25; value = spelled_value (codes "A") (codes "a") } ∷ []) ∷ (record { kind = 9; value = plain_value (codes "c") } ∷ []) ∷ []
unfolding root below bare plain_value spelled_value name_cmp is_same
the_spelling = refl

-- a name that is the target's own, in another spelling, is not taken; that of another entry is
its_own_name : other_named (bare root ∷ bare (below (codes "b")) ∷ []) (bare (below (codes "b")))
    ((record { kind = 25; value = plain_value (codes "a") } ∷ []) ∷ (record { kind = 9; value = spelled_value (codes "B") (codes "b") } ∷ []) ∷ []) ≡ None
unfolding root below bare plain_value spelled_value name_cmp is_same
its_own_name = refl

another_name : other_named (bare root ∷ bare (below (codes "b")) ∷ bare (below (codes "c")) ∷ []) (bare (below (codes "b"))) (below (codes "c")) ≡ Some (bare (below (codes "c")))
unfolding root below bare plain_value spelled_value name_cmp is_same
another_name = refl

nobody : (entries : List EntryInformation) (who : Requester) → taken_refusal entries who None ≡ None
nobody entries who = refl
