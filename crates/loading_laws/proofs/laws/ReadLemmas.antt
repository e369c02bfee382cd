-- The values that are read of a request of octets are loadable.
use Rattle.std.proofs.Common.{◌≡◌, ℕ, Bool, true, false, if◌then◌else◌, List, [], ◌∷◌, Option, Some, None, Result, Ok, Err, subst}
use Rattle.std.specs.List.{AllByRecursion, list_any}
use Rattle.base64.specs.GeneralPurpose.{IsBytes}
use Rattle.dir_tree.specs.plain_values.Results.{◌>>=◌}
use Rattle.dir_tree.proofs.plain_values_proofs.Theorems.{both_given}
use Rattle.dir_tree.specs.schema_tables.Attributes.{attr_of}
use Rattle.dir_tree.specs.dn_names.name.Names.{Keyed}
use Rattle.dir_tree.specs.Entry.{Attribute, is_match}
use Rattle.session_hub.specs.session_model.ldap_msg.declared.operations.ResultCode.{ResultCode}
use Rattle.session_hub.specs.session_model.ldap_msg.declared.operations.ResultCode.TheVariants as code
use Rattle.session_hub.specs.session_model.ldap_msg.declared.kinds.KindValues.{KindValues}
use Rattle.session_hub.specs.session_model.ldap_msg.declared.kinds.Change.{Change}
use Rattle.entry_changes.specs.Change.{Modification}
use Rattle.change_laws.specs.op_add_delete.reading.NewEntries.{read_value, read_values, read_known, read_attribute, read_each, repeats, has_twice, without_twice, lacks_values, read_filled, read_attributes}
use Rattle.change_laws.specs.op_modify.ReadChanges.{change_of, change_with, read_change, is_no_change, read_changes}
use Rattle.change_laws.specs.op_modify.ReadChanges as changes
use Rattle.change_replay.specs.Laws.{HasOctets, ChangesOctets}
use Rattle.data_file.specs.Loadable.{IsLoadableValue}
use Rattle.loading_laws.proofs.laws.ValueLemmas.{IsLoadableValue-read}
use Rattle.loading_laws.proofs.laws.EffectLemmas.{AllValues, AllChanged}

-- what is had where a test finds no fault
past : {A E : Type 0} (test : Bool) (fault : E) (found : Result A E) (value : A) → (if test then Err fault else found) ≡ Ok value → found ≡ Ok value
past true fault found value is = absurd cc
past false fault found value is = is

values-loadable : (kind : ℕ) (given : List (List ℕ)) (values : List Keyed) → AllByRecursion IsBytes given → read_values kind given ≡ Ok values
    → AllByRecursion (IsLoadableValue kind) values
unfolding read_values
values-loadable kind [] values bytes is = (let same : [] ≡ values = cc in subst (AllByRecursion (IsLoadableValue kind)) same tt)
values-loadable kind (octets ∷ given) values bytes is =
    let first = both_given (read_value kind octets) (λ value. read_values kind given >>= λ values. Ok (value ∷ values)) values is in
    let later = both_given (read_values kind given) (λ values. Ok (first.0 ∷ values)) values first.2 in
    let same : first.0 ∷ later.0 ≡ values = cc later.2 in
    subst (AllByRecursion (IsLoadableValue kind)) same
    (IsLoadableValue-read kind octets first.0 bytes.0 first.1, values-loadable kind given later.0 bytes.1 later.1)

-- each value of an attribute
abbrev IsLoadableAttribute : Attribute → Type 0
IsLoadableAttribute attribute = AllByRecursion (IsLoadableValue attribute.kind) attribute.values

known-loadable : (given : List (List ℕ)) (kind : Option ℕ) (attribute : Attribute) → AllByRecursion IsBytes given → read_known given kind ≡ Ok attribute
    → IsLoadableAttribute attribute
known-loadable given None attribute bytes is = absurd cc
known-loadable given (Some kind) attribute bytes is =
    let read = both_given (read_values kind given) (λ values. Ok (record { kind = kind; values = values })) attribute is in
    let same : record { kind = kind; values = read.0 } ≡ attribute = cc read.2 in
    subst IsLoadableAttribute same (values-loadable kind given read.0 bytes read.1)

attribute-loadable : (given : KindValues) (attribute : Attribute) → HasOctets given → read_attribute given ≡ Ok attribute → IsLoadableAttribute attribute
attribute-loadable given attribute bytes is = known-loadable given.values (attr_of given.kind) attribute bytes is

-- those of an add
each-loadable : (given : List KindValues) (attributes : List Attribute) → AllByRecursion HasOctets given → read_each given ≡ Ok attributes
    → AllValues IsLoadableValue attributes
unfolding read_each
each-loadable [] attributes bytes is = (let same : [] ≡ attributes = cc in subst (AllValues IsLoadableValue) same tt)
each-loadable (one ∷ given) attributes bytes is =
    let first = both_given (read_attribute one) (λ attribute. read_each given >>= λ attributes. Ok (attribute ∷ attributes)) attributes is in
    let later = both_given (read_each given) (λ attributes. Ok (first.0 ∷ attributes)) attributes first.2 in
    let same : first.0 ∷ later.0 ≡ attributes = cc later.2 in
    subst (AllValues IsLoadableValue) same (attribute-loadable one first.0 bytes.0 first.1, each-loadable given later.0 bytes.1 later.1)

pub attributes-loadable : (given : List KindValues) (attributes : List Attribute) → AllByRecursion HasOctets given → read_attributes given ≡ Ok attributes
    → AllValues IsLoadableValue attributes
unfolding read_attributes
attributes-loadable given attributes bytes is =
    let filled : read_filled given ≡ Ok attributes = past (list_any lacks_values given) code.ProtocolError (read_filled given) attributes is in
    let read = both_given (read_each given) without_twice attributes filled in
    let same : Ok read.0 ≡ Ok attributes = past (has_twice read.0) code.AttributeOrValueExists (Ok read.0) attributes read.2 in
    each-loadable given attributes bytes (subst (λ (found : Result (List Attribute) ResultCode). read_each given ≡ found) same read.1)

-- those of a modify
change-loadable : (given : Change) (change : Modification) → ChangesOctets given → read_change given ≡ Ok change
    → AllByRecursion (IsLoadableValue change.kind) change.values
change-loadable given change bytes is =
    let read = both_given (read_attribute given.body) (change_with (change_of given.operation)) change is in
    let whole : Modification = record { change = change_of given.operation; kind = read.0.kind; values = read.0.values } in
    let kept : Ok whole ≡ Ok change = past (repeats is_match read.0.values) code.AttributeOrValueExists (Ok whole) change read.2 in
    let same : whole ≡ change = cc in
    subst (λ (change : Modification). AllByRecursion (IsLoadableValue change.kind) change.values) same (attribute-loadable given.body read.0 bytes read.1)

each_change-loadable : (given : List Change) (found : List Modification) → AllByRecursion ChangesOctets given → changes.read_each given ≡ Ok found
    → AllChanged IsLoadableValue found
unfolding changes.read_each
each_change-loadable [] found bytes is = (let same : [] ≡ found = cc in subst (AllChanged IsLoadableValue) same tt)
each_change-loadable (one ∷ given) found bytes is =
    let first = both_given (read_change one) (λ change. changes.read_each given >>= λ changes. Ok (change ∷ changes)) found is in
    let later = both_given (changes.read_each given) (λ changes. Ok (first.0 ∷ changes)) found first.2 in
    let same : first.0 ∷ later.0 ≡ found = cc later.2 in
    subst (AllChanged IsLoadableValue) same (change-loadable one first.0 bytes.0 first.1, each_change-loadable given later.0 bytes.1 later.1)

pub changes-loadable : (given : List Change) (found : List Modification) → AllByRecursion ChangesOctets given → read_changes given ≡ Ok found
    → AllChanged IsLoadableValue found
unfolding read_changes
changes-loadable given found bytes is =
    each_change-loadable given found bytes (past (list_any is_no_change given) code.ProtocolError (changes.read_each given) found is)
