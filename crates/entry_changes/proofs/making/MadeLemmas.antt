-- What is asked step by step is what the tables ask.
use Rattle.std.proofs.Common.{◌≡◌, ℕ, Bool, false, not, ◌&&◌, length, map, List, [], ◌∷◌, Some, None, Ok, refl, sym, ap, ◌∙◌}
use Rattle.std.proofs.lemmas.List.{length-map}
use Rattle.ldap_msg.specs.plain_values.Answers.{IsFaultOf}
use Rattle.ldap_msg.specs.plain_values.Refusals.{when, first_some}
use Rattle.dir_tree.specs.dn_names.name.Names.{Keyed}
use Rattle.dir_tree.specs.Entry.{EntryInformation, values_of}
use Rattle.acdf_filters.specs.aci_item.declared.permission.Permission.TheVariants.{Add}
use Rattle.acdf_filters.specs.Asking.{Kind}
use Rattle.ldap_msg.specs.declared.operations.ResultCode.{ResultCode}
use Rattle.ldap_msg.specs.declared.operations.ResultCode.TheVariants as code
use Rattle.entry_changes.specs.declared.fault.ChangeFault.TheVariants as fault
use Rattle.entry_changes.specs.declared.kind.ChangeKind.{ChangeKind}
use Rattle.entry_changes.specs.Change.{Asks, Asker, Modification, asks_after, are_none, add_value_refusal, add_refusal, delete_value_refusal, delete_refusal, change_refusal, with_each, made, unless_refused, changed, cause_of}
use Rattle.entry_changes.specs.Steps.{there_among, add_rows, add_table}

-- ---- adds

add_rows-there : (asks : Asks) (kind : ℕ) (old values : List Keyed) → add_rows asks kind (there_among old values) values ≡ map (add_value_refusal asks kind old) values
add_rows-there asks kind old [] = refl
add_rows-there asks kind old (value ∷ values) = ap (λ rows. add_value_refusal asks kind old value ∷ rows) (add_rows-there asks kind old values)

pub add_table-there : (asks : Asks) (kind : ℕ) (old values : List Keyed) → add_table asks kind (are_none old) (there_among old values) values ≡ add_refusal asks kind old values
unfolding add_refusal
add_table-there asks kind old values =
    ap (λ rows. first_some (when (are_none old && not (asks (Kind kind) Add)) code.InsufficientAccessRights ∷ rows)) (add_rows-there asks kind old values)

-- what is asked before and after values are put in
pub add-asked : (asker : Asker) (entry after : EntryInformation) (kind : ℕ) (values : List Keyed) (absent : Bool) (there : List Bool) → absent ≡ are_none (values_of kind entry.attributes)
    → there ≡ there_among (values_of kind entry.attributes) values → after ≡ with_each kind values entry
    → add_table (asks_after asker after) kind absent there values
    ≡ add_refusal (asks_after asker (with_each kind values entry)) kind (values_of kind entry.attributes) values
add-asked asker entry after kind values absent there none found left =
    ap (λ (after : EntryInformation). add_table (asks_after asker after) kind absent there values) left
    ∙ ap (λ (absent : Bool). add_table (asks_after asker (with_each kind values entry)) kind absent there values) none
    ∙ ap (λ (there : List Bool). add_table (asks_after asker (with_each kind values entry)) kind (are_none (values_of kind entry.attributes)) there values) found
    ∙ add_table-there (asks_after asker (with_each kind values entry)) kind (values_of kind entry.attributes) values

pub length-there_among : (old values : List Keyed) → length (there_among old values) ≡ length values
length-there_among old values = length-map values _

-- ---- deletes: no value is added

pub delete_refusal-alike : (asker : Asker) (one other : EntryInformation) (kind : ℕ) (old values : List Keyed)
    → delete_refusal (asks_after asker one) kind old values ≡ delete_refusal (asks_after asker other) kind old values
unfolding delete_refusal
delete_refusal-alike asker one other kind old [] = refl
delete_refusal-alike asker one other kind old (value ∷ values) = refl

pub delete_refusal-values : (asks : Asks) (kind : ℕ) (old values : List Keyed) → are_none values ≡ false
    → delete_refusal asks kind old values ≡ first_some (map (delete_value_refusal asks kind old) values)
unfolding delete_refusal
delete_refusal-values asks kind old [] some = absurd cc
delete_refusal-values asks kind old (value ∷ values) some = refl

-- ---- a change that is made, or refused

pub changed-made : (asker : Asker) (entry : EntryInformation) (change : Modification) (left : EntryInformation) → left ≡ made change entry
    → None ≡ change_refusal (asks_after asker (made change entry)) change (values_of change.kind entry.attributes) → changed asker entry change ≡ Ok left
changed-made asker entry change left is none =
    ap (λ refusal. unless_refused refusal (made change entry)) (sym none) ∙ ap (λ (left : EntryInformation). Ok left) (sym is)

pub changed-refused : (asker : Asker) (entry : EntryInformation) (change : Modification) (refusal : ResultCode)
    → Some refusal ≡ change_refusal (asks_after asker (made change entry)) change (values_of change.kind entry.attributes)
    → IsFaultOf (cause_of (fault.Refused refusal)) (changed asker entry change)
changed-refused asker entry change refusal is = ap (λ refusal. unless_refused refusal (made change entry)) (sym is)

-- a change is what its parts are
pub change-parts : (change : Modification) (which : ChangeKind) (kind : ℕ) (values : List Keyed) → which ≡ change.change → kind ≡ change.kind → values ≡ change.values
    → record { change = which; kind = kind; values = values } ≡ change
change-parts change which kind values same_change same_kind same_values =
    ap {B = Modification} (λ (which : ChangeKind). record { change = which; kind = kind; values = values }) same_change
    ∙ ap {B = Modification} (λ (kind : ℕ). record { change = change.change; kind = kind; values = values }) same_kind
    ∙ ap {B = Modification} (λ (values : List Keyed). record { change = change.change; kind = change.kind; values = values }) same_values
