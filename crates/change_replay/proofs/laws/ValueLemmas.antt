-- What is read of a modify request: of each change no two values match.
use Rattle.std.proofs.Common.{◌≡◌, Bool, true, false, List, [], ◌∷◌, if◌then◌else◌, Ok, Err, refl, subst}
use Rattle.std.specs.List.{AllByRecursion, IsDistinct, list_any}
use Rattle.dir_tree.specs.plain_values.Results.{◌>>=◌}
use Rattle.dir_tree.proofs.plain_values_proofs.Theorems.{both_given}
use Rattle.dir_tree.specs.Entry.{Attribute, is_match}
use Rattle.change_laws.specs.op_modify.ldap_msg.declared.operations.ResultCode.{ResultCode}
use Rattle.change_laws.specs.op_modify.ldap_msg.declared.kinds.Change.{Change}
use Rattle.op_add_delete.specs.reading.NewEntries.{read_attribute, repeats}
use Rattle.op_add_delete.proofs.Theorems.{distinct-repeats as IsDistinct-from_repeats}
use Rattle.entry_changes.specs.declared.kind.ChangeKind.{ChangeKind}
use Rattle.entry_changes.specs.Change.{Modification}
use Rattle.change_laws.specs.op_modify.ReadChanges.{is_no_change, change_of, change_with, read_change, read_each, read_changes}

-- the values of the change are so
abbrev pub HasDistinctValues : Modification → Type 0
HasDistinctValues change = IsDistinct is_match change.values

distinct_once :
    (twice : Bool) (kind : ChangeKind) (attribute : Attribute) (change : Modification) (fault : ResultCode)
    → repeats is_match attribute.values ≡ twice
    → (if twice then Err fault else Ok (record { change = kind; kind = attribute.kind; values = attribute.values })) ≡ Ok change
    → HasDistinctValues change
distinct_once true kind attribute change fault none is = absurd cc
distinct_once false kind attribute change fault none is =
    let same : record { change = kind; kind = attribute.kind; values = attribute.values } ≡ change = cc in
    subst HasDistinctValues same (IsDistinct-from_repeats is_match attribute.values none)

distinct-read_change : (given : Change) (change : Modification) → read_change given ≡ Ok change → HasDistinctValues change
distinct-read_change given change is =
    let read = both_given (read_attribute given.body) (change_with (change_of given.operation)) change is in
    distinct_once (repeats is_match read.0.values) (change_of given.operation) read.0 change _ refl read.2

distinct-read_each :
    (given : List Change) (changes : List Modification) → read_each given ≡ Ok changes → AllByRecursion HasDistinctValues changes
unfolding read_each
distinct-read_each [] changes is =
    let same : [] ≡ changes = cc in
    subst (λ changes. AllByRecursion HasDistinctValues changes) same tt
distinct-read_each (one ∷ rest) changes is =
    let first = both_given (read_change one) (λ change. read_each rest >>= λ changes. Ok (change ∷ changes)) changes is in
    let later = both_given (read_each rest) (λ changes. Ok (first.0 ∷ changes)) changes first.2 in
    let same : first.0 ∷ later.0 ≡ changes = cc later.2 in
    subst (λ changes. AllByRecursion HasDistinctValues changes) same
    (distinct-read_change one first.0 first.1, distinct-read_each rest later.0 later.1)

distinct_where_all_are :
    (lacks : Bool) (given : List Change) (changes : List Modification) (fault : ResultCode)
    → (if lacks then Err fault else read_each given) ≡ Ok changes → AllByRecursion HasDistinctValues changes
distinct_where_all_are true given changes fault is = absurd cc
distinct_where_all_are false given changes fault is = distinct-read_each given changes is

pub distinct-read_changes :
    (given : List Change) (changes : List Modification) → read_changes given ≡ Ok changes
    → AllByRecursion HasDistinctValues changes
unfolding read_changes
distinct-read_changes given changes is = distinct_where_all_are (list_any is_no_change given) given changes _ is
