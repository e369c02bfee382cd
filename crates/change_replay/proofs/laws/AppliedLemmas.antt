-- Deletes and adds that were accepted are applied.
use Rattle.std.proofs.Common.{◌≡◌, true, not, List, Option, None, Ok, refl, sym, ap, subst, ◌∙◌}
use Rattle.std.proofs.lemmas.Bool.{not_from_true}
use Rattle.dir_tree.specs.plain_values.Results.{◌>>=◌}
use Rattle.dir_tree.specs.plain_values.Refusals.{first_some}
use Rattle.dir_tree.proofs.plain_values_proofs.Theorems.{none_from, when_not}
use Rattle.dir_tree.specs.dn_names.name.Names.{RdnSequence, last_rdn}
use Rattle.dir_tree.specs.Entry.{Attribute, EntryInformation}
use Rattle.dir_tree.specs.tree.Trees.{named_in, has_name, superior_name, put_in, taken_out}
use Rattle.acdf_filters.specs.aci_item.Rules.{broken_rule}
use Rattle.acdf_filters.specs.declared.asking.Requester.{Requester}
use Rattle.entry_changes.specs.Change.{unless_refused}
use Rattle.op_add_delete.specs.reading.NewEntries.{new_entry}
use Rattle.op_add_delete.specs.adding.Updates.{Made, left_by, deleted, added}
use Rattle.op_add_delete.proofs.ldif_load_proofs.Theorems.{name-with_pairs}
use Rattle.change_laws.specs.op_modify.ldap_msg.declared.kinds.AddRequest.{AddRequest}
use Rattle.change_laws.specs.op_modify.ldap_msg.declared.kinds.DeleteRequest.{DeleteRequest}
use Rattle.change_laws.specs.Granting.{MayDelete, MayAdd}
use Rattle.change_replay.specs.Applied.{target_by, taken_refusal, rule_refusal, without_target, without_named, applied_delete, add_rows, with_new, with_named, applied_add}
use Rattle.change_replay.proofs.laws.StepLemmas.{name-read}

-- ---- deletes

delete-may :
    (entries : List EntryInformation) (who : Requester) (request : DeleteRequest) (target : EntryInformation)
    → MayDelete entries who request target → applied_delete entries request ≡ Ok (taken_out target.name entries)
unfolding applied_delete
delete-may entries who request target may =
    ap (λ name. name >>= without_named entries) (name-read request.name may.name may.name_read may.named)
    ∙ ap (λ found. target_by found >>= without_target entries) may.found
    ∙ ap (λ refusal. unless_refused refusal (taken_out target.name entries))
    (none_from _ _ (when_not _ _ may.other) (none_from _ _ (when_not _ _ may.alone) refl))

-- what may be done is done, and only that
abbrev pub Deletes : Type 0
Deletes =
    (entries : List EntryInformation) (who : Requester) (request : DeleteRequest) (target : EntryInformation)
    → MayDelete entries who request target → deleted entries who request ≡ Made (taken_out target.name entries)

abbrev pub OnlyDeletes : Type 0
OnlyDeletes =
    (entries : List EntryInformation) (who : Requester) (request : DeleteRequest) (after : List EntryInformation)
    → deleted entries who request ≡ Made after
    → (target : EntryInformation) × MayDelete entries who request target

pub applied-deleted :
    Deletes → OnlyDeletes → (entries : List EntryInformation) (who : Requester) (request : DeleteRequest) (after : List EntryInformation)
    → deleted entries who request ≡ Made after → applied_delete entries request ≡ Ok after
applied-deleted does only entries who request after made =
    let may = only entries who request after made in
    delete-may entries who request may.0 may.1 ∙ ap Ok (ap (left_by entries) (sym (does entries who request may.0 may.1) ∙ made))

-- ---- adds

-- the table of an entry that may be added
free-new :
    (entries : List EntryInformation) (name : RdnSequence) (entry : EntryInformation) → entry.name ≡ name
    → named_in name entries ≡ None → has_name (superior_name name) entries ≡ true → broken_rule None entries entry ≡ None
    → first_some (add_rows entries entry) ≡ None
free-new entries name entry same free under unbroken =
    none_from _ _ (ap (λ (name : RdnSequence). taken_refusal (named_in name entries)) same ∙ ap taken_refusal free)
    (none_from _ _ (when_not _ _ (ap (λ (name : RdnSequence). not (has_name (superior_name name) entries)) same ∙ not_from_true _ under))
    (none_from _ _ (ap rule_refusal unbroken) refl))

add-may :
    (entries : List EntryInformation) (who : Requester) (request : AddRequest) (entry : EntryInformation)
    → MayAdd entries who request entry → applied_add entries request ≡ Ok (put_in entry entries)
unfolding applied_add
add-may entries who request entry may =
    let new = new_entry may.name may.attributes in
    let unbroken = subst (λ (entry : EntryInformation). broken_rule None entries entry ≡ None) may.is may.unbroken in
    let same = name-with_pairs (record { name = may.name; attributes = may.attributes }) (last_rdn may.name) in
    ap (λ name. name >>= with_named entries request.attributes) (name-read request.name may.name may.name_read may.named)
    ∙ ap (λ found. found >>= λ attributes. with_new entries (new_entry may.name attributes)) may.attributes_read
    ∙ ap (λ refusal. unless_refused refusal (put_in new entries)) (free-new entries may.name new same may.free may.under unbroken)
    ∙ ap (λ (entry : EntryInformation). Ok (put_in entry entries)) (sym may.is)

abbrev pub Adds : Type 0
Adds =
    (entries : List EntryInformation) (who : Requester) (request : AddRequest) (entry : EntryInformation)
    → MayAdd entries who request entry → added entries who request ≡ Made (put_in entry entries)

abbrev pub OnlyAdds : Type 0
OnlyAdds =
    (entries : List EntryInformation) (who : Requester) (request : AddRequest) (after : List EntryInformation)
    → added entries who request ≡ Made after
    → (entry : EntryInformation) × MayAdd entries who request entry

pub applied-added :
    Adds → OnlyAdds → (entries : List EntryInformation) (who : Requester) (request : AddRequest) (after : List EntryInformation)
    → added entries who request ≡ Made after → applied_add entries request ≡ Ok after
applied-added does only entries who request after made =
    let may = only entries who request after made in
    add-may entries who request may.0 may.1 ∙ ap Ok (ap (left_by entries) (sym (does entries who request may.0 may.1) ∙ made))
