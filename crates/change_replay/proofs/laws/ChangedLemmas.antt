-- Modifies and renames that were accepted are applied.
use Rattle.std.proofs.Common.{◌≡◌, true, false, List, Option, Some, None, Ok, refl, sym, ap, subst, ◌∙◌}
use Rattle.std.proofs.lemmas.Bool.{cond_both, not_from_true, or_from}
use Rattle.dir_tree.specs.plain_values.Results.{◌>>=◌}
use Rattle.dir_tree.specs.plain_values.Refusals.{first_some}
use Rattle.dir_tree.proofs.plain_values_proofs.Theorems.{none_from, when_not}
use Rattle.dir_tree.specs.dn_names.NameOrder.{is_same}
use Rattle.dir_tree.specs.Entry.{EntryInformation}
use Rattle.dir_tree.specs.tree.Trees.{named_in, put_in, taken_out}
use Rattle.acdf_filters.specs.aci_item.Rules.{broken_rule}
use Rattle.acdf_filters.specs.declared.asking.Requester.{Requester}
use Rattle.entry_changes.specs.Change.{unless_refused}
use Rattle.entry_changes.specs.Renaming.{renamed_entry}
use Rattle.op_add_delete.specs.adding.Updates.{Made, left_by}
use Rattle.change_laws.specs.op_modify.Modifying.{asker_of, modified}
use Rattle.change_laws.specs.op_modify.ReadRenames.{read_renaming}
use Rattle.change_laws.specs.op_modify.Renames.{new_name, other_named, renamed}
use Rattle.change_laws.specs.op_modify.ldap_msg.declared.kinds.ModifyRequest.{ModifyRequest}
use Rattle.change_laws.specs.op_modify.ldap_msg.declared.kinds.RenameRequest.{RenameRequest}
use Rattle.change_laws.specs.ChangeGranting.{MayModify, MayRename}
use Rattle.change_replay.specs.Applied.{target_by, taken_refusal, rule_refusal, with_in_place, with_changed, with_changed_named, with_modified, applied_modify, coming_rows, with_moved, with_renamed, with_renamed_named, applied_rename}
use Rattle.change_replay.proofs.laws.StepLemmas.{name-read, renaming-read}
use Rattle.change_replay.proofs.laws.GrantLemmas.{changed_by-granted}

-- ---- modifies

modify-may :
    (entries : List EntryInformation) (who : Requester) (request : ModifyRequest) (target left : EntryInformation)
    → MayModify entries who request target left
    → applied_modify entries request ≡ Ok (put_in left (taken_out target.name entries))
unfolding applied_modify
modify-may entries who request target left may =
    ap (λ name. name >>= with_modified entries request.changes) (name-read request.name may.name may.name_read may.named)
    ∙ ap (λ found. found >>= with_changed_named entries may.name) may.changes_read
    ∙ ap (λ found. target_by found >>= with_changed entries may.changes) may.found
    ∙ ap (λ found. found >>= with_in_place entries target) (changed_by-granted (asker_of entries who target) target may.changes left may.changed)
    ∙ ap (λ broken. unless_refused (rule_refusal broken) (put_in left (taken_out target.name entries))) may.unbroken

abbrev pub Modifies : Type 0
Modifies =
    (entries : List EntryInformation) (who : Requester) (request : ModifyRequest) (target left : EntryInformation)
    → MayModify entries who request target left
    → modified entries who request ≡ Made (put_in left (taken_out target.name entries))

abbrev pub OnlyModifies : Type 0
OnlyModifies =
    (entries : List EntryInformation) (who : Requester) (request : ModifyRequest) (after : List EntryInformation)
    → modified entries who request ≡ Made after
    → (target : EntryInformation) × (left : EntryInformation) × MayModify entries who request target left

pub applied-modified :
    Modifies → OnlyModifies → (entries : List EntryInformation) (who : Requester) (request : ModifyRequest) (after : List EntryInformation)
    → modified entries who request ≡ Made after → applied_modify entries request ≡ Ok after
applied-modified does only entries who request after made =
    let may = only entries who request after made in
    modify-may entries who request may.0 may.1 may.2 ∙ ap Ok (ap (left_by entries) (sym (does entries who request may.0 may.1 may.2) ∙ made))

-- ---- renames

free-moved :
    (entries : List EntryInformation) (target entry : EntryInformation) → (is_same entry.name target.name ≡ false → named_in entry.name entries ≡ None)
    → broken_rule (Some target) (taken_out target.name entries) entry ≡ None → first_some (coming_rows entries target entry) ≡ None
free-moved entries target entry free unbroken =
    let other : other_named entries target entry.name ≡ None =
    cond_both (is_same entry.name target.name) None (named_in entry.name entries) (λ found. found ≡ None) (λ _. refl) free in
    none_from _ _ (ap taken_refusal other) (none_from _ _ (ap rule_refusal unbroken) refl)

rename-may :
    (entries : List EntryInformation) (who : Requester) (request : RenameRequest) (target entry : EntryInformation)
    → MayRename entries who request target entry
    → applied_rename entries request ≡ Ok (put_in entry (taken_out target.name entries))
unfolding applied_rename
rename-may entries who request target entry may =
    let renaming = may.renaming in
    let new = renamed_entry (new_name entries renaming) renaming.delete_old target in
    let free = subst (λ (entry : EntryInformation). is_same entry.name target.name ≡ false → named_in entry.name entries ≡ None) may.is may.free in
    let unbroken = subst (λ (entry : EntryInformation). broken_rule (Some target) (taken_out target.name entries) entry ≡ None) may.is may.unbroken in
    ap (λ found. found >>= with_renamed_named entries) (renaming-read (read_renaming request) renaming may.read may.named)
    ∙ ap (λ found. target_by found >>= with_renamed entries renaming) may.found
    ∙ ap (λ refusal. unless_refused refusal new >>= with_moved entries target)
    (none_from _ _ (when_not _ _ (or_from _ _ may.other may.apart))
    (none_from _ _ (when_not _ _ may.alone) (none_from _ _ (when_not _ _ (not_from_true _ may.under)) refl)))
    ∙ ap (λ refusal. unless_refused refusal (put_in new (taken_out target.name entries))) (free-moved entries target new free unbroken)
    ∙ ap (λ (entry : EntryInformation). Ok (put_in entry (taken_out target.name entries))) (sym may.is)

abbrev pub Renames : Type 0
Renames =
    (entries : List EntryInformation) (who : Requester) (request : RenameRequest) (target entry : EntryInformation)
    → MayRename entries who request target entry
    → renamed entries who request ≡ Made (put_in entry (taken_out target.name entries))

abbrev pub OnlyRenames : Type 0
OnlyRenames =
    (entries : List EntryInformation) (who : Requester) (request : RenameRequest) (after : List EntryInformation)
    → renamed entries who request ≡ Made after
    → (target : EntryInformation) × (entry : EntryInformation) × MayRename entries who request target entry

pub applied-renamed :
    Renames → OnlyRenames → (entries : List EntryInformation) (who : Requester) (request : RenameRequest) (after : List EntryInformation)
    → renamed entries who request ≡ Made after → applied_rename entries request ≡ Ok after
applied-renamed does only entries who request after made =
    let may = only entries who request after made in
    rename-may entries who request may.0 may.1 may.2 ∙ ap Ok (ap (left_by entries) (sym (does entries who request may.0 may.1 may.2) ∙ made))
