-- A modify is made exactly where nothing refuses it.
use Rattle.std.proofs.Common.{◌≡◌, ◌≢◌, true, false, List, [], ◌∷◌, Option, Some, None, Result, Ok, Err, if◌then◌else◌, refl, sym, ap, ◌∙◌}
use Rattle.std.proofs.lemmas.Bool.{cond-true}
use Rattle.dir_tree.specs.dn_names.name.Names.{RdnSequence}
use Rattle.dir_tree.specs.dn_names.parsing.NameText.{read_name}
use Rattle.dir_tree.specs.dn_names.declared.error.BadName.{BadName}
use Rattle.dir_tree.specs.Entry.{EntryInformation}
use Rattle.dir_tree.specs.tree.Trees.{named_in, put_in, taken_out}
use Rattle.acdf_filters.specs.aci_item.Rules.{broken_rule}
use Rattle.acdf_filters.specs.aci_item.declared.permission.Permission.TheVariants.{Modify}
use Rattle.acdf_filters.specs.declared.asking.Requester.{Requester}
use Rattle.acdf_filters.specs.Asking.{Entry}
use Rattle.acdf_filters.specs.Granted.{granted}
use Rattle.ldap_msg.specs.declared.operations.ResultCode.{ResultCode}
use Rattle.ldap_msg.specs.declared.kinds.ModifyRequest.{ModifyRequest}
use Rattle.op_add_delete.specs.read_model.Views.{view_of, hidden}
use Rattle.op_add_delete.specs.adding.Adding.{rule_refusal}
use Rattle.op_add_delete.specs.adding.Updates.{Refused, Made, unless}
use Rattle.op_add_delete.proofs.Theorems.{not_broken, unless-made}
use Rattle.entry_changes.specs.Change.{Modification, changed_by}
use Rattle.op_modify.specs.ReadChanges.{read_changes}
use Rattle.op_modify.specs.Modifying.{asker_of, modified_as, modified_target, modified_by, modified_named, modified}
use Rattle.change_laws.specs.ChangeGranting.{MayModify}
use Rattle.change_laws.proofs.laws.ChangeLemmas.{may-changed_by, changed_by-may}

-- what nothing refuses is made
modified_done :
    (entries : List EntryInformation) (who : Requester) (request : ModifyRequest) (name : RdnSequence) (changes : List Modification)
    (target left : EntryInformation) → read_name request.name ≡ Ok name → name ≢ [] → read_changes request.changes ≡ Ok changes
    → named_in name entries ≡ Some target → granted entries who target Entry Modify ≡ true
    → changed_by (asker_of entries who target) target changes ≡ Ok left
    → broken_rule (Some target) (taken_out target.name entries) left ≡ None
    → modified entries who request ≡ Made (put_in left (taken_out target.name entries))
unfolding modified
modified_done entries who request [] changes target left name_read some changes_read found allowed is unbroken = absurd (some refl)
modified_done entries who request (rdn ∷ rdns) changes target left name_read some changes_read found allowed is unbroken =
    let asks = granted entries who target in
    ap (modified_named entries who request.changes) name_read
    ∙ ap (modified_by entries who (rdn ∷ rdns)) changes_read
    ∙ ap (modified_target entries who (rdn ∷ rdns) changes) found
    ∙ cond-true (asks Entry Modify) (modified_as entries target (changed_by (asker_of entries who target) target changes)) (Refused (hidden (view_of entries who) (rdn ∷ rdns))) allowed
    ∙ ap (modified_as entries target) is
    ∙ ap (λ broken. unless (rule_refusal broken) (put_in left (taken_out target.name entries))) unbroken

pub modified-may :
    (entries : List EntryInformation) (who : Requester) (request : ModifyRequest) (target left : EntryInformation)
    → MayModify entries who request target left
    → modified entries who request ≡ Made (put_in left (taken_out target.name entries))
modified-may entries who request target left may =
    modified_done entries who request may.name may.changes target left may.name_read may.named may.changes_read may.found may.allowed
    (changed_by-may (asker_of entries who target) target may.changes left may.changed) may.unbroken

-- and what was changed was granted
abbrev MayModifySome : List EntryInformation → Requester → ModifyRequest → Type 0
MayModifySome entries who request = (target : EntryInformation) × (left : EntryInformation) × MayModify entries who request target left

may-modified_as :
    (entries : List EntryInformation) (who : Requester) (request : ModifyRequest) (name : RdnSequence) (changes : List Modification)
    (target : EntryInformation) (found : Result EntryInformation ResultCode) (after : List EntryInformation) → read_name request.name ≡ Ok name → name ≢ []
    → read_changes request.changes ≡ Ok changes → named_in name entries ≡ Some target → granted entries who target Entry Modify ≡ true
    → changed_by (asker_of entries who target) target changes ≡ found → modified_as entries target found ≡ Made after
    → MayModifySome entries who request
may-modified_as entries who request name changes target (Err code) after name_read some changes_read known allowed is done = absurd cc
may-modified_as entries who request name changes target (Ok left) after name_read some changes_read known allowed is done =
    let broken = broken_rule (Some target) (taken_out target.name entries) left in (
      target,
      left,
      record {
        name = name;
        name_read = name_read;
        named = some;
        changes = changes;
        changes_read = changes_read;
        found = known;
        allowed = allowed;
        changed = may-changed_by (asker_of entries who target) target changes left is;
        unbroken = not_broken broken (unless-made (rule_refusal broken) (put_in left (taken_out target.name entries)) after done);
      },
    )

may-modified_target :
    (entries : List EntryInformation) (who : Requester) (request : ModifyRequest) (name : RdnSequence) (changes : List Modification)
    (found : Option EntryInformation) (after : List EntryInformation) → read_name request.name ≡ Ok name → name ≢ [] → read_changes request.changes ≡ Ok changes
    → named_in name entries ≡ found → modified_target entries who name changes found ≡ Made after
    → MayModifySome entries who request
may-modified_target entries who request name changes None after name_read some changes_read is done = absurd cc
may-modified_target entries who request name changes (Some target) after name_read some changes_read is done =
    let asks = granted entries who target in
    let made = modified_as entries target (changed_by (asker_of entries who target) target changes) in
    let kept = Refused (hidden (view_of entries who) name) in
    (elim (asks Entry Modify)
    as (λ allowed. asks Entry Modify ≡ allowed → (if allowed then made else kept) ≡ Made after → MayModifySome entries who request) [
      | true ↦ λ allowed done. may-modified_as entries who request name changes target (changed_by (asker_of entries who target) target changes) after name_read some changes_read is allowed refl done
      | false ↦ λ allowed done. absurd cc
    ]) refl done

may-modified_by :
    (entries : List EntryInformation) (who : Requester) (request : ModifyRequest) (name : RdnSequence)
    (found : Result (List Modification) ResultCode) (after : List EntryInformation) → read_name request.name ≡ Ok name → name ≢ []
    → read_changes request.changes ≡ found → modified_by entries who name found ≡ Made after → MayModifySome entries who request
may-modified_by entries who request name (Err code) after name_read some is done = absurd cc
may-modified_by entries who request name (Ok changes) after name_read some is done =
    may-modified_target entries who request name changes (named_in name entries) after name_read some is refl done

may-modified_named :
    (entries : List EntryInformation) (who : Requester) (request : ModifyRequest) (found : Result RdnSequence BadName)
    (after : List EntryInformation) → read_name request.name ≡ found → modified_named entries who request.changes found ≡ Made after
    → MayModifySome entries who request
may-modified_named entries who request (Err bad) after is done = absurd cc
may-modified_named entries who request (Ok []) after is done = absurd cc
may-modified_named entries who request (Ok (rdn ∷ rdns)) after is done =
    may-modified_by entries who request (rdn ∷ rdns) (read_changes request.changes) after is (λ none. cc) refl done

pub may-modified :
    (entries : List EntryInformation) (who : Requester) (request : ModifyRequest) (after : List EntryInformation)
    → modified entries who request ≡ Made after
    → (target : EntryInformation) × (left : EntryInformation) × MayModify entries who request target left
unfolding modified
may-modified entries who request after done = may-modified_named entries who request (read_name request.name) after refl done
