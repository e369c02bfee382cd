-- Renames: what they leave.
use Rattle.std.proofs.Common.{◌≡◌, ◌≢◌, ◌==◌, Bool, true, false, not, ◌&&◌, List, [], length, Option, Some, None, if◌then◌else◌, refl, sym, ap, subst, ◌∙◌}
use Rattle.std.proofs.lemmas.Bool.{cond-false, cond_both, not-false, not_from_true, or_parts, or_from}
use Rattle.dir_tree.specs.dn_names.name.Names.{RdnSequence}
use Rattle.dir_tree.specs.dn_names.NameOrder.{is_same}
use Rattle.dir_tree.specs.dn_names.name.GoodNames.{IsGoodName}
use Rattle.dir_tree.specs.Entry.{EntryInformation, IsGoodAttributes}
use Rattle.dir_tree.specs.tree.Trees.{named_in, has_name, has_below, lacks_superior, put_in, taken_out}
use Rattle.dir_tree.proofs.TreeTheorems.{all_named as found_all, found_by_own_name, put_in-some}
use Rattle.acdf_filters.specs.aci_item.Rules.{broken_rule, AreGood, IsGoodTree}
use Rattle.acdf_filters.specs.aci_item.declared.permission.Permission.TheVariants.{Rename, Export, Import}
use Rattle.acdf_filters.specs.declared.asking.Requester.{Requester}
use Rattle.acdf_filters.specs.Asking.{Entry}
use Rattle.acdf_filters.specs.Granted.{granted, granted_new}
use Rattle.ldap_msg.specs.declared.operations.ResultCode.TheVariants as code
use Rattle.ldap_msg.specs.declared.kinds.RenameRequest.{RenameRequest}
use Rattle.op_add_delete.specs.directory.Targets.{is_suffix}
use Rattle.op_add_delete.specs.read_model.Views.{result_of}
use Rattle.op_add_delete.specs.adding.Adding.{rule_refusal}
use Rattle.op_add_delete.specs.adding.Updates.{Refused, left_by}
use Rattle.op_add_delete.proofs.Theorems.{not_broken, unless-good}
use Rattle.entry_changes.specs.Renaming.{renamed_entry}
use Rattle.op_modify.specs.declared.renaming.Renaming.{Renaming}
use Rattle.op_modify.specs.ReadRenames.{moves, asks_rename, above}
use Rattle.op_modify.specs.Renames.{new_name, taken_refusal, other_named, rename_refusal, renamed_target, renamed_by, renamed}
use Rattle.change_laws.proofs.laws.FoundLemmas.{free_beside}
use Rattle.change_laws.proofs.laws.NameLemmas.{IsNewName, IsNewName-read}
use Rattle.change_laws.proofs.laws.RenamingLemmas.{IsRead, IsRead-read, by_reading, some_rdns}
use Rattle.ldap_msg.proofs.plain_values_proofs.Theorems.{none_of, none_from, not_when, when_not}

-- what a target meets that is renamed, and the entry that it becomes
pub record IsRenamable (entries : List EntryInformation) (who : Requester) (renaming : Renaming) (target entry : EntryInformation) : Type 0 where
  pub renamed : asks_rename renaming ≡ true → granted entries who target Entry Rename ≡ true
  pub exported : moves renaming ≡ true → granted entries who target Entry Export ≡ true
  pub other : is_suffix target.name entries ≡ false
  pub apart : is_same (above renaming) target.name ≡ false
  pub alone : has_below target.name entries ≡ false
  pub under : has_name (above renaming) entries ≡ true
  pub free : is_same entry.name target.name ≡ false → named_in entry.name entries ≡ None
  pub imported : moves renaming ≡ true → granted_new entries who entry Entry Import ≡ true
  pub unbroken : broken_rule (Some target) (taken_out target.name entries) entry ≡ None

-- a row over an option
not_taken :
    (entries : List EntryInformation) (who : Requester) (found : Option EntryInformation)
    → taken_refusal entries who found ≡ None → found ≡ None
not_taken entries who None is = refl
not_taken entries who (Some other) is = absurd cc

-- a decision that is needed, and is granted
granted_where : (needed is_granted : Bool) → (needed && not is_granted) ≡ false → needed ≡ true → is_granted ≡ true
granted_where true is_granted none is = not-false is_granted none
granted_where false is_granted none is = absurd cc

where_granted : (needed is_granted : Bool) → (needed ≡ true → is_granted ≡ true) → (needed && not is_granted) ≡ false
where_granted true is_granted may = not_from_true is_granted (may refl)
where_granted false is_granted may = refl

pub IsRenamable-unrefused :
    (entries : List EntryInformation) (who : Requester) (renaming : Renaming) (target entry : EntryInformation)
    → rename_refusal entries who renaming target entry ≡ None → IsRenamable entries who renaming target entry
unfolding rename_refusal
IsRenamable-unrefused entries who renaming target entry none =
    let first = none_of _ _ none in
    let second = none_of _ _ first.1 in
    let third = none_of _ _ second.1 in
    let fourth = none_of _ _ third.1 in
    let fifth = none_of _ _ fourth.1 in
    let sixth = none_of _ _ fifth.1 in
    let seventh = none_of _ _ sixth.1 in
    let leaves = or_parts _ _ (not_when _ _ first.0) in
    let stands = or_parts _ _ (not_when _ _ second.0) in
    let free = not_taken entries who (other_named entries target entry.name) fifth.0 in
    record {
      renamed = granted_where _ _ leaves.0;
      exported = granted_where _ _ leaves.1;
      other = stands.0;
      apart = stands.1;
      alone = not_when _ _ third.0;
      under = not-false _ (not_when _ _ fourth.0);
      free = λ apart. sym (cond-false (is_same entry.name target.name) None (named_in entry.name entries) apart) ∙ free;
      imported = granted_where _ _ (not_when _ _ sixth.0);
      unbroken = not_broken (broken_rule (Some target) (taken_out target.name entries) entry) seventh.0;
    }

pub unrefused-IsRenamable :
    (entries : List EntryInformation) (who : Requester) (renaming : Renaming) (target entry : EntryInformation)
    → IsRenamable entries who renaming target entry → rename_refusal entries who renaming target entry ≡ None
unfolding rename_refusal
unrefused-IsRenamable entries who renaming target entry is =
    let free : other_named entries target entry.name ≡ None =
    cond_both (is_same entry.name target.name) None (named_in entry.name entries) (λ found. found ≡ None) (λ _. refl) is.free in
    none_from _ _ (when_not _ _ (or_from _ _ (where_granted _ _ is.renamed) (where_granted _ _ is.exported)))
    (none_from _ _ (when_not _ _ (or_from _ _ is.other is.apart))
    (none_from _ _ (when_not _ _ is.alone)
    (none_from _ _ (when_not _ _ (not_from_true _ is.under))
    (none_from _ _ (ap (taken_refusal entries who) free)
    (none_from _ _ (when_not _ _ (where_granted _ _ is.imported))
    (none_from _ _ (ap rule_refusal is.unbroken) refl))))))

-- good entries stay so where one below which none stands gets a free name whose superior is left
abbrev pub StaysUnderNewName : Type 0
StaysUnderNewName =
    (entries : List EntryInformation) (old new : EntryInformation) → AreGood entries
    → named_in old.name entries ≡ Some old → has_below old.name entries ≡ false
    → new.name ≢ [] → has_name new.name (taken_out old.name entries) ≡ false
    → lacks_superior new.name (taken_out old.name entries) ≡ false
    → IsGoodName new.name → IsGoodAttributes new.attributes
    → broken_rule (Some old) (taken_out old.name entries) new ≡ None
    → AreGood (put_in new (taken_out old.name entries))

-- a rename leaves good attributes, and gives the name
abbrev pub RenameKeepsGood : Type 0
RenameKeepsGood =
    (name : RdnSequence) (delete_old : Bool) (entry : EntryInformation) → IsGoodAttributes entry.attributes
    → IsGoodAttributes (renamed_entry name delete_old entry).attributes

abbrev pub RenameGivesName : Type 0
RenameGivesName =
    (name : RdnSequence) (delete_old : Bool) (entry : EntryInformation) → (renamed_entry name delete_old entry).name ≡ name

-- a good tree stays good
module _ (stays : StaysUnderNewName) (keeps_good : RenameKeepsGood) (called : RenameGivesName) where
  module _ (entries : List EntryInformation) (who : Requester) (request : RenameRequest) (renaming : Renaming) (read : IsRead request renaming) (named : renaming.name ≢ []) (good : IsGoodTree entries) where
    good_with_renamed :
        (target : EntryInformation) → named_in renaming.name entries ≡ Some target
        → IsRenamable entries who renaming target (renamed_entry (new_name entries renaming) renaming.delete_old target)
        → IsGoodTree (put_in (renamed_entry (new_name entries renaming) renaming.delete_old target) (taken_out target.name entries))
    good_with_renamed target found may =
        let new = new_name entries renaming in
        let entry = renamed_entry new renaming.delete_old target in
        let known = found_by_own_name renaming.name target entries found in
        let attributes = found_all (λ entry. IsGoodAttributes entry.attributes) target.name target entries good.good.attributes known in
        let name : IsNewName entries target.name entry.name =
        subst (IsNewName entries target.name) (sym (called new renaming.delete_old target)) (IsNewName-read entries request renaming target good.good.names named found read may.apart may.under) in
        record {
          some = put_in-some entry (taken_out target.name entries);
          good = stays entries target entry good.good known may.alone name.some (free_beside target.name entry.name entries may.free) name.under name.good
              (keeps_good new renaming.delete_old target attributes) may.unbroken;
        }

    good_found :
        (found : Option EntryInformation) → named_in renaming.name entries ≡ found
        → IsGoodTree (left_by entries (renamed_target entries who renaming found))
    good_found None is = good
    good_found (Some target) is =
        let entry = renamed_entry (new_name entries renaming) renaming.delete_old target in
        unless-good (rename_refusal entries who renaming target entry) entries (put_in entry (taken_out target.name entries)) good (λ none.
        good_with_renamed target is (IsRenamable-unrefused entries who renaming target entry none))

  good_read :
      (entries : List EntryInformation) (who : Requester) (request : RenameRequest) (renaming : Renaming) → IsRead request renaming
      → IsGoodTree entries → IsGoodTree (left_by entries (renamed_by entries who (Some renaming)))
  good_read entries who request renaming read good =
      let kept = Refused (result_of code.UnwillingToPerform) in
      let made = renamed_target entries who renaming (named_in renaming.name entries) in
      (elim (length renaming.name == 0) as (λ empty. (length renaming.name == 0) ≡ empty → IsGoodTree (left_by entries (if empty then kept else made))) [
        | true ↦ λ _. good
        | false ↦ λ some. good_found entries who request renaming read (some_rdns renaming.name some) good (named_in renaming.name entries) refl
      ]) refl

  pub good-renamed :
      (entries : List EntryInformation) (who : Requester) (request : RenameRequest) → IsGoodTree entries
      → IsGoodTree (left_by entries (renamed entries who request))
  good-renamed entries who request good =
      by_reading (λ changed. IsGoodTree (left_by entries changed)) entries who request good
      (λ renaming is. good_read entries who request renaming (IsRead-read request renaming is) good)
