-- A good tree stays good, whatever is renamed, and so where changes are replayed.
use Rattle.std.proofs.Common.{◌≡◌, ◌≢◌, ℕ, Bool, true, false, not, List, [], ◌∷◌, Some, None, Result, Ok, Err, refl, sym, ap, subst, ◌∙◌}
use Rattle.std.proofs.lemmas.Bool.{cond-false, not-false, or_parts}
use Rattle.dir_tree.specs.plain_values.Results.{◌>>=◌}
use Rattle.dir_tree.specs.plain_values.Refusals.{first_some}
use Rattle.dir_tree.proofs.plain_values_proofs.Theorems.{both_given, none_of, not_when}
use Rattle.dir_tree.specs.dn_names.name.Names.{RdnSequence}
use Rattle.dir_tree.specs.dn_names.NameOrder.{is_same}
use Rattle.dir_tree.specs.dn_names.name.GoodNames.{IsGoodName}
use Rattle.dir_tree.specs.Entry.{EntryInformation, IsGoodAttributes}
use Rattle.dir_tree.specs.tree.Trees.{named_in, has_name, has_below, lacks_superior, put_in, taken_out}
use Rattle.dir_tree.proofs.TreeTheorems.{all_named as found_all, found_by_own_name, put_in-some}
use Rattle.acdf_filters.specs.aci_item.Rules.{broken_rule, AreGood, IsGoodTree}
use Rattle.entry_changes.specs.Renaming.{renamed_entry}
use Rattle.change_laws.specs.op_modify.declared.renaming.Renaming.{Renaming}
use Rattle.change_laws.specs.op_modify.ReadRenames.{read_renaming, above}
use Rattle.change_laws.specs.op_modify.Renames.{new_name, other_named}
use Rattle.change_laws.specs.op_modify.ldap_msg.declared.operations.ResultCode.{ResultCode}
use Rattle.change_laws.specs.op_modify.ldap_msg.declared.kinds.RenameRequest.{RenameRequest}
use Rattle.change_laws.specs.op_modify.ldap_msg.declared.kinds.Request.{Request}
use Rattle.change_laws.specs.op_modify.ldap_msg.declared.kinds.Request.TheVariants as request
use Rattle.change_laws.specs.op_modify.ldap_msg.declared.kinds.Update.TheVariants as update
use Rattle.change_records.specs.declared.types.RecordedChange.{RecordedChange}
use Rattle.change_replay.specs.Applied.{target_in, leaving_rows, become, coming_rows, with_moved, with_renamed, with_renamed_named, renaming_by, applied_rename, applied}
use Rattle.change_replay.specs.Replayed.{RefusedChange, at_line, replayed}
use Rattle.change_replay.proofs.laws.StepLemmas.{found-target, not_taken, not_broken, IsUnrefused-left, IsRenaming-found}
use Rattle.change_replay.proofs.laws.PlaceLemmas.{free_beside}
use Rattle.change_replay.proofs.laws.RenamingLemmas.{IsRead-read}
use Rattle.change_replay.proofs.laws.NameLemmas.{IsNewName, IsNewName-read}
use Rattle.change_replay.proofs.laws.GoodLemmas.{good-delete, good-add, good-modify, StaysUnderName, ChangesKeepGood, ChangesKeepName}

-- good entries stay so where one below which none stands gets a free name whose superior is left
abbrev pub StaysUnderNewName : Type 0
StaysUnderNewName =
    (entries : List EntryInformation) (old new : EntryInformation) → AreGood entries
    → named_in old.name entries ≡ Some old → has_below old.name entries ≡ false
    → new.name ≢ [] → has_name new.name (taken_out old.name entries) ≡ false
    → lacks_superior new.name (taken_out old.name entries) ≡ false
    → IsGoodName new.name → IsGoodAttributes new.attributes
    → broken_rule (Some old) (taken_out old.name entries) new ≡ None
    → AreGood (put_in new (taken_out old.name entries))

-- a rename leaves good attributes, and gives the name
abbrev pub RenameKeepsGood : Type 0
RenameKeepsGood =
    (name : RdnSequence) (delete_old : Bool) (entry : EntryInformation) → IsGoodAttributes entry.attributes
    → IsGoodAttributes (renamed_entry name delete_old entry).attributes

abbrev pub RenameGivesName : Type 0
RenameGivesName =
    (name : RdnSequence) (delete_old : Bool) (entry : EntryInformation) → (renamed_entry name delete_old entry).name ≡ name

module _ (stays : StaysUnderNewName) (keeps_good : RenameKeepsGood) (called : RenameGivesName) where
  good_with_moved :
      (entries : List EntryInformation) (request : RenameRequest) (renaming : Renaming) (target : EntryInformation)
      → read_renaming request ≡ Some renaming → renaming.name ≢ [] → named_in renaming.name entries ≡ Some target
      → first_some (leaving_rows entries renaming target) ≡ None
      → first_some (coming_rows entries target (renamed_entry (new_name entries renaming) renaming.delete_old target)) ≡ None
      → IsGoodTree entries
      → IsGoodTree (put_in (renamed_entry (new_name entries renaming) renaming.delete_old target) (taken_out target.name entries))
  good_with_moved entries request renaming target read named found leaving coming good =
      let new = new_name entries renaming in
      let entry = renamed_entry new renaming.delete_old target in
      let known = found_by_own_name renaming.name target entries found in
      let attributes = found_all (λ entry. IsGoodAttributes entry.attributes) target.name target entries good.good.attributes known in
      let first = none_of _ _ leaving in
      let second = none_of _ _ first.1 in
      let third = none_of _ _ second.1 in
      let stands = or_parts _ _ (not_when _ _ first.0) in
      let under = not-false _ (not_when _ _ third.0) in
      let taken = none_of _ _ coming in
      let broken = none_of _ _ taken.1 in
      let free : is_same entry.name target.name ≡ false → named_in entry.name entries ≡ None =
      λ apart. sym (cond-false (is_same entry.name target.name) None (named_in entry.name entries) apart) ∙ not_taken (other_named entries target entry.name) taken.0 in
      let name : IsNewName entries target.name entry.name =
      subst (IsNewName entries target.name) (sym (called new renaming.delete_old target))
      (IsNewName-read entries request renaming target good.good.names named found (IsRead-read request renaming read) stands.1 under) in
      record {
        some = put_in-some entry (taken_out target.name entries);
        good = stays entries target entry good.good known (not_when _ _ second.0) name.some (free_beside target.name entry.name entries free) name.under name.good
            (keeps_good new renaming.delete_old target attributes) (not_broken _ broken.0);
      }

  good-rename :
      (entries left : List EntryInformation) (request : RenameRequest) → IsGoodTree entries
      → applied_rename entries request ≡ Ok left → IsGoodTree left
  unfolding applied_rename
  good-rename entries left request good is =
      let asked = both_given (renaming_by (read_renaming request)) (with_renamed_named entries) left is in
      let renaming = asked.0 in
      let read = IsRenaming-found (read_renaming request) renaming asked.1 in
      let target = both_given (target_in entries renaming.name) (with_renamed entries renaming) left asked.2 in
      let found = found-target entries renaming.name target.0 target.1 in
      let moved = both_given (become entries renaming target.0) (with_moved entries target.0) left target.2 in
      let new = renamed_entry (new_name entries renaming) renaming.delete_old target.0 in
      let leaving = IsUnrefused-left (first_some (leaving_rows entries renaming target.0)) new moved.0 moved.1 in
      let rest = taken_out target.0.name entries in
      let coming = IsUnrefused-left (first_some (coming_rows entries target.0 moved.0)) (put_in moved.0 rest) left moved.2 in
      let none = subst (λ (entry : EntryInformation). first_some (coming_rows entries target.0 entry) ≡ None) (sym leaving.same) coming.none in
      let same = ap (λ (entry : EntryInformation). put_in entry rest) leaving.same ∙ coming.same in
      subst IsGoodTree same (good_with_moved entries request renaming target.0 read.read read.some found leaving.none none good)

  module _ (stays_named : StaysUnderName) (keeps : ChangesKeepGood) (keeps_name : ChangesKeepName) where
    good-applied :
        (entries left : List EntryInformation) (change : Request) → IsGoodTree entries → applied entries change ≡ Ok left
        → IsGoodTree left
    good-applied entries left (request.Update (update.Modify modify)) good is = good-modify stays_named keeps keeps_name entries left modify good is
    good-applied entries left (request.Update (update.Add add)) good is = good-add entries left add good is
    good-applied entries left (request.Update (update.Delete delete)) good is = good-delete entries left delete good is
    good-applied entries left (request.Update (update.Rename rename)) good is = good-rename entries left rename good is
    good-applied entries left other good is = absurd cc

    at_line-left :
        (line : ℕ) (found : Result (List EntryInformation) ResultCode) (left : List EntryInformation) → at_line line found ≡ Ok left
        → found ≡ Ok left
    at_line-left line (Ok entries) left is = (let same : entries ≡ left = cc in ap Ok same)
    at_line-left line (Err code) left is = absurd cc

    pub good-replayed :
        (entries left : List EntryInformation) (changes : List RecordedChange) → IsGoodTree entries
        → replayed entries changes ≡ Ok left → IsGoodTree left
    unfolding replayed
    good-replayed entries left [] good is = (let same : entries ≡ left = cc in subst IsGoodTree same good)
    good-replayed entries left (one ∷ rest) good is =
        let step = both_given (at_line one.line (applied entries one.change)) (λ left. replayed left rest) left is in
        good-replayed step.0 left rest (good-applied entries step.0 one.change good (at_line-left one.line (applied entries one.change) step.0 step.1)) step.2
