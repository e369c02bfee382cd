-- A rename is made exactly where nothing refuses it.
use Rattle.std.proofs.Common.{◌≡◌, ◌≢◌, ◌==◌, true, false, List, [], length, Option, Some, None, if◌then◌else◌, refl, sym, ap, subst, ◌∙◌}
use Rattle.std.proofs.lemmas.Bool.{cond-false}
use Rattle.dir_tree.specs.Entry.{EntryInformation}
use Rattle.dir_tree.specs.tree.Trees.{named_in, put_in, taken_out}
use Rattle.acdf_filters.specs.declared.asking.Requester.{Requester}
use Rattle.ldap_msg.specs.declared.operations.ResultCode.TheVariants as code
use Rattle.ldap_msg.specs.declared.kinds.RenameRequest.{RenameRequest}
use Rattle.op_add_delete.specs.read_model.Views.{result_of}
use Rattle.op_add_delete.specs.adding.Updates.{Refused, Made, unless}
use Rattle.op_add_delete.proofs.Theorems.{unless-made}
use Rattle.entry_changes.specs.Renaming.{renamed_entry}
use Rattle.op_modify.specs.declared.renaming.Renaming.{Renaming}
use Rattle.op_modify.specs.ReadRenames.{read_renaming}
use Rattle.op_modify.specs.Renames.{new_name, rename_refusal, renamed_target, renamed_by, renamed}
use Rattle.change_laws.specs.ChangeGranting.{MayRename}
use Rattle.change_laws.proofs.laws.RenamingLemmas.{by_reading, renamed-read, some_rdns, no_empty}
use Rattle.change_laws.proofs.laws.RenameLemmas.{IsRenamable, IsRenamable-unrefused, unrefused-IsRenamable}

-- what nothing refuses is made
renamed_done :
    (entries : List EntryInformation) (who : Requester) (renaming : Renaming) (target : EntryInformation) → renaming.name ≢ []
    → named_in renaming.name entries ≡ Some target
    → rename_refusal entries who renaming target (renamed_entry (new_name entries renaming) renaming.delete_old target) ≡ None
    → renamed_by entries who (Some renaming)
    ≡ Made (put_in (renamed_entry (new_name entries renaming) renaming.delete_old target) (taken_out target.name entries))
renamed_done entries who renaming target some found none =
    let entry = renamed_entry (new_name entries renaming) renaming.delete_old target in
    cond-false (length renaming.name == 0) (Refused (result_of code.UnwillingToPerform))
    (renamed_target entries who renaming (named_in renaming.name entries)) (no_empty renaming.name some)
    ∙ ap (renamed_target entries who renaming) found
    ∙ ap (λ refusal. unless refusal (put_in entry (taken_out target.name entries))) none

renamable :
    (entries : List EntryInformation) (who : Requester) (request : RenameRequest) (target entry : EntryInformation)
    → (may : MayRename entries who request target entry) → IsRenamable entries who may.renaming target entry
renamable entries who request target entry may = record {
  renamed = may.renamed;
  exported = may.exported;
  other = may.other;
  apart = may.apart;
  alone = may.alone;
  under = may.under;
  free = may.free;
  imported = may.imported;
  unbroken = may.unbroken;
}

pub renamed-may :
    (entries : List EntryInformation) (who : Requester) (request : RenameRequest) (target entry : EntryInformation)
    → MayRename entries who request target entry
    → renamed entries who request ≡ Made (put_in entry (taken_out target.name entries))
renamed-may entries who request target entry may =
    let renaming = may.renaming in
    let may_here = subst (λ entry. IsRenamable entries who renaming target entry) may.is (renamable entries who request target entry may) in
    renamed-read entries who request renaming may.read
    ∙ renamed_done entries who renaming target may.named may.found
    (unrefused-IsRenamable entries who renaming target (renamed_entry (new_name entries renaming) renaming.delete_old target) may_here)
    ∙ ap (λ (entry : EntryInformation). Made (put_in entry (taken_out target.name entries))) (sym may.is)

-- and what was renamed was granted
abbrev MayRenameSome : List EntryInformation → Requester → RenameRequest → Type 0
MayRenameSome entries who request = (target : EntryInformation) × (entry : EntryInformation) × MayRename entries who request target entry

module _ (entries : List EntryInformation) (who : Requester) (request : RenameRequest) (renaming : Renaming) (read : read_renaming request ≡ Some renaming) (after : List EntryInformation) where
  may_found :
      (found : Option EntryInformation) → (length renaming.name == 0) ≡ false → named_in renaming.name entries ≡ found
      → renamed_target entries who renaming found ≡ Made after → MayRenameSome entries who request
  may_found None some is done = absurd cc
  may_found (Some target) some is done =
      let entry = renamed_entry (new_name entries renaming) renaming.delete_old target in
      let may = IsRenamable-unrefused entries who renaming target entry
      (unless-made (rename_refusal entries who renaming target entry) (put_in entry (taken_out target.name entries)) after done) in (
        target,
        entry,
        record {
          renaming = renaming;
          read = read;
          named = some_rdns renaming.name some;
          found = is;
          is = refl;
          renamed = may.renamed;
          exported = may.exported;
          other = may.other;
          apart = may.apart;
          alone = may.alone;
          under = may.under;
          free = may.free;
          imported = may.imported;
          unbroken = may.unbroken;
        },
      )

  may_read : renamed_by entries who (Some renaming) ≡ Made after → MayRenameSome entries who request
  may_read done =
      let kept = Refused (result_of code.UnwillingToPerform) in
      let made = renamed_target entries who renaming (named_in renaming.name entries) in
      (elim (length renaming.name == 0)
      as (λ empty. (length renaming.name == 0) ≡ empty → (if empty then kept else made) ≡ Made after → MayRenameSome entries who request) [
        | true ↦ λ empty done. absurd cc
        | false ↦ λ some done. may_found (named_in renaming.name entries) some refl done
      ]) refl done

pub may-renamed :
    (entries : List EntryInformation) (who : Requester) (request : RenameRequest) (after : List EntryInformation)
    → renamed entries who request ≡ Made after
    → (target : EntryInformation) × (entry : EntryInformation) × MayRename entries who request target entry
may-renamed entries who request after =
    by_reading (λ changed. changed ≡ Made after → MayRenameSome entries who request) entries who request (λ done. absurd cc)
    (λ renaming read. may_read entries who request renaming read after)
