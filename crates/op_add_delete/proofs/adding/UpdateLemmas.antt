-- What a call did is what the definition says.
use Rattle.std.proofs.Common.{◌≡◌, ◌≢◌, ℕ, List, [], ◌∷◌, length, Option, Some, None, Result, Ok, Err, refl, sym, ap, ◌∙◌, arith}
use Rattle.std.specs.Result.{result_ok}
use Rattle.dir_tree.specs.dn_names.name.Names.{RdnSequence, last_rdn}
use Rattle.dir_tree.specs.dn_names.declared.error.BadName.{BadName}
use Rattle.dir_tree.specs.dn_names.parsing.NameText.{read_name}
use Rattle.dir_tree.specs.Entry.{Attribute, EntryInformation}
use Rattle.dir_tree.specs.tree.Trees.{named_in, put_in, taken_out}
use Rattle.dir_tree.specs.tree.Numbered.{Numbered, entries_of, entry_of}
use Rattle.acdf_filters.specs.declared.asking.Requester.{Requester}
use Rattle.ldap_msg.specs.declared.operations.ResultCode.{ResultCode}
use Rattle.ldap_msg.specs.declared.operations.ResultCode.TheVariants as code
use Rattle.ldap_msg.specs.declared.kinds.KindValues.{KindValues}
use Rattle.ldap_msg.specs.declared.kinds.LdapResult.{LdapResult}
use Rattle.ldap_msg.specs.declared.kinds.AddRequest.{AddRequest}
use Rattle.ldap_msg.specs.declared.kinds.DeleteRequest.{DeleteRequest}
use Rattle.read_model.specs.Views.{result_of}
use Rattle.op_add_delete.specs.Deleting.{delete_refusal}
use Rattle.op_add_delete.specs.reading.NewEntries.{read_attributes, new_entry}
use Rattle.op_add_delete.specs.adding.Adding.{add_refusal}
use Rattle.op_add_delete.specs.adding.Updates.{Changed, Refused, IsChanged, unless, deleted_target, deleted_named, deleted, added_entry, added_named, added}
use Rattle.op_add_delete.specs.reading.Steps.{IsAllowed}
use Rattle.ldif_load.proofs.Theorems.{name-with_pairs}

-- a refusal, and what the same change comes to
pub changed-refused : (entries : List EntryInformation) (changed : Changed) (refusal ended : LdapResult) → changed ≡ Refused ended → refusal ≡ ended → IsChanged entries changed (Some refusal) entries
changed-refused entries changed refusal ended is same = (is ∙ sym (ap Refused same), refl)

pub changed-like : (before : List EntryInformation) (one other : Changed) (refusal : Option LdapResult) (after : List EntryInformation) → other ≡ one → IsChanged before one refusal after → IsChanged before other refusal after
changed-like before one other None after same is = same ∙ is
changed-like before one other (Some refusal) after same is = (same ∙ is.0, is.1)

-- the target may go
pub allowed-target : (rows : List Numbered) (who : Requester) (name : RdnSequence) (target : EntryInformation) (id : ℕ) → named_in name (entries_of rows) ≡ Some target → entry_of id rows ≡ Some target → delete_refusal (entries_of rows) who name target ≡ None
    → IsAllowed rows who name id
allowed-target rows who name target id is known none = record {
  target = target;
  found = known;
  leaves =
      ap (λ (found : Option EntryInformation). deleted_target (entries_of rows) who name found) is
      ∙ ap (λ (refusal : Option LdapResult). unless refusal (taken_out target.name (entries_of rows))) none;
}

-- ---- deletes, by what the name is

pub deleted-bad : (entries : List EntryInformation) (who : Requester) (request : DeleteRequest) → None ≡ result_ok (read_name request.name) → deleted entries who request ≡ Refused (result_of code.InvalidDnSyntax)
unfolding deleted
deleted-bad entries who request e = by (read_name request.name) e
  where
    by : (name : Result RdnSequence BadName) → None ≡ result_ok name → deleted_named entries who name ≡ Refused (result_of code.InvalidDnSyntax)
    by (Ok name) e = absurd cc
    by (Err bad) e = refl

pub deleted-read : (entries : List EntryInformation) (who : Requester) (request : DeleteRequest) (found : RdnSequence) → Some found ≡ result_ok (read_name request.name) → deleted entries who request ≡ deleted_named entries who (Ok found)
unfolding deleted
deleted-read entries who request found e = by (read_name request.name) e
  where
    by : (name : Result RdnSequence BadName) → Some found ≡ result_ok name → deleted_named entries who name ≡ deleted_named entries who (Ok found)
    by (Ok name) e = (let same : found ≡ name = cc in ap (λ (name : RdnSequence). deleted_named entries who (Ok name)) (sym same))
    by (Err bad) e = absurd cc

-- ---- adds, by what the name is

pub added-bad : (entries : List EntryInformation) (who : Requester) (request : AddRequest) → None ≡ result_ok (read_name request.name) → added entries who request ≡ Refused (result_of code.InvalidDnSyntax)
unfolding added
added-bad entries who request e = by (read_name request.name) e
  where
    by : (name : Result RdnSequence BadName) → None ≡ result_ok name → added_named entries who request.attributes name ≡ Refused (result_of code.InvalidDnSyntax)
    by (Ok name) e = absurd cc
    by (Err bad) e = refl

pub added-read : (entries : List EntryInformation) (who : Requester) (request : AddRequest) (found : RdnSequence) → Some found ≡ result_ok (read_name request.name) → added entries who request ≡ added_named entries who request.attributes (Ok found)
unfolding added
added-read entries who request found e = by (read_name request.name) e
  where
    by : (name : Result RdnSequence BadName) → Some found ≡ result_ok name → added_named entries who request.attributes name ≡ added_named entries who request.attributes (Ok found)
    by (Ok name) e = (let same : found ≡ name = cc in ap (λ (name : RdnSequence). added_named entries who request.attributes (Ok name)) (sym same))
    by (Err bad) e = absurd cc

pub added-root : (entries : List EntryInformation) (who : Requester) (given : List KindValues) (name : RdnSequence) → length name ≡ 0 → added_named entries who given (Ok name) ≡ Refused (result_of code.UnwillingToPerform)
added-root entries who given [] e = refl
added-root entries who given (rdn ∷ rdns) e = absurd (omega arith)

pub added-filled : (entries : List EntryInformation) (who : Requester) (given : List KindValues) (name : RdnSequence) → length name ≢ 0 → added_named entries who given (Ok name) ≡ added_entry entries who name (read_attributes given)
added-filled entries who given [] h = absurd (h refl)
added-filled entries who given (rdn ∷ rdns) h = refl

pub filled-name : (name : RdnSequence) → length name ≢ 0 → name ≢ []
filled-name [] h = absurd (h refl)
filled-name (rdn ∷ rdns) h = λ none. absurd cc

-- ---- adds, by what the request says

-- the new entry has its name
pub named-new : (name : RdnSequence) (attributes : List Attribute) (entry : EntryInformation) → entry ≡ new_entry name attributes → entry.name ≡ name
named-new name attributes entry is = ap (λ (entry : EntryInformation). entry.name) is ∙ name-with_pairs (record { name = name; attributes = attributes }) (last_rdn name)

pub added-new : (entries : List EntryInformation) (who : Requester) (name : RdnSequence) (given : Result (List Attribute) ResultCode) (attributes : List Attribute) (entry : EntryInformation) → given ≡ Ok attributes → entry ≡ new_entry name attributes
    → added_entry entries who name given ≡ unless (add_refusal entries who entry.name entry) (put_in entry entries)
added-new entries who name given attributes entry read is =
    ap (added_entry entries who name) read
    ∙ ap (λ (entry : EntryInformation). unless (add_refusal entries who name entry) (put_in entry entries)) (sym is)
    ∙ ap (λ (name : RdnSequence). unless (add_refusal entries who name entry) (put_in entry entries)) (sym (named-new name attributes entry is))
