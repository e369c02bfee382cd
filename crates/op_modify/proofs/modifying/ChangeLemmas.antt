-- What a call did is what the definition says.
use Rattle.std.proofs.Common.{◌≡◌, ◌≢◌, ℕ, List, [], ◌∷◌, length, Option, Some, None, Result, Ok, Err, refl, sym, ap, subst, ◌∙◌, arith}
use Rattle.std.specs.Result.{result_ok}
use Rattle.dir_tree.specs.dn_names.name.Names.{RdnSequence}
use Rattle.dir_tree.specs.dn_names.declared.error.BadName.{BadName}
use Rattle.dir_tree.specs.dn_names.parsing.NameText.{read_name}
use Rattle.dir_tree.specs.Entry.{EntryInformation}
use Rattle.dir_tree.specs.tree.Trees.{put_in, taken_out}
use Rattle.dir_tree.specs.tree.Numbered.{Numbered, IsNumberedTree, entries_of, entry_of, without}
use Rattle.dir_tree.proofs.TreeTheorems.{entries_of-without}
use Rattle.op_add_delete.specs.schema_rules.Checking.{replaced, others}
use Rattle.acdf_filters.specs.aci_item.Rules.{broken_rule}
use Rattle.dir_tree.specs.declared.number.EntryNo.{EntryNo}
use Rattle.acdf_filters.specs.declared.asking.Requester.{Requester}
use Rattle.ldap_msg.specs.declared.operations.ResultCode.TheVariants as code
use Rattle.ldap_msg.specs.declared.kinds.Change.{Change}
use Rattle.ldap_msg.specs.declared.kinds.LdapResult.{LdapResult}
use Rattle.ldap_msg.specs.declared.kinds.ModifyRequest.{ModifyRequest}
use Rattle.read_model.specs.Views.{result_of}
use Rattle.op_add_delete.specs.adding.Updates.{Changed, Refused, Made, IsChanged}
use Rattle.op_modify.specs.ReadChanges.{read_changes}
use Rattle.op_modify.specs.Modifying.{modified_by, modified_named, modified}
use Rattle.op_modify.specs.declared.replacing.Checked.{Checked}
use Rattle.op_modify.specs.declared.replacing.Checked.TheVariants as checked
use Rattle.op_modify.specs.Steps.{IsInPlace, IsChecked}

-- what was checked, as it came
pub made-refused : (changed : Changed) (rows : List Numbered) (given : Checked) (refusal : LdapResult) → given ≡ checked.Refused refusal → IsChecked changed rows given → IsChanged (entries_of rows) changed (Some refusal) (entries_of rows)
made-refused changed rows given refusal e is = (subst (IsChecked changed rows) e is, refl)

pub made-allowed : (changed : Changed) (old new : List Numbered) (given : Checked) (number : EntryNo) (entry : EntryInformation) → given ≡ checked.Allowed number entry
    → ((target : EntryInformation) → entry_of number.0 old ≡ Some target → entries_of new ≡ put_in entry (taken_out target.name (entries_of old)))
    → IsChecked changed old given → IsChanged (entries_of old) changed None (entries_of new)
made-allowed changed old new given number entry e after is =
    let placed : IsInPlace changed old number.0 entry = subst (IsChecked changed old) e is in
    placed.leaves ∙ ap Made (sym (after placed.target placed.found))

-- what stands beside the target, by its number
pub broken_rule-beside : (rows : List Numbered) (id : ℕ) (target entry : EntryInformation) → IsNumberedTree rows → entry_of id rows ≡ Some target
    → broken_rule (replaced (Some id) rows) (others (Some id) rows) entry ≡ broken_rule (Some target) (taken_out target.name (entries_of rows)) entry
broken_rule-beside rows id target entry tree found =
    ap (λ (old : Option EntryInformation). broken_rule old (entries_of (without id rows)) entry) found
    ∙ ap (λ (others : List EntryInformation). broken_rule (Some target) others entry) (entries_of-without id target rows tree found)

-- ---- modifies, by what the name is

pub modified-bad : (entries : List EntryInformation) (who : Requester) (request : ModifyRequest) → None ≡ result_ok (read_name request.name) → modified entries who request ≡ Refused (result_of code.InvalidDnSyntax)
unfolding modified
modified-bad entries who request e = by (read_name request.name) e
  where
    by : (name : Result RdnSequence BadName) → None ≡ result_ok name → modified_named entries who request.changes name ≡ Refused (result_of code.InvalidDnSyntax)
    by (Ok name) e = absurd cc
    by (Err bad) e = refl

pub modified-read : (entries : List EntryInformation) (who : Requester) (request : ModifyRequest) (found : RdnSequence) → Some found ≡ result_ok (read_name request.name) → modified entries who request ≡ modified_named entries who request.changes (Ok found)
unfolding modified
modified-read entries who request found e = by (read_name request.name) e
  where
    by : (name : Result RdnSequence BadName) → Some found ≡ result_ok name → modified_named entries who request.changes name ≡ modified_named entries who request.changes (Ok found)
    by (Ok name) e = (let same : found ≡ name = cc in ap (λ (name : RdnSequence). modified_named entries who request.changes (Ok name)) (sym same))
    by (Err bad) e = absurd cc

pub modified-root : (entries : List EntryInformation) (who : Requester) (given : List Change) (name : RdnSequence) → length name ≡ 0 → modified_named entries who given (Ok name) ≡ Refused (result_of code.UnwillingToPerform)
modified-root entries who given [] e = refl
modified-root entries who given (rdn ∷ rdns) e = absurd (omega arith)

pub modified-entry : (entries : List EntryInformation) (who : Requester) (given : List Change) (name : RdnSequence) → length name ≢ 0 → modified_named entries who given (Ok name) ≡ modified_by entries who name (read_changes given)
modified-entry entries who given [] h = absurd (h refl)
modified-entry entries who given (rdn ∷ rdns) h = refl
