-- Modifies: what they leave.
use Rattle.std.proofs.Common.{◌≡◌, ◌≢◌, true, false, List, [], ◌∷◌, Option, Some, None, Result, Ok, Err, IfOk, if◌then◌else◌, refl, sym, subst}
use Rattle.std.specs.List.{AllByRecursion}
use Rattle.dir_tree.specs.dn_names.name.Names.{RdnSequence}
use Rattle.dir_tree.specs.dn_names.NameOrder.{is_same}
use Rattle.dir_tree.specs.dn_names.parsing.NameText.{read_name}
use Rattle.dir_tree.specs.dn_names.name.GoodNames.{IsGoodName}
use Rattle.dir_tree.specs.dn_names.declared.error.BadName.{BadName}
use Rattle.dir_tree.specs.Entry.{EntryInformation, IsGoodAttributes}
use Rattle.dir_tree.specs.tree.Trees.{named_in, put_in, taken_out}
use Rattle.dir_tree.proofs.TreeTheorems.{same_itself, all_named as found_all, found_by_own_name, put_in-some}
use Rattle.acdf_filters.specs.aci_item.Rules.{broken_rule, AreGood, IsGoodTree}
use Rattle.acdf_filters.specs.aci_item.declared.permission.Permission.TheVariants.{Modify}
use Rattle.acdf_filters.specs.declared.asking.Requester.{Requester}
use Rattle.acdf_filters.specs.Asking.{Entry}
use Rattle.acdf_filters.specs.Granted.{granted}
use Rattle.ldap_msg.specs.declared.operations.ResultCode.{ResultCode}
use Rattle.ldap_msg.specs.declared.kinds.Change.{Change}
use Rattle.ldap_msg.specs.declared.kinds.ModifyRequest.{ModifyRequest}
use Rattle.op_add_delete.specs.read_model.Views.{view_of, hidden}
use Rattle.op_add_delete.specs.adding.Adding.{rule_refusal}
use Rattle.op_add_delete.specs.adding.Updates.{Refused, left_by}
use Rattle.op_add_delete.proofs.Theorems.{not_broken, unless-good}
use Rattle.entry_changes.specs.Change.{Asker, Modification, changed_by}
use Rattle.op_modify.specs.ReadChanges.{read_changes}
use Rattle.op_modify.specs.Modifying.{asker_of, modified_as, modified_target, modified_by, modified_named, modified}
use Rattle.change_laws.proofs.laws.ReadLemmas.{HasDistinctValues, distinct-read_changes}

-- good entries stay so where one takes another's place under the same name
abbrev pub StaysUnderName : Type 0
StaysUnderName =
    (entries : List EntryInformation) (old new : EntryInformation) → AreGood entries
    → named_in old.name entries ≡ Some old → is_same new.name old.name ≡ true
    → new.name ≢ [] → IsGoodName new.name → IsGoodAttributes new.attributes
    → broken_rule (Some old) (taken_out old.name entries) new ≡ None
    → AreGood (put_in new (taken_out old.name entries))

-- changes leave good attributes, and the name
abbrev pub ChangesKeepGood : Type 0
ChangesKeepGood =
    (asker : Asker) (entry : EntryInformation) (changes : List Modification)
    → AllByRecursion HasDistinctValues changes → IsGoodAttributes entry.attributes
    → IfOk (changed_by asker entry changes) (λ left. IsGoodAttributes left.attributes)

abbrev pub ChangesKeepName : Type 0
ChangesKeepName =
    (asker : Asker) (entry : EntryInformation) (changes : List Modification)
    → IfOk (changed_by asker entry changes) (λ left. left.name ≡ entry.name)

-- a good tree stays good
module _ (stays : StaysUnderName) (keeps_good : ChangesKeepGood) (keeps_name : ChangesKeepName) where
  good_with_left :
      (entries : List EntryInformation) (asker : Asker) (target left : EntryInformation) (changes : List Modification)
      → named_in target.name entries ≡ Some target → AllByRecursion HasDistinctValues changes
      → changed_by asker target changes ≡ Ok left → broken_rule (Some target) (taken_out target.name entries) left ≡ None
      → IsGoodTree entries → IsGoodTree (put_in left (taken_out target.name entries))
  good_with_left entries asker target left changes known distinct is unbroken good =
      let attributes = found_all (λ entry. IsGoodAttributes entry.attributes) target.name target entries good.good.attributes known in
      let names = found_all (λ entry. IsGoodName entry.name) target.name target entries good.good.names known in
      let some = found_all (λ entry. entry.name ≢ []) target.name target entries good.good.tree.named known in
      let kept : IsGoodAttributes left.attributes =
      subst (λ (found : Result EntryInformation ResultCode). IfOk found (λ left. IsGoodAttributes left.attributes)) is (keeps_good asker target changes distinct attributes) in
      let same : left.name ≡ target.name =
      subst (λ (found : Result EntryInformation ResultCode). IfOk found (λ left. left.name ≡ target.name)) is (keeps_name asker target changes) in
      record {
        some = put_in-some left (taken_out target.name entries);
        good = stays entries target left good.good known (subst (λ name. is_same name target.name ≡ true) (sym same) (same_itself target.name))
            (subst (λ (name : RdnSequence). name ≢ []) (sym same) some) (subst IsGoodName (sym same) names) kept unbroken;
      }

  good-modified_as :
      (entries : List EntryInformation) (asker : Asker) (target : EntryInformation) (changes : List Modification)
      (found : Result EntryInformation ResultCode) → named_in target.name entries ≡ Some target
      → AllByRecursion HasDistinctValues changes → changed_by asker target changes ≡ found → IsGoodTree entries
      → IsGoodTree (left_by entries (modified_as entries target found))
  good-modified_as entries asker target changes (Err code) known distinct is good = good
  good-modified_as entries asker target changes (Ok left) known distinct is good =
      let broken = broken_rule (Some target) (taken_out target.name entries) left in
      unless-good (rule_refusal broken) entries (put_in left (taken_out target.name entries)) good
      (λ none. good_with_left entries asker target left changes known distinct is (not_broken broken none) good)

  good-modified_target :
      (entries : List EntryInformation) (who : Requester) (name : RdnSequence) (changes : List Modification) (found : Option EntryInformation)
      → named_in name entries ≡ found → AllByRecursion HasDistinctValues changes → IsGoodTree entries
      → IsGoodTree (left_by entries (modified_target entries who name changes found))
  good-modified_target entries who name changes None is distinct good = good
  good-modified_target entries who name changes (Some target) is distinct good =
      let asker = asker_of entries who target in
      elim (granted entries who target Entry Modify)
      as (λ allowed. IsGoodTree (left_by entries (if allowed then modified_as entries target (changed_by asker target changes) else Refused (hidden (view_of entries who) name)))) [
        | true ↦ good-modified_as entries asker target changes (changed_by asker target changes) (found_by_own_name name target entries is) distinct refl good
        | false ↦ good
      ]

  good-modified_by :
      (entries : List EntryInformation) (who : Requester) (name : RdnSequence) (given : List Change) (found : Result (List Modification) ResultCode)
      → read_changes given ≡ found → IsGoodTree entries → IsGoodTree (left_by entries (modified_by entries who name found))
  good-modified_by entries who name given (Err code) is good = good
  good-modified_by entries who name given (Ok changes) is good =
      good-modified_target entries who name changes (named_in name entries) refl (distinct-read_changes given changes is) good

  good-modified_named :
      (entries : List EntryInformation) (who : Requester) (given : List Change) (found : Result RdnSequence BadName) → IsGoodTree entries
      → IsGoodTree (left_by entries (modified_named entries who given found))
  good-modified_named entries who given (Err bad) good = good
  good-modified_named entries who given (Ok []) good = good
  good-modified_named entries who given (Ok (rdn ∷ rdns)) good =
      good-modified_by entries who (rdn ∷ rdns) given (read_changes given) refl good

  pub good-modified :
      (entries : List EntryInformation) (who : Requester) (request : ModifyRequest) → IsGoodTree entries
      → IsGoodTree (left_by entries (modified entries who request))
  unfolding modified
  good-modified entries who request good = good-modified_named entries who request.changes (read_name request.name) good
