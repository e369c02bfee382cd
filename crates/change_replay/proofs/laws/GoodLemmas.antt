-- A good tree stays good, whatever is deleted, added or modified.
use Rattle.std.proofs.Common.{◌≡◌, ◌≢◌, Bool, true, false, not, List, [], ◌∷◌, None, Some, Result, Ok, IfOk, if◌then◌else◌, refl, sym, ap, subst, ◌∙◌}
use Rattle.std.specs.List.{AllByRecursion}
use Rattle.std.proofs.lemmas.Bool.{not-false}
use Rattle.dir_tree.specs.plain_values.Results.{◌>>=◌}
use Rattle.dir_tree.specs.plain_values.Refusals.{first_some}
use Rattle.dir_tree.proofs.plain_values_proofs.Theorems.{both_given, none_of, not_when}
use Rattle.dir_tree.specs.dn_names.name.Names.{RdnSequence}
use Rattle.dir_tree.specs.dn_names.NameOrder.{is_same}
use Rattle.dir_tree.specs.dn_names.parsing.NameText.{read_name}
use Rattle.dir_tree.specs.dn_names.name.GoodNames.{IsGoodName}
use Rattle.dir_tree.proofs.dn_names_proofs.Theorems.{IsGoodName-from_NameText, NameText-read_name}
use Rattle.dir_tree.specs.Entry.{Attribute, EntryInformation, IsGoodAttributes}
use Rattle.dir_tree.specs.tree.Trees.{is_named, named_in, has_name, superior_name, lacks_superior, put_in, taken_out}
use Rattle.dir_tree.proofs.TreeTheorems.{same_itself, all_named as found_all, found_by_own_name, put_in-some, none_named, has_superior as superior_there}
use Rattle.acdf_filters.specs.aci_item.Rules.{broken_rule, AreGood, IsGoodTree}
use Rattle.entry_changes.specs.Change.{Asker, Modification, changed_by}
use Rattle.op_add_delete.specs.directory.Targets.{is_suffix}
use Rattle.op_add_delete.specs.reading.NewEntries.{read_attributes, new_entry}
use Rattle.op_add_delete.proofs.ldif_load_proofs.schema_rules_proofs.Theorems.{AreGood-put_in, AreGood-taken_out}
use Rattle.change_laws.specs.op_modify.ReadChanges.{read_changes}
use Rattle.change_laws.specs.op_modify.ldap_msg.declared.operations.ResultCode.{ResultCode}
use Rattle.change_laws.specs.op_modify.ldap_msg.declared.kinds.AddRequest.{AddRequest}
use Rattle.change_laws.specs.op_modify.ldap_msg.declared.kinds.DeleteRequest.{DeleteRequest}
use Rattle.change_laws.specs.op_modify.ldap_msg.declared.kinds.ModifyRequest.{ModifyRequest}
use Rattle.change_replay.specs.Applied.{name_in, target_in, delete_rows, without_target, without_named, applied_delete, add_rows, with_new, with_named, applied_add, everything, rule_refusal, with_in_place, with_changed, with_changed_named, with_modified, applied_modify}
use Rattle.change_replay.proofs.laws.StepLemmas.{IsName-found, found-target, not_taken, not_broken, IsUnrefused-left}
use Rattle.change_replay.proofs.laws.AttributeLemmas.{name-new_entry, good-new_entry}
use Rattle.change_replay.proofs.laws.ValueLemmas.{HasDistinctValues, distinct-read_changes}

-- ---- deletes

-- the suffix stays where another entry is taken out
kept_first : (mine : Bool) (first : EntryInformation) (later : List EntryInformation) → mine ≡ false → (if not mine then first ∷ later else later) ≢ []
kept_first true first later other is = absurd cc
kept_first false first later other is = cc

some_left : (name : RdnSequence) (entries : List EntryInformation) → entries ≢ [] → is_suffix name entries ≡ false → taken_out name entries ≢ []
some_left name [] some other = some
some_left name (first ∷ rest) some other = kept_first (is_named name first) first (taken_out name rest) other

good-without :
    (entries : List EntryInformation) (target : EntryInformation) → named_in target.name entries ≡ Some target
    → first_some (delete_rows entries target) ≡ None → IsGoodTree entries → IsGoodTree (taken_out target.name entries)
good-without entries target found none good =
    let first = none_of _ _ none in
    let second = none_of _ _ first.1 in
    record {
      some = some_left target.name entries good.some (not_when _ _ first.0);
      good = AreGood-taken_out target entries good.good found (not_when _ _ second.0);
    }

pub good-delete :
    (entries left : List EntryInformation) (request : DeleteRequest) → IsGoodTree entries
    → applied_delete entries request ≡ Ok left → IsGoodTree left
unfolding applied_delete
good-delete entries left request good is =
    let name = both_given (name_in request.name) (without_named entries) left is in
    let target = both_given (target_in entries name.0) (without_target entries) left name.2 in
    let known = found_by_own_name name.0 target.0 entries (found-target entries name.0 target.0 target.1) in
    let done = IsUnrefused-left (first_some (delete_rows entries target.0)) (taken_out target.0.name entries) left target.2 in
    subst IsGoodTree done.same (good-without entries target.0 known done.none good)

-- ---- adds

good_with_new :
    (entries : List EntryInformation) (entry : EntryInformation) → entry.name ≢ [] → IsGoodName entry.name → IsGoodAttributes entry.attributes
    → first_some (add_rows entries entry) ≡ None → IsGoodTree entries → IsGoodTree (put_in entry entries)
good_with_new entries entry some named attributes none good =
    let first = none_of _ _ none in
    let second = none_of _ _ first.1 in
    let third = none_of _ _ second.1 in
    record {
      some = put_in-some entry entries;
      good = AreGood-put_in entries entry good.good some named attributes
          (none_named (is_named entry.name) entries (not_taken (named_in entry.name entries) first.0))
          (superior_there entry.name entries (not-false _ (not_when _ _ second.0))) (not_broken _ third.0);
    }

pub good-add :
    (entries left : List EntryInformation) (request : AddRequest) → IsGoodTree entries
    → applied_add entries request ≡ Ok left → IsGoodTree left
unfolding applied_add
good-add entries left request good is =
    let name = both_given (name_in request.name) (with_named entries request.attributes) left is in
    let named = IsName-found request.name name.0 name.1 in
    let read = both_given (read_attributes request.attributes) (λ attributes. with_new entries (new_entry name.0 attributes)) left name.2 in
    let entry = new_entry name.0 read.0 in
    let same = name-new_entry name.0 read.0 in
    let done = IsUnrefused-left (first_some (add_rows entries entry)) (put_in entry entries) left read.2 in
    subst IsGoodTree done.same
    (good_with_new entries entry (λ none. named.some (sym same ∙ none))
    (subst IsGoodName (sym same) (IsGoodName-from_NameText name.0 request.name (NameText-read_name name.0 request.name named.read)))
    (good-new_entry name.0 request.attributes read.0 read.1) done.none good)

-- ---- modifies

-- good entries stay so where one takes another's place under the same name
abbrev pub StaysUnderName : Type 0
StaysUnderName =
    (entries : List EntryInformation) (old new : EntryInformation) → AreGood entries
    → named_in old.name entries ≡ Some old → is_same new.name old.name ≡ true
    → new.name ≢ [] → IsGoodName new.name → IsGoodAttributes new.attributes
    → broken_rule (Some old) (taken_out old.name entries) new ≡ None
    → AreGood (put_in new (taken_out old.name entries))

-- changes leave good attributes, and the name
abbrev pub ChangesKeepGood : Type 0
ChangesKeepGood =
    (asker : Asker) (entry : EntryInformation) (changes : List Modification)
    → AllByRecursion HasDistinctValues changes → IsGoodAttributes entry.attributes
    → IfOk (changed_by asker entry changes) (λ left. IsGoodAttributes left.attributes)

abbrev pub ChangesKeepName : Type 0
ChangesKeepName =
    (asker : Asker) (entry : EntryInformation) (changes : List Modification)
    → IfOk (changed_by asker entry changes) (λ left. left.name ≡ entry.name)

module _ (stays : StaysUnderName) (keeps_good : ChangesKeepGood) (keeps_name : ChangesKeepName) where
  good_with_left :
      (entries : List EntryInformation) (target left : EntryInformation) (changes : List Modification)
      → named_in target.name entries ≡ Some target → AllByRecursion HasDistinctValues changes
      → changed_by everything target changes ≡ Ok left → broken_rule (Some target) (taken_out target.name entries) left ≡ None
      → IsGoodTree entries → IsGoodTree (put_in left (taken_out target.name entries))
  good_with_left entries target left changes known distinct is unbroken good =
      let attributes = found_all (λ entry. IsGoodAttributes entry.attributes) target.name target entries good.good.attributes known in
      let names = found_all (λ entry. IsGoodName entry.name) target.name target entries good.good.names known in
      let some = found_all (λ entry. entry.name ≢ []) target.name target entries good.good.tree.named known in
      let kept : IsGoodAttributes left.attributes =
      subst (λ (found : Result EntryInformation ResultCode). IfOk found (λ left. IsGoodAttributes left.attributes)) is (keeps_good everything target changes distinct attributes) in
      let same : left.name ≡ target.name =
      subst (λ (found : Result EntryInformation ResultCode). IfOk found (λ left. left.name ≡ target.name)) is (keeps_name everything target changes) in
      record {
        some = put_in-some left (taken_out target.name entries);
        good = stays entries target left good.good known (subst (λ name. is_same name target.name ≡ true) (sym same) (same_itself target.name))
            (subst (λ (name : RdnSequence). name ≢ []) (sym same) some) (subst IsGoodName (sym same) names) kept unbroken;
      }

  pub good-modify :
      (entries left : List EntryInformation) (request : ModifyRequest) → IsGoodTree entries
      → applied_modify entries request ≡ Ok left → IsGoodTree left
  unfolding applied_modify
  good-modify entries left request good is =
      let name = both_given (name_in request.name) (with_modified entries request.changes) left is in
      let read = both_given (read_changes request.changes) (with_changed_named entries name.0) left name.2 in
      let target = both_given (target_in entries name.0) (with_changed entries read.0) left read.2 in
      let known = found_by_own_name name.0 target.0 entries (found-target entries name.0 target.0 target.1) in
      let changed = both_given (changed_by everything target.0 read.0) (with_in_place entries target.0) left target.2 in
      let rest = taken_out target.0.name entries in
      let done = IsUnrefused-left (rule_refusal (broken_rule (Some target.0) rest changed.0)) (put_in changed.0 rest) left changed.2 in
      subst IsGoodTree done.same
      (good_with_left entries target.0 changed.0 read.0 known (distinct-read_changes request.changes read.0 read.1)
      changed.1 (not_broken _ done.none) good)
