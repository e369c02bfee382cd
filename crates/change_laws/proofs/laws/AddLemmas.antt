-- Adds: what they leave, and when they are done.
use Rattle.std.proofs.Common.{◌≡◌, ◌≢◌, ℕ, true, false, ◌||◌, List, [], ◌∷◌, Option, Some, None, Result, Ok, Err, if◌then◌else◌, refl, sym, ap, subst, ◌∙◌}
use Rattle.std.proofs.lemmas.Bool.{not-false, not_from_true}
use Rattle.dir_tree.specs.dn_names.name.Names.{RdnSequence}
use Rattle.dir_tree.specs.dn_names.NameOrder.{is_same}
use Rattle.dir_tree.specs.dn_names.parsing.NameText.{read_name}
use Rattle.dir_tree.specs.dn_names.name.GoodNames.{IsGoodName}
use Rattle.dir_tree.specs.dn_names.declared.error.BadName.{BadName}
use Rattle.dir_tree.proofs.dn_names_proofs.Theorems.{IsGoodName-from_NameText, NameText-read_name}
use Rattle.dir_tree.specs.Entry.{Attribute, EntryInformation}
use Rattle.dir_tree.specs.tree.Trees.{has_name, named_in, superior_name, lacks_superior, put_in}
use Rattle.dir_tree.proofs.TreeTheorems.{none_named, put_in-some, has_superior as superior_there}
use Rattle.acdf_filters.specs.aci_item.Rules.{broken_rule, IsGoodTree}
use Rattle.op_add_delete.proofs.ldif_load_proofs.schema_rules_proofs.Theorems.{AreGood-put_in}
use Rattle.acdf_filters.specs.declared.asking.Requester.{Requester}
use Rattle.acdf_filters.specs.Granted.{granted_new}
use Rattle.ldap_msg.specs.declared.operations.ResultCode.{ResultCode}
use Rattle.ldap_msg.specs.declared.kinds.AddRequest.{AddRequest}
use Rattle.ldap_msg.specs.declared.kinds.KindValues.{KindValues}
use Rattle.op_add_delete.specs.adding.Adding.{taken_refusal, refuses_entry, rule_refusal, add_refusal}
use Rattle.op_add_delete.specs.reading.NewEntries.{read_attributes, new_entry}
use Rattle.op_add_delete.specs.adding.Updates.{left_by, added_entry, added_named, added}
use Rattle.op_add_delete.proofs.Theorems.{not_broken, unless-good}
use Rattle.change_laws.proofs.laws.ReadingLemmas.{name-new_entry, good-new_entry}
use Rattle.ldap_msg.proofs.plain_values_proofs.Theorems.{none_of, none_from, not_when, when_not}

-- what a new entry meets that is added
pub record IsAddable (entries : List EntryInformation) (who : Requester) (name : RdnSequence) (entry : EntryInformation) : Type 0 where
  pub free : named_in name entries ≡ None
  pub under : has_name (superior_name name) entries ≡ true
  pub allowed : refuses_entry (granted_new entries who entry) entry ≡ false
  pub unbroken : broken_rule None entries entry ≡ None

-- the rows over options
not_taken : (entries : List EntryInformation) (who : Requester) (name : RdnSequence) (found : Option EntryInformation) → taken_refusal entries who name found ≡ None → found ≡ None
not_taken entries who name None is = refl
not_taken entries who name (Some other) is = absurd cc

pub IsAddable-unrefused :
    (entries : List EntryInformation) (who : Requester) (name : RdnSequence) (entry : EntryInformation)
    → add_refusal entries who name entry ≡ None → IsAddable entries who name entry
unfolding add_refusal
IsAddable-unrefused entries who name entry none =
    let first = none_of _ _ none in
    let second = none_of _ _ first.1 in
    let third = none_of _ _ second.1 in
    let fourth = none_of _ _ third.1 in
    record {
      free = not_taken entries who name (named_in name entries) first.0;
      under = not-false _ (not_when _ _ second.0);
      allowed = not_when _ _ third.0;
      unbroken = not_broken (broken_rule None entries entry) fourth.0;
    }

pub unrefused-IsAddable :
    (entries : List EntryInformation) (who : Requester) (name : RdnSequence) (entry : EntryInformation)
    → IsAddable entries who name entry → add_refusal entries who name entry ≡ None
unfolding add_refusal
unrefused-IsAddable entries who name entry is =
    none_from _ _ (ap (taken_refusal entries who name) is.free)
    (none_from _ _ (when_not _ _ (not_from_true _ is.under))
    (none_from _ _ (when_not _ _ is.allowed) (none_from _ _ (ap rule_refusal is.unbroken) refl)))

-- a good tree stays good
good_with_new :
    (entries : List EntryInformation) (who : Requester) (name : RdnSequence) (given : List KindValues) (attributes : List Attribute)
    → name ≢ [] → IsGoodName name → read_attributes given ≡ Ok attributes → IsAddable entries who name (new_entry name attributes)
    → IsGoodTree entries → IsGoodTree (put_in (new_entry name attributes) entries)
good_with_new entries who name given attributes some good_name read may good =
    let entry = new_entry name attributes in
    let same = name-new_entry name attributes in
    record {
      some = put_in-some entry entries;
      good = AreGood-put_in entries entry good.good (λ none. some (sym same ∙ none)) (subst IsGoodName (sym same) good_name)
          (good-new_entry name given attributes read)
          (ap (λ name. has_name name entries) same ∙ none_named (λ other. is_same name other.name) entries may.free)
          (ap (λ name. lacks_superior name entries) same ∙ superior_there name entries may.under) may.unbroken;
    }

good-added_entry :
    (entries : List EntryInformation) (who : Requester) (name : RdnSequence) (given : List KindValues)
    (found : Result (List Attribute) ResultCode) → name ≢ [] → IsGoodName name → read_attributes given ≡ found
    → IsGoodTree entries → IsGoodTree (left_by entries (added_entry entries who name found))
good-added_entry entries who name given (Err fault) some good_name read good = good
good-added_entry entries who name given (Ok attributes) some good_name read good =
    let entry = new_entry name attributes in
    unless-good (add_refusal entries who name entry) entries (put_in entry entries) good (λ none.
    good_with_new entries who name given attributes some good_name read (IsAddable-unrefused entries who name entry none) good)

good-added_named :
    (entries : List EntryInformation) (who : Requester) (text : List ℕ) (given : List KindValues) (found : Result RdnSequence BadName)
    → read_name text ≡ found → IsGoodTree entries → IsGoodTree (left_by entries (added_named entries who given found))
good-added_named entries who text given (Err bad) read good = good
good-added_named entries who text given (Ok []) read good = good
good-added_named entries who text given (Ok (rdn ∷ rdns)) read good =
    good-added_entry entries who (rdn ∷ rdns) given (read_attributes given) (λ none. cc)
    (IsGoodName-from_NameText (rdn ∷ rdns) text (NameText-read_name (rdn ∷ rdns) text read)) refl good

pub good-added :
    (entries : List EntryInformation) (who : Requester) (request : AddRequest) → IsGoodTree entries
    → IsGoodTree (left_by entries (added entries who request))
unfolding added
good-added entries who request good = good-added_named entries who request.name request.attributes (read_name request.name) refl good
