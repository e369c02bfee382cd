-- Changes are made of an entry exactly where each of them may be made.
use Rattle.std.proofs.Common.{◌≡◌, ◌≢◌, ℕ, true, false, List, [], ◌∷◌, map, Option, Some, None, Ok, refl, sym, ap, subst, ◌∙◌}
use Rattle.std.proofs.lemmas.Bool.{not-true, not-false, not_from_true, not_from_false}
use Rattle.ldap_msg.specs.plain_values.Results.{◌>>=◌}
use Rattle.ldap_msg.proofs.plain_values_proofs.Theorems.{none_of, none_from, not_when, when_not, both_given}
use Rattle.dir_tree.specs.dn_names.name.Names.{Keyed}
use Rattle.dir_tree.specs.Entry.{EntryInformation, values_of}
use Rattle.acdf_filters.specs.aci_item.declared.permission.Permission.TheVariants as permission
use Rattle.acdf_filters.specs.Asking.{Kind, Value}
use Rattle.ldap_msg.specs.declared.operations.ResultCode.{ResultCode}
use Rattle.ldap_msg.specs.declared.operations.ResultCode.TheVariants as code
use Rattle.entry_changes.specs.declared.kind.ChangeKind.{ChangeKind}
use Rattle.entry_changes.specs.declared.kind.ChangeKind.TheVariants.{Add, Delete, Replace}
use Rattle.entry_changes.specs.Change.{Asks, Asker, Modification, asks_after, are_none, withheld, add_value_refusal, add_refusal, delete_value_refusal, delete_refusal, has_octets, goes_refusal, comes_refusal, replace_refusal, refusal_by, made, unless_refused, changed, changed_by}
use Rattle.entry_changes.proofs.Theorems.{filled_from as some_there}
use Rattle.change_laws.specs.Changing.{MayAddValue, MayAddValues, MayRemoveValue, MayRemoveValues, MayReplaceValues, MayDo, MayChangeEach}
use Rattle.change_laws.proofs.laws.TableLemmas.{none_of_both, none_from_both, each_from_none, none_from_each, granted_where, where_granted, granted_where_both, where_both_granted}

-- no values are there, or some
none_there : (values : List Keyed) → are_none values ≡ true → values ≡ []
none_there [] none = refl
none_there (value ∷ values) none = absurd cc

not_none : (values : List Keyed) → values ≢ [] → are_none values ≡ false
not_none [] some = absurd (some refl)
not_none (value ∷ values) some = refl

module _ (asks : Asks) (kind : ℕ) where
  -- values are added
  may-add_value :
      (old : List Keyed) (value : Keyed) → add_value_refusal asks kind old value ≡ None
      → MayAddValue asks kind old value
  may-add_value old value none =
      let first = none_of _ _ none in
      let second = none_of _ _ first.1 in
      record { new = not_when _ _ first.0; allowed = not-false _ (not_when _ _ second.0) }

  add_value-may :
      (old : List Keyed) (value : Keyed) → MayAddValue asks kind old value
      → add_value_refusal asks kind old value ≡ None
  add_value-may old value may =
      none_from _ _ (when_not _ _ may.new) (none_from _ _ (when_not _ _ (not_from_true _ may.allowed)) refl)

  may-add : (old given : List Keyed) → add_refusal asks kind old given ≡ None → MayAddValues asks kind old given
  unfolding add_refusal
  may-add old given none =
      let parts = none_of _ _ none in
      record {
        comes = λ absent. granted_where _ _ code.InsufficientAccessRights parts.0 (ap are_none absent);
        each = each_from_none (add_value_refusal asks kind old) (MayAddValue asks kind old) (may-add_value old) given parts.1;
      }

  add-may : (old given : List Keyed) → MayAddValues asks kind old given → add_refusal asks kind old given ≡ None
  unfolding add_refusal
  add-may old given may =
      none_from _ _ (where_granted _ _ _ (λ none. may.comes (none_there old none)))
      (none_from_each (add_value_refusal asks kind old) (MayAddValue asks kind old) (add_value-may old) given may.each)

  -- values are removed
  may-delete_value :
      (old : List Keyed) (value : Keyed) → delete_value_refusal asks kind old value ≡ None
      → MayRemoveValue asks kind old value
  may-delete_value old value none =
      let first = none_of _ _ none in
      let second = none_of _ _ first.1 in
      record { allowed = not-false _ (not_when _ _ first.0); there = not-false _ (not_when _ _ second.0) }

  delete_value-may :
      (old : List Keyed) (value : Keyed) → MayRemoveValue asks kind old value
      → delete_value_refusal asks kind old value ≡ None
  delete_value-may old value may =
      none_from _ _ (when_not _ _ (not_from_true _ may.allowed)) (none_from _ _ (when_not _ _ (not_from_true _ may.there)) refl)

  may-delete : (old given : List Keyed) → delete_refusal asks kind old given ≡ None → MayRemoveValues asks kind old given
  unfolding delete_refusal
  may-delete old [] none =
      let first = none_of _ _ none in
      let second = none_of _ _ first.1 in
      record { allowed = not-false _ (not_when _ _ first.0); there = some_there old (not_when _ _ second.0) }
  may-delete old (value ∷ values) none =
      each_from_none (delete_value_refusal asks kind old) (MayRemoveValue asks kind old) (may-delete_value old) (value ∷ values) none

  delete-may : (old given : List Keyed) → MayRemoveValues asks kind old given → delete_refusal asks kind old given ≡ None
  unfolding delete_refusal
  delete-may old [] may =
      none_from _ _ (when_not _ _ (not_from_true _ may.allowed)) (none_from _ _ (when_not _ _ (not_none old may.there)) refl)
  delete-may old (value ∷ values) may =
      none_from_each (delete_value_refusal asks kind old) (MayRemoveValue asks kind old) (delete_value-may old) (value ∷ values) may

  -- values take the place of others
  abbrev MayGo : List Keyed → Keyed → Type 0
  MayGo given value = has_octets value given ≡ false → asks (Value kind value) permission.Remove ≡ true

  abbrev MayCome : List Keyed → Keyed → Type 0
  MayCome old value = has_octets value old ≡ false → asks (Value kind value) permission.Add ≡ true

  may-go : (given : List Keyed) (value : Keyed) → goes_refusal asks kind given value ≡ None → MayGo given value
  may-go given value none = λ apart. granted_where _ _ _ none (not_from_false _ apart)

  go-may : (given : List Keyed) (value : Keyed) → MayGo given value → goes_refusal asks kind given value ≡ None
  go-may given value may = where_granted _ _ _ (λ apart. may (not-true _ apart))

  may-come : (old : List Keyed) (value : Keyed) → comes_refusal asks kind old value ≡ None → MayCome old value
  may-come old value none = λ apart. granted_where _ _ _ none (not_from_false _ apart)

  come-may : (old : List Keyed) (value : Keyed) → MayCome old value → comes_refusal asks kind old value ≡ None
  come-may old value may = where_granted _ _ _ (λ apart. may (not-true _ apart))

  may-replace : (old given : List Keyed) → replace_refusal asks kind old given ≡ None → MayReplaceValues asks kind old given
  unfolding replace_refusal
  may-replace old given none =
      let first = none_of _ _ none in
      let second = none_of _ _ first.1 in
      let each = none_of_both (map (goes_refusal asks kind given) old) (map (comes_refusal asks kind old) given) second.1 in
      record {
        comes = λ absent some. granted_where_both _ _ _ code.InsufficientAccessRights first.0 (ap are_none absent) (not_from_false _ (not_none given some));
        goes = λ some absent. granted_where_both _ _ _ (withheld asks (Kind kind)) second.0 (not_from_false _ (not_none old some)) (ap are_none absent);
        each_goes = each_from_none (goes_refusal asks kind given) (MayGo given) (may-go given) old each.0;
        each_comes = each_from_none (comes_refusal asks kind old) (MayCome old) (may-come old) given each.1;
      }

  replace-may : (old given : List Keyed) → MayReplaceValues asks kind old given → replace_refusal asks kind old given ≡ None
  unfolding replace_refusal
  replace-may old given may =
      none_from _ _
      (where_both_granted _ _ _ _ (λ absent some. may.comes (none_there old absent) (some_there given (not-true _ some))))
      (none_from _ _
      (where_both_granted _ _ _ _ (λ some absent. may.goes (some_there old (not-true _ some)) (none_there given absent)))
      (none_from_both (map (goes_refusal asks kind given) old) (map (comes_refusal asks kind old) given)
      (none_from_each (goes_refusal asks kind given) (MayGo given) (go-may given) old may.each_goes)
      (none_from_each (comes_refusal asks kind old) (MayCome old) (come-may old) given may.each_comes)))

  -- so whatever is done
  may-do :
      (change : ChangeKind) (old given : List Keyed) → refusal_by change asks kind old given ≡ None
      → MayDo change asks kind old given
  may-do Add old given none = may-add old given none
  may-do Delete old given none = may-delete old given none
  may-do Replace old given none = may-replace old given none

  do-may :
      (change : ChangeKind) (old given : List Keyed) → MayDo change asks kind old given
      → refusal_by change asks kind old given ≡ None
  do-may Add old given may = add-may old given may
  do-may Delete old given may = delete-may old given may
  do-may Replace old given may = replace-may old given may

-- the entry is left that no refusal kept
left_unless :
    (refusal : Option ResultCode) (left found : EntryInformation) → unless_refused refusal left ≡ Ok found
    → (refusal ≡ None) × (left ≡ found)
left_unless None left found is = (refl, cc)
left_unless (Some refusal) left found is = absurd cc

-- one change after the other
pub may-changed_by :
    (asker : Asker) (entry : EntryInformation) (changes : List Modification) (left : EntryInformation) → changed_by asker entry changes ≡ Ok left
    → MayChangeEach asker entry changes left
unfolding changed_by
may-changed_by asker entry [] left is = cc
may-changed_by asker entry (change ∷ changes) left is =
    let asks = asks_after asker (made change entry) in
    let steps = both_given (changed asker entry change) (λ left. changed_by asker left changes) left is in
    let done = left_unless _ (made change entry) steps.0 steps.1 in (
      may-do asks change.kind change.change (values_of change.kind entry.attributes) change.values done.0,
      subst (λ next. MayChangeEach asker next changes left) (sym done.1) (may-changed_by asker steps.0 changes left steps.2),
    )

pub changed_by-may :
    (asker : Asker) (entry : EntryInformation) (changes : List Modification) (left : EntryInformation) → MayChangeEach asker entry changes left
    → changed_by asker entry changes ≡ Ok left
unfolding changed_by
changed_by-may asker entry [] left may = cc
changed_by-may asker entry (change ∷ changes) left may =
    let asks = asks_after asker (made change entry) in
    let next = made change entry in
    let unrefused = do-may asks change.kind change.change (values_of change.kind entry.attributes) change.values may.0 in
    ap (λ refusal. unless_refused refusal next >>= λ left. changed_by asker left changes) unrefused
    ∙ changed_by-may asker next changes left may.1
