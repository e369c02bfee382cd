-- What may be changed of an entry is changed where everything is granted.
use Rattle.std.proofs.Common.{◌≡◌, ◌≢◌, ℕ, Bool, true, false, not, ◌&&◌, List, [], ◌∷◌, ◌++◌, map, Option, None, Ok, refl, ap, ◌∙◌}
use Rattle.std.specs.List.{AllByRecursion}
use Rattle.dir_tree.specs.plain_values.Results.{◌>>=◌}
use Rattle.dir_tree.specs.plain_values.Refusals.{when, first_some}
use Rattle.dir_tree.proofs.plain_values_proofs.Theorems.{none_from, when_not}
use Rattle.dir_tree.specs.dn_names.name.Names.{Keyed}
use Rattle.dir_tree.specs.Entry.{EntryInformation, values_of, has_key}
use Rattle.change_laws.specs.op_modify.ldap_msg.declared.operations.ResultCode.{ResultCode}
use Rattle.change_laws.specs.op_modify.ldap_msg.declared.operations.ResultCode.TheVariants as code
use Rattle.acdf_filters.specs.Asking.{Kind}
use Rattle.entry_changes.specs.declared.kind.ChangeKind.{ChangeKind}
use Rattle.entry_changes.specs.declared.kind.ChangeKind.TheVariants.{Add, Delete, Replace}
use Rattle.entry_changes.specs.Change.{Asks, Asker, Modification, asks_after, are_none, withheld, add_value_refusal, add_refusal, delete_value_refusal, delete_refusal, goes_refusal, comes_refusal, replace_refusal, refusal_by, made, unless_refused, changed_by}
use Rattle.change_laws.specs.Changing.{MayAddValue, MayAddValues, MayRemoveValue, MayRemoveValues, MayDo, MayChangeEach}
use Rattle.change_replay.specs.Applied.{everything}

-- what asks for a decision that is granted does not apply
and-granted : (needed : Bool) → (needed && false) ≡ false
and-granted true = refl
and-granted false = refl

both-granted : (needed also : Bool) → (needed && (also && false)) ≡ false
both-granted true also = and-granted also
both-granted false also = refl

-- a table that has a row for each of some items
none_from_each :
    {X A : Type 0} (row : X → Option A) (P : X → Type 0) → ((x : X) → P x → row x ≡ None) → (xs : List X) → AllByRecursion P xs
    → first_some (map row xs) ≡ None
none_from_each row P each [] all = refl
none_from_each row P each (x ∷ xs) all = none_from (row x) (map row xs) (each x all.0) (none_from_each row P each xs all.1)

none_of_any : {X A : Type 0} (row : X → Option A) → ((x : X) → row x ≡ None) → (xs : List X) (rows : List (Option A)) → first_some rows ≡ None
    → first_some (map row xs ++ rows) ≡ None
none_of_any row each [] rows none = none
none_of_any row each (x ∷ xs) rows none = none_from (row x) (map row xs ++ rows) (each x) (none_of_any row each xs rows none)

none_of_all : {X A : Type 0} (row : X → Option A) → ((x : X) → row x ≡ None) → (xs : List X) → first_some (map row xs) ≡ None
none_of_all row each [] = refl
none_of_all row each (x ∷ xs) = none_from (row x) (map row xs) (each x) (none_of_all row each xs)

-- some values are there
not_none : (values : List Keyed) → values ≢ [] → are_none values ≡ false
not_none [] some = absurd (some refl)
not_none (value ∷ values) some = refl

module _ (asks : Asks) (after : EntryInformation) (kind : ℕ) where
  abbrev all : Asks
  all item permission = asks_after everything after item permission

  add_value-granted : (old : List Keyed) (value : Keyed) → MayAddValue asks kind old value → add_value_refusal all kind old value ≡ None
  add_value-granted old value may = none_from _ _ (when_not _ _ may.new) refl

  add-granted : (old given : List Keyed) → MayAddValues asks kind old given → add_refusal all kind old given ≡ None
  unfolding add_refusal
  add-granted old given may =
      none_from _ _ (when_not _ _ (and-granted (are_none old)))
      (none_from_each (add_value_refusal all kind old) (MayAddValue asks kind old) (add_value-granted old) given may.each)

  delete_value-granted : (old : List Keyed) (value : Keyed) → MayRemoveValue asks kind old value → delete_value_refusal all kind old value ≡ None
  delete_value-granted old value may =
      let there : first_some (when (not (has_key value.key old)) code.NoSuchAttribute ∷ []) ≡ None =
      none_from _ _ (when_not _ _ (ap not may.there)) refl in
      there

  delete-granted : (old given : List Keyed) → MayRemoveValues asks kind old given → delete_refusal all kind old given ≡ None
  unfolding delete_refusal
  delete-granted old [] may =
      let there : first_some (when (are_none old) code.NoSuchAttribute ∷ []) ≡ None =
      none_from _ _ (when_not _ _ (not_none old may.there)) refl in
      there
  delete-granted old (value ∷ values) may =
      none_from_each (delete_value_refusal all kind old) (MayRemoveValue asks kind old) (delete_value-granted old) (value ∷ values) may

  goes-granted : (given : List Keyed) (value : Keyed) → goes_refusal all kind given value ≡ None
  goes-granted given value = when_not _ _ (and-granted _)

  comes-granted : (old : List Keyed) (value : Keyed) → comes_refusal all kind old value ≡ None
  comes-granted old value = when_not _ _ (and-granted _)

  replace-granted : (old given : List Keyed) → replace_refusal all kind old given ≡ None
  unfolding replace_refusal
  replace-granted old given =
      let rows : List (Option ResultCode) = map (goes_refusal all kind given) old ++ map (comes_refusal all kind old) given in
      let each : first_some rows ≡ None =
      none_of_any (goes_refusal all kind given) (goes-granted given) old (map (comes_refusal all kind old) given)
      (none_of_all (comes_refusal all kind old) (comes-granted old) given) in
      let goes : Option ResultCode = when (not (are_none old) && (are_none given && false)) (withheld all (Kind kind)) in
      let later : first_some (goes ∷ rows) ≡ None =
      none_from goes rows (when_not (not (are_none old) && (are_none given && false)) (withheld all (Kind kind)) (both-granted (not (are_none old)) (are_none given))) each in
      let comes : Option ResultCode = when (are_none old && (not (are_none given) && false)) code.InsufficientAccessRights in
      none_from comes (goes ∷ rows)
      (when_not (are_none old && (not (are_none given) && false)) code.InsufficientAccessRights (both-granted (are_none old) (not (are_none given)))) later

  do-granted : (change : ChangeKind) (old given : List Keyed) → MayDo change asks kind old given → refusal_by change all kind old given ≡ None
  do-granted Add old given may = add-granted old given may
  do-granted Delete old given may = delete-granted old given may
  do-granted Replace old given may = replace-granted old given

-- one change after the other
pub changed_by-granted :
    (asker : Asker) (entry : EntryInformation) (changes : List Modification) (left : EntryInformation) → MayChangeEach asker entry changes left
    → changed_by everything entry changes ≡ Ok left
unfolding changed_by
changed_by-granted asker entry [] left may = cc
changed_by-granted asker entry (change ∷ changes) left may =
    let next = made change entry in
    let unrefused = do-granted (asks_after asker next) next change.kind change.change (values_of change.kind entry.attributes) change.values may.0 in
    ap (λ refusal. unless_refused refusal next >>= λ left. changed_by everything left changes) unrefused
    ∙ changed_by-granted asker next changes left may.1
