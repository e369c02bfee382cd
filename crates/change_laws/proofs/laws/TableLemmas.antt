-- Tables of refusals in which nothing refuses, and the changes that they decide.
use Rattle.std.proofs.Common.{◌≡◌, Bool, true, false, not, ◌&&◌, List, [], ◌∷◌, ◌++◌, map, Option, None, refl}
use Rattle.std.specs.List.{AllByRecursion}
use Rattle.std.proofs.lemmas.Bool.{not-false, not_from_true}
use Rattle.ldap_msg.specs.plain_values.Results.{◌>>=◌}
use Rattle.ldap_msg.specs.plain_values.Refusals.{when, first_some}
use Rattle.ldap_msg.proofs.plain_values_proofs.Theorems.{none_of, none_from, when_not, not_when}

-- two tables, one behind the other
pub none_of_both :
    {A : Type 0} (rows others : List (Option A)) → first_some (rows ++ others) ≡ None
    → (first_some rows ≡ None) × (first_some others ≡ None)
none_of_both [] others is = (refl, is)
none_of_both (row ∷ rows) others is =
    let parts = none_of row (rows ++ others) is in
    let later = none_of_both rows others parts.1 in
    (none_from row rows parts.0 later.0, later.1)

pub none_from_both :
    {A : Type 0} (rows others : List (Option A)) → first_some rows ≡ None → first_some others ≡ None
    → first_some (rows ++ others) ≡ None
none_from_both [] others first later = later
none_from_both (row ∷ rows) others first later =
    let parts = none_of row rows first in
    none_from row (rows ++ others) parts.0 (none_from_both rows others parts.1 later)

-- a table that has a row for each of some items
module _ {X A : Type 0} (row : X → Option A) (P : X → Type 0) where
  pub each_from_none :
      ((x : X) → row x ≡ None → P x) → (xs : List X) → first_some (map row xs) ≡ None → AllByRecursion P xs
  each_from_none each [] is = tt
  each_from_none each (x ∷ xs) is =
      let parts = none_of (row x) (map row xs) is in
      (each x parts.0, each_from_none each xs parts.1)

  pub none_from_each :
      ((x : X) → P x → row x ≡ None) → (xs : List X) → AllByRecursion P xs → first_some (map row xs) ≡ None
  none_from_each each [] all = refl
  none_from_each each (x ∷ xs) all = none_from (row x) (map row xs) (each x all.0) (none_from_each each xs all.1)

-- one that applies where a decision is needed and isn't granted
pub granted_where :
    {A : Type 0} (needed is_granted : Bool) (refusal : A) → when (needed && not is_granted) refusal ≡ None
    → needed ≡ true → is_granted ≡ true
granted_where true is_granted refusal none is = not-false is_granted (not_when (not is_granted) refusal none)
granted_where false is_granted refusal none is = absurd cc

pub where_granted :
    {A : Type 0} (needed is_granted : Bool) (refusal : A) → (needed ≡ true → is_granted ≡ true)
    → when (needed && not is_granted) refusal ≡ None
where_granted true is_granted refusal may = when_not (not is_granted) refusal (not_from_true is_granted (may refl))
where_granted false is_granted refusal may = refl

-- where a second thing is needed too
pub granted_where_both :
    {A : Type 0} (needed also is_granted : Bool) (refusal : A) → when (needed && (also && not is_granted)) refusal ≡ None
    → needed ≡ true → also ≡ true → is_granted ≡ true
granted_where_both true also is_granted refusal none is = granted_where also is_granted refusal none
granted_where_both false also is_granted refusal none is = absurd cc

pub where_both_granted :
    {A : Type 0} (needed also is_granted : Bool) (refusal : A) → (needed ≡ true → also ≡ true → is_granted ≡ true)
    → when (needed && (also && not is_granted)) refusal ≡ None
where_both_granted true also is_granted refusal may = where_granted also is_granted refusal (may refl)
where_both_granted false also is_granted refusal may = refl
