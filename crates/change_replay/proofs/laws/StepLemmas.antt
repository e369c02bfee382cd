-- The steps of a change that is applied: what each gave, where all went well.
use Rattle.std.proofs.Common.{◌≡◌, ◌≢◌, ℕ, ◌==◌, true, false, List, [], ◌∷◌, length, Option, Some, None, Result, Ok, Err, if◌then◌else◌, refl, sym, ap, ◌∙◌, arith}
use Rattle.std.proofs.lemmas.Bool.{cond-false}
use Rattle.std.proofs.lemmas.Bool.Decides.{nat_tests}
use Rattle.dir_tree.specs.dn_names.name.Names.{RdnSequence}
use Rattle.dir_tree.specs.dn_names.parsing.NameText.{read_name}
use Rattle.dir_tree.specs.dn_names.declared.error.BadName.{BadName}
use Rattle.dir_tree.specs.Entry.{EntryInformation}
use Rattle.dir_tree.specs.tree.Trees.{named_in}
use Rattle.acdf_filters.specs.aci_item.declared.entry_rule.EntryRule.{EntryRule}
use Rattle.entry_changes.specs.Change.{unless_refused}
use Rattle.change_laws.specs.op_modify.declared.renaming.Renaming.{Renaming}
use Rattle.change_laws.specs.op_modify.ldap_msg.declared.operations.ResultCode.{ResultCode}
use Rattle.change_laws.specs.op_modify.ldap_msg.declared.operations.ResultCode.TheVariants as code
use Rattle.change_replay.specs.Applied.{named, name_in, target_by, taken_refusal, rule_refusal, renaming_by}

-- a name that is read and isn't the empty one is the name of an entry
pub name-read : (text : List ℕ) (name : RdnSequence) → read_name text ≡ Ok name → name ≢ [] → name_in text ≡ Ok name
name-read text [] is some = absurd (some refl)
name-read text (rdn ∷ rdns) is some = ap named is

-- and each such name was read
pub record IsName (text : List ℕ) (name : RdnSequence) : Type 0 where
  pub read : read_name text ≡ Ok name
  pub some : name ≢ []

name_from :
    (text : List ℕ) (name : RdnSequence) (found : Result RdnSequence BadName) → read_name text ≡ found → named found ≡ Ok name
    → IsName text name
name_from text name (Err bad) read is = absurd cc
name_from text name (Ok []) read is = absurd cc
name_from text name (Ok (rdn ∷ rdns)) read is =
    let same : rdn ∷ rdns ≡ name = cc in
    record { read = read ∙ ap Ok same; some = λ none. absurd (let empty : rdn ∷ rdns ≡ [] = same ∙ none in cc) }

pub IsName-found : (text : List ℕ) (name : RdnSequence) → name_in text ≡ Ok name → IsName text name
IsName-found text name is = name_from text name (read_name text) refl is

-- a target is the entry that was found
target_from : (found : Option EntryInformation) (target : EntryInformation) → target_by found ≡ Ok target → found ≡ Some target
target_from None target is = absurd cc
target_from (Some other) target is = (let same : other ≡ target = cc in ap (λ (entry : EntryInformation). Some entry) same)

pub found-target :
    (entries : List EntryInformation) (name : RdnSequence) (target : EntryInformation) → target_by (named_in name entries) ≡ Ok target
    → named_in name entries ≡ Some target
found-target entries name target is = target_from (named_in name entries) target is

-- no entry has the name that isn't taken
pub not_taken : (found : Option EntryInformation) → taken_refusal found ≡ None → found ≡ None
not_taken None is = refl
not_taken (Some other) is = absurd cc

-- no rule is broken where none refuses
pub not_broken : (broken : Option EntryRule) → rule_refusal broken ≡ None → broken ≡ None
not_broken None is = refl
not_broken (Some rule) is = absurd cc

-- what nothing refused
pub record IsUnrefused {A : Type 0} (refusal : Option ResultCode) (value left : A) : Type 0 where
  pub none : refusal ≡ None
  pub same : value ≡ left

pub IsUnrefused-left : {A : Type 0} (refusal : Option ResultCode) (value left : A) → unless_refused refusal value ≡ Ok left → IsUnrefused refusal value left
IsUnrefused-left None value left is = record { none = refl; same = cc }
IsUnrefused-left (Some code) value left is = absurd cc

-- the name is not empty
no_empty : (name : RdnSequence) → name ≢ [] → (length name == 0) ≡ false
no_empty [] some = absurd (some refl)
no_empty (rdn ∷ rdns) some = grind (arith, nat_tests)

some_rdns : (name : RdnSequence) → (length name == 0) ≡ false → name ≢ []
some_rdns [] some = absurd cc
some_rdns (rdn ∷ rdns) some = λ none. cc

-- a rename of an entry that is asked for
pub renaming-read :
    (found : Option Renaming) (renaming : Renaming) → found ≡ Some renaming → renaming.name ≢ [] → renaming_by found ≡ Ok renaming
renaming-read found renaming is some =
    ap renaming_by is ∙ cond-false (length renaming.name == 0) (Err code.UnwillingToPerform) (Ok renaming) (no_empty renaming.name some)

pub record IsRenaming (found : Option Renaming) (renaming : Renaming) : Type 0 where
  pub read : found ≡ Some renaming
  pub some : renaming.name ≢ []

pub IsRenaming-found : (found : Option Renaming) (renaming : Renaming) → renaming_by found ≡ Ok renaming → IsRenaming found renaming
IsRenaming-found None renaming is = absurd cc
IsRenaming-found (Some one) renaming is =
    (elim (length one.name == 0)
    as (λ empty. (length one.name == 0) ≡ empty → (if empty then Err code.UnwillingToPerform else Ok one) ≡ Ok renaming → IsRenaming (Some one) renaming) [
      | true ↦ λ empty is. absurd cc
      | false ↦ λ filled is. (
          let same : one ≡ renaming = cc in
          record {
            read = ap (λ (one : Renaming). Some one) same;
            some = λ none. some_rdns one.name filled (ap (λ (one : Renaming). one.name) same ∙ none);
          }
          )
    ]) refl is
