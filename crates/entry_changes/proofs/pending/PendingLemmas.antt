-- Changes of an entry from which values are still to be taken out.
use Rattle.std.proofs.Common.{◌≡◌, ℕ, true, false, map, List, [], ◌∷◌, ◌++◌, Option, Ok, refl, sym, ap, ◌∙◌, subst}
use Rattle.ldap_msg.specs.plain_values.Answers.{IsFaultOf}
use Rattle.ldap_msg.specs.plain_values.Refusals.{first_some}
use Rattle.dir_tree.specs.dn_names.name.Names.{Keyed}
use Rattle.dir_tree.specs.Entry.{EntryInformation, values_of, IsGoodAttributes}
use Rattle.ldap_msg.specs.declared.operations.ResultCode.{ResultCode}
use Rattle.entry_changes.specs.declared.kind.ChangeKind.TheVariants.{Delete}
use Rattle.entry_changes.specs.Change.{Asker, Modification, asks_after, are_none, delete_value_refusal, delete_refusal, without_each, left_by, changed}
use Rattle.entry_changes.specs.Steps.{staying}
use Rattle.entry_changes.proofs.effects.TakenLemmas.{values_of-without_each, without_each-append}
use Rattle.entry_changes.proofs.making.MadeLemmas.{delete_refusal-alike, delete_refusal-values}

pub none_given : (values : List Keyed) → are_none values ≡ true → values ≡ []
none_given [] none = refl
none_given (value ∷ values) none = absurd cc

-- ---- nothing is left to be taken out

pub settled : (asker : Asker) (old entry left : EntryInformation) (change : Modification) (kind : ℕ) (gone : List Keyed) → entry ≡ old → gone ≡ []
    → changed asker entry change ≡ Ok left → changed asker old change ≡ Ok (without_each kind gone left)
settled asker old entry left change kind gone is none made =
    ap (λ entry. changed asker entry change) (sym is) ∙ made ∙ ap (λ (gone : List Keyed). Ok (without_each kind gone left)) (sym none)

pub settled-refused : (asker : Asker) (old entry : EntryInformation) (change : Modification) (cause : Option ResultCode) → entry ≡ old
    → IsFaultOf cause (changed asker entry change) → IsFaultOf cause (changed asker old change)
settled-refused asker old entry change cause is says = subst (λ (entry : EntryInformation). IsFaultOf cause (changed asker entry change)) is says

-- ---- values go, one after the other

left_by-values : (kind : ℕ) (values : List Keyed) (entry : EntryInformation) → are_none values ≡ false → left_by Delete kind values entry ≡ without_each kind values entry
left_by-values kind [] entry some = absurd cc
left_by-values kind (value ∷ values) entry some = refl

-- those of a change go with those that went before
pub gone-more : (kind : ℕ) (gone values more : List Keyed) (old entry : EntryInformation) → are_none values ≡ false → old ≡ without_each kind gone entry → more ≡ gone ++ values
    → without_each kind more entry ≡ left_by Delete kind values old
gone-more kind gone values more old entry some is grows =
    ap (λ gone. without_each kind gone entry) grows
    ∙ without_each-append kind gone values entry
    ∙ ap (without_each kind values) (sym is)
    ∙ sym (left_by-values kind values old some)

-- and are judged by what those left
pub gone-refusal : (asker : Asker) (kind : ℕ) (gone values : List Keyed) (old entry after : EntryInformation) → are_none values ≡ false → IsGoodAttributes entry.attributes → old ≡ without_each kind gone entry
    → first_some (map (delete_value_refusal (asks_after asker entry) kind (staying gone (values_of kind entry.attributes))) values)
    ≡ delete_refusal (asks_after asker after) kind (values_of kind old.attributes) values
gone-refusal asker kind gone values old entry after some good is =
    sym (delete_refusal-values (asks_after asker entry) kind (staying gone (values_of kind entry.attributes)) values some)
    ∙ delete_refusal-alike asker entry after kind (staying gone (values_of kind entry.attributes)) values
    ∙ ap (λ old. delete_refusal (asks_after asker after) kind old values)
    (sym (ap (λ (old : EntryInformation). values_of kind old.attributes) is ∙ values_of-without_each kind gone entry good))
