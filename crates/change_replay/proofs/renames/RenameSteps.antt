-- What the target becomes, where it may leave its place.
use Rattle.std.proofs.Common.{◌≡◌, Bool, true, false, not, ◌||◌, ◌++◌, List, [], ◌∷◌, Option, Some, None, Ok, Err, if◌then◌else◌, refl, sym, ap, ◌∙◌}
use Rattle.std.specs.Prelude.{find}
use Rattle.std.specs.List.{list_any}
use Rattle.std.specs.Option.{option_map_or}
use Rattle.dir_tree.specs.plain_values.Refusals.{when, first_some}
use Rattle.dir_tree.proofs.TreeTheorems.{none_named}
use Rattle.dir_tree.specs.Entry.{EntryInformation}
use Rattle.dir_tree.specs.tree.Trees.{is_named, named_in, has_name, has_below}
use Rattle.entry_changes.specs.Change.{unless_refused}
use Rattle.entry_changes.specs.Renaming.{renamed_entry}
use Rattle.change_laws.specs.op_modify.declared.renaming.Renaming.{Renaming}
use Rattle.change_laws.specs.op_modify.ReadRenames.{above}
use Rattle.change_laws.specs.op_modify.Renames.{new_name, is_unmovable}
use Rattle.change_laws.specs.op_modify.ldap_msg.declared.operations.ResultCode.TheVariants as code
use Rattle.change_replay.specs.Applied.{become}

-- what a test finds has it
some_named : (test : EntryInformation → Bool) (entries : List EntryInformation) (found : EntryInformation) → find test entries ≡ Some found → list_any test entries ≡ true
some_named test [] found is = absurd cc
some_named test (first ∷ rest) found is =
    (elim (test first) as (λ here. (if here then Some first else find test rest) ≡ Some found → (here || list_any test rest) ≡ true) [
      | true ↦ λ is. refl
      | false ↦ λ is. some_named test rest found is
    ]) is

-- none stands below the target, whose number is known
pub below-known :
    (entries : List EntryInformation) (target : EntryInformation) (found : Option EntryInformation) (has : Bool)
    → has ≡ option_map_or (λ entry. has_below entry.name entries) found false → found ≡ Some target → has ≡ false
    → has_below target.name entries ≡ false
below-known entries target found has says is none =
    ap (λ (found : Option EntryInformation). option_map_or (λ entry. has_below entry.name entries) found false) (sym is) ∙ sym says ∙ none

-- the rows one after the other: the last is that of the superior
become-alone :
    (entries : List EntryInformation) (renaming : Renaming) (target : EntryInformation) → is_unmovable entries renaming target ≡ false
    → has_below target.name entries ≡ false
    → become entries renaming target
    ≡ unless_refused (first_some (when (not (has_name (above renaming) entries)) code.NoSuchObject ∷ [])) (renamed_entry (new_name entries renaming) renaming.delete_old target)
become-alone entries renaming target movable alone =
    ap (λ applies. unless_refused
    (first_some (when applies code.UnwillingToPerform ∷ when (has_below target.name entries) code.NotAllowedOnNonLeaf ∷ when (not (has_name (above renaming) entries)) code.NoSuchObject ∷ []))
    (renamed_entry (new_name entries renaming) renaming.delete_old target)) movable
    ∙ ap (λ applies. unless_refused
    (first_some (when applies code.NotAllowedOnNonLeaf ∷ when (not (has_name (above renaming) entries)) code.NoSuchObject ∷ []))
    (renamed_entry (new_name entries renaming) renaming.delete_old target)) alone

pub become-nowhere :
    (entries : List EntryInformation) (renaming : Renaming) (target : EntryInformation) → is_unmovable entries renaming target ≡ false
    → has_below target.name entries ≡ false → None ≡ named_in (above renaming) entries → become entries renaming target ≡ Err code.NoSuchObject
become-nowhere entries renaming target movable alone none =
    let absent = none_named (is_named (above renaming)) entries (sym none) in
    become-alone entries renaming target movable alone
    ∙ ap (λ has. unless_refused (first_some (when (not has) code.NoSuchObject ∷ [])) (renamed_entry (new_name entries renaming) renaming.delete_old target)) absent

pub become-under :
    (entries : List EntryInformation) (renaming : Renaming) (target superior entry : EntryInformation) → is_unmovable entries renaming target ≡ false
    → has_below target.name entries ≡ false → Some superior ≡ named_in (above renaming) entries
    → entry ≡ renamed_entry (superior.name ++ renaming.rdn) renaming.delete_old target → become entries renaming target ≡ Ok entry
become-under entries renaming target superior entry movable alone found is =
    let has = some_named (is_named (above renaming)) entries superior (sym found) in
    let name : new_name entries renaming ≡ superior.name ++ renaming.rdn =
    ap (λ (found : Option EntryInformation). option_map_or (λ entry. entry.name) found (above renaming) ++ renaming.rdn) (sym found) in
    become-alone entries renaming target movable alone
    ∙ ap (λ has. unless_refused (first_some (when (not has) code.NoSuchObject ∷ [])) (renamed_entry (new_name entries renaming) renaming.delete_old target)) has
    ∙ ap (λ name. Ok (renamed_entry name renaming.delete_old target)) name
    ∙ ap Ok (sym is)
