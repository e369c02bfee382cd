-- When a tree does not take a change, by the first cause that is found.
use Rattle.std.specs.Prelude.{ℕ, ◌==◌, Bool, true, not, ◌&&◌, List, [], ◌∷◌, length, if◌then◌else◌, Option, Some, None}
use Rattle.dn_names.specs.name.Names.{RdnSequence}
use Rattle.dn_names.specs.NameOrder.{is_same}
use Rattle.dir_tree.specs.Entry.{EntryInformation}
use Rattle.dir_tree.specs.tree.Trees.{most_entries, has_name, lacks_superior, has_below, superior_name}
use Rattle.dir_tree.specs.tree.Numbered.{Numbered, entries_of, entry_of, suffix_of, without}
use Rattle.dir_tree.specs.Scope.{is_number}
use Rattle.dir_tree.specs.declared.refusals.InsertRefusal.{InsertRefusal}
use Rattle.dir_tree.specs.declared.refusals.InsertRefusal.TheVariants as inserting
use Rattle.dir_tree.specs.declared.refusals.RemoveRefusal.{RemoveRefusal}
use Rattle.dir_tree.specs.declared.refusals.RemoveRefusal.TheVariants as removing
use Rattle.dir_tree.specs.declared.refusals.ReplaceRefusal.{ReplaceRefusal}
use Rattle.dir_tree.specs.declared.refusals.ReplaceRefusal.TheVariants as replacing

-- why an entry of the name is not put in
abbrev pub insert_refusal : RdnSequence → List EntryInformation → Option InsertRefusal
insert_refusal name entries =
    if has_name name entries then Some inserting.NameTaken
    else if lacks_superior name entries then Some inserting.NoSuperior
    else if length entries == most_entries then Some inserting.Full
    else None

-- why the entry, if there is one, is not taken out
abbrev pub refusal_below : Option EntryInformation → List EntryInformation → Option RemoveRefusal
refusal_below None entries = Some removing.Absent
refusal_below (Some entry) entries = if has_below entry.name entries then Some removing.HasBelow else None

-- why the entry of the number is not taken out
abbrev pub remove_refusal : ℕ → List Numbered → Option RemoveRefusal
remove_refusal id rows = refusal_below (entry_of id rows) (entries_of rows)

-- no place for the entry of the number: the name is the empty one, or the entry is not the suffix and no other is the name's superior
abbrev pub lacks_place : ℕ → RdnSequence → List Numbered → Bool
lacks_place id [] rows = true
lacks_place id (rdn ∷ rdns) rows =
    not (is_number id (suffix_of rows)) && not (has_name (superior_name (rdn ∷ rdns)) (entries_of (without id rows)))

-- why an entry of the name does not take the place of the entry of the number, if there is one
abbrev pub refusal_in_place : ℕ → RdnSequence → Option EntryInformation → List Numbered → Option ReplaceRefusal
refusal_in_place id name None rows = Some replacing.Absent
refusal_in_place id name (Some old) rows =
    if has_name name (entries_of (without id rows)) then Some replacing.NameTaken
    else if lacks_place id name rows then Some replacing.NoSuperior
    else if not (is_same name old.name) && has_below old.name (entries_of rows) then Some replacing.HasBelow
    else None

-- why an entry of the name does not take the place of the entry of the number
abbrev pub replace_refusal : ℕ → RdnSequence → List Numbered → Option ReplaceRefusal
replace_refusal id name rows = refusal_in_place id name (entry_of id rows) rows
