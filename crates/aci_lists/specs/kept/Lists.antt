-- What a directory keeps of each entry, so that a decision reads no text and takes no memory.
use Rattle.std.specs.Prelude.{◌≡◌, ℕ, ◌<◌, length, List, [], ◌++◌, map, flat_map, Option, Some, None, IsSome, slice_index_or, if◌then◌else◌}
use Rattle.std.specs.List.{AllByRecursion}
use Rattle.dir_tree.specs.Entry.{EntryInformation}
use Rattle.dir_tree.specs.tree.Numbered.{Numbered, entry_of, entries_of, entries_at, superior_of}
use Rattle.dir_tree.specs.Points.{is_subentry}
use Rattle.acdf_filters.specs.admin_scope.InForce.{in_force}
use Rattle.acdf_filters.specs.aci_item.AciTuples.{AciTuple}
use Rattle.acdf_filters.specs.Tuples.{TaggedTuples, prescriptive_aci, entry_aci, subentry_aci, items_in}
use Rattle.acdf_filters.specs.aci_item.item.Views.{tuple_of}
use Rattle.aci_lists.specs.Order.{highest_first}
use Rattle.aci_lists.specs.declared.kept.Kept.{Kept}

-- the tuples of items
abbrev pub tuples_in : List TaggedTuples → List AciTuple
tuples_in items = flat_map (λ item. item.tuples) items

-- the numbers of the subentries in force, and the tuples of the entry's own values
pub record Lists : Type 0 where
  pub in_force : List ℕ
  pub prescriptive : List AciTuple
  pub own : List AciTuple
  pub below : List AciTuple

-- what is kept where nothing is
abbrev pub no_lists : Lists
no_lists = record { in_force = []; prescriptive = []; own = []; below = [] }

-- what the program keeps
abbrev pub lists_of : Kept → Lists
lists_of kept = record {
  in_force = map (λ no. no.0) kept.in_force.items;
  prescriptive = map tuple_of kept.prescriptive.tuples.items;
  own = map tuple_of kept.own.tuples.items;
  below = map tuple_of kept.below.tuples.items;
}

-- the lists of the number
abbrev pub lists_at : List Kept → ℕ → Lists
lists_at kept id = slice_index_or (map lists_of kept) id no_lists

-- the lists are those of the entry, the tuples of the highest precedence first
pub record AreOf (rows : List Numbered) (entry : EntryInformation) (lists : Lists) : Type 0 where
  pub in_force : entries_at rows lists.in_force ≡ in_force (entries_of rows) entry
  pub live : AllByRecursion (λ id. IsSome (entry_of id rows)) lists.in_force
  pub prescriptive : lists.prescriptive ≡ highest_first (tuples_in (items_in prescriptive_aci entry))
  pub own : lists.own ≡ highest_first (tuples_in (items_in entry_aci entry))
  pub below : lists.below ≡ highest_first (tuples_in (items_in subentry_aci entry))

-- of each number that is in use its entry's lists are kept
abbrev pub IsKept : List Kept → List Numbered → Type 0
IsKept kept rows = (id : ℕ) (entry : EntryInformation) → entry_of id rows ≡ Some entry → AreOf rows entry (lists_at kept id)

-- the same of the numbers of which anything is kept
abbrev pub IsKeptBelow : List Kept → List Numbered → Type 0
IsKeptBelow kept rows =
    (id : ℕ) (entry : EntryInformation) → id < length kept → entry_of id rows ≡ Some entry → AreOf rows entry (lists_at kept id)

-- the tuples of the subentries of the numbers
abbrev pub tuples_at : List Kept → List ℕ → List AciTuple
tuples_at kept ids = flat_map (λ id. (lists_at kept id).prescriptive) ids

-- those that a subentry has from the entry of the number, if there is one
abbrev pub tuples_below : List Kept → Option ℕ → List AciTuple
tuples_below kept None = []
tuples_below kept (Some id) = (lists_at kept id).below

-- those that an entry has from others
abbrev pub tuples_inherited : List Kept → ℕ → EntryInformation → List Numbered → List AciTuple
tuples_inherited kept id entry rows =
    if is_subentry entry then tuples_below kept (superior_of id rows) else tuples_at kept (lists_at kept id).in_force

-- all that count for the entry
abbrev pub tuples_kept : List Kept → ℕ → EntryInformation → List Numbered → List AciTuple
tuples_kept kept id entry rows = tuples_inherited kept id entry rows ++ (lists_at kept id).own
