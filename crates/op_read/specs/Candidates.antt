-- The entries that a search looks at: all of its scope, or those of them that may be selected.
use Rattle.std.specs.Prelude.{◌≡◌, ℕ, Bool, false, List, [], map}
use Rattle.std.specs.Option.{option_map_or}
use Rattle.dir_tree.specs.dn_names.name.Names.{RdnSequence}
use Rattle.dir_tree.specs.tree.Trees.{is_before}
use Rattle.dir_tree.specs.tree.Numbered.{Numbered, entry_of}
use Rattle.dir_tree.specs.declared.number.EntryNo.{EntryNo}
use Rattle.acdf_filters.specs.declared.asking.Requester.{Requester}
use Rattle.directory.specs.value_index.Holders.{has_number}
use Rattle.page_core.specs.read_model.Views.{Row}
use Rattle.op_read.specs.declared.candidates.Source.{Source}
use Rattle.op_read.specs.declared.candidates.Source.TheVariants as sources
use Rattle.op_read.specs.Sending.{shown_at}

-- the numbers
abbrev pub ids_in : List EntryNo → List ℕ
ids_in numbers = map (λ number. number.0) numbers

-- the numbers that are left
abbrev pub left_of : Source → List ℕ
left_of (sources.Walk walk) = walk
left_of (sources.List numbers) = ids_in numbers.now

-- each entry that is shown is among the numbers
abbrev pub HasShown : (Row → Bool) → List Numbered → Requester → List EntryNo → Type 0
HasShown test rows who numbers = (id : ℕ) → has_number id numbers ≡ false → shown_at test rows who id ≡ []

-- whether the entry of the number comes after the name, if there is one
abbrev pub comes_after : List Numbered → RdnSequence → EntryNo → Bool
comes_after rows name number = option_map_or (λ entry. is_before name entry.name) (entry_of number.0 rows) false
