-- The entries of a tree that a walk over it has left, and what is asked of each.
use Rattle.std.specs.Prelude.{ℕ, Bool, false, ◌&&◌, List, [], Option, Some, None}
use Rattle.std.specs.Option.{option_map_or}
use Rattle.dir_tree.specs.dn_names.name.Names.{RdnSequence}
use Rattle.dir_tree.specs.Entry.{EntryInformation}
use Rattle.dir_tree.specs.Scope.{is_within}
use Rattle.dir_tree.specs.tree.Numbered.{Numbered, entries_of, entries_at, entry_of}
use Rattle.op_read.specs.acdf_filters.declared.asking.Requester.{Requester}
use Rattle.op_read.specs.read_model.Views.{row_of}
use Rattle.op_read.specs.twin_laws.Twins.{is_shown}

-- those of the numbers that are left; a tree without entries has no walk
abbrev pub rows_left : List Numbered → Option (List ℕ) → List EntryInformation
rows_left rows None = []
rows_left rows (Some ids) = entries_at rows ids

-- the entry is at or below the name, and shown to the requester
abbrev pub is_shown_within : RdnSequence → List EntryInformation → Requester → EntryInformation → Bool
is_shown_within top entries who entry = is_within top entry && is_shown (row_of entries who entry)

-- so of the entry of a number, if that is in use
abbrev pub is_number_shown : RdnSequence → List Numbered → Requester → ℕ → Bool
is_number_shown top rows who id = option_map_or (is_shown_within top (entries_of rows) who) (entry_of id rows) false
