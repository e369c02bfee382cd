-- Which entries a scope takes in (RFC 4511 4.5.1.2).
use Rattle.std.specs.Prelude.{ℕ, ◌+◌, ◌==◌, ◌&&◌, Bool, false, List, [], ◌∷◌, length, filter, if◌then◌else◌, Option, Some, None}
use Rattle.dn_names.specs.name.Names.{RdnSequence}
use Rattle.dn_names.specs.NameOrder.{is_prefix_of}
use Rattle.dir_tree.specs.Entry.{EntryInformation}
use Rattle.dir_tree.specs.tree.Trees.{is_before}
use Rattle.dir_tree.specs.tree.Numbered.{Numbered, ids_of, entry_of, superior_of}
use Rattle.dir_tree.specs.declared.scope.Scope.{Scope}
use Rattle.dir_tree.specs.declared.scope.Scope.TheVariants.{Base, One, Sub}

-- whether the entry is at or below the name
abbrev pub is_within : RdnSequence → EntryInformation → Bool
is_within base entry = is_prefix_of base entry.name

-- whether the entry is immediately below the name
abbrev pub is_child : RdnSequence → EntryInformation → Bool
is_child base entry = is_prefix_of base entry.name && (length entry.name == length base + 1)

-- the entries that the scope takes in, from the number of the base, if that is in use
abbrev pub in_scope : Scope → ℕ → Option EntryInformation → List Numbered → List ℕ
in_scope scope id None rows = []
in_scope Base id (Some base) rows = id ∷ []
in_scope One id (Some base) rows = ids_of (filter (λ row. is_child base.name row.entry) rows)
in_scope Sub id (Some base) rows = ids_of (filter (λ row. is_within base.name row.entry) rows)

-- the numbers of the entries that the scope of a number takes in
abbrev pub scoped : Scope → ℕ → List Numbered → List ℕ
scoped scope id rows = in_scope scope id (entry_of id rows) rows

-- those of them whose names come after a name
abbrev pub in_scope_after : Scope → ℕ → Option EntryInformation → RdnSequence → List Numbered → List ℕ
in_scope_after scope id None after rows = []
in_scope_after Base id (Some base) after rows = if is_before after base.name then id ∷ [] else []
in_scope_after One id (Some base) after rows = ids_of (filter (λ row. is_child base.name row.entry && is_before after row.entry.name) rows)
in_scope_after Sub id (Some base) after rows = ids_of (filter (λ row. is_within base.name row.entry && is_before after row.entry.name) rows)

-- so from a number
abbrev pub scoped_after : Scope → ℕ → RdnSequence → List Numbered → List ℕ
scoped_after scope id after rows = in_scope_after scope id (entry_of id rows) after rows

-- whether the number is this one
abbrev pub is_number : ℕ → Option ℕ → Bool
is_number id None = false
is_number id (Some other) = other == id

-- whether the entry of the number is the superior of the entry of the other
abbrev pub is_superior : ℕ → ℕ → List Numbered → Bool
is_superior id other rows = is_number id (superior_of other rows)
