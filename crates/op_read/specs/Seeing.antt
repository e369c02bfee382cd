-- What a requester sees, of the entries of a numbered tree.
use Rattle.std.specs.Prelude.{List, [], ◌∷◌, Option, Some, None}
use Rattle.std.specs.Option.{option_and_then}
use Rattle.dir_tree.specs.Entry.{EntryInformation}
use Rattle.dir_tree.specs.tree.Numbered.{Numbered, entries_of, entry_of}
use Rattle.dir_tree.specs.declared.number.EntryNo.{EntryNo}
use Rattle.dir_tree.specs.declared.scope.Scope.{Scope}
use Rattle.dir_tree.specs.declared.scope.Scope.TheVariants.{Base, One, Sub}
use Rattle.acdf_filters.specs.declared.asking.Requester.{Requester}
use Rattle.ldap_msg.specs.declared.kinds.SearchScope.{SearchScope}
use Rattle.ldap_msg.specs.declared.kinds.SearchScope.TheVariants.{BaseObject, SingleLevel, WholeSubtree}
use Rattle.page_core.specs.read_model.Views.{Row, View, row_of}

-- an entry as the requester sees it, each decision taken over the rows' entries
abbrev pub row_in : List Numbered → Requester → EntryInformation → Row
row_in rows who entry = row_of (entries_of rows) who entry

-- an entry, if there is one, as a list
abbrev pub one_or_none : {A B : Type 0} → (A → B) → Option A → List B
one_or_none view None = []
one_or_none view (Some entry) = view entry ∷ []

-- the entry of the number, if that is in use, as the requester sees it
abbrev pub rows_at : List Numbered → Requester → Option EntryNo → View
rows_at rows who number = one_or_none (row_in rows who) (option_and_then (λ no. entry_of no.0 rows) number)

-- the scope of the walk over the tree that a search is over
abbrev pub scope_of : SearchScope → Scope
scope_of BaseObject = Base
scope_of SingleLevel = One
scope_of WholeSubtree = Sub
