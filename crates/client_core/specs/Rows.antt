-- The lines that a record may have behind `do`, in the order in which they stand: a row for each operation.
use Rattle.std.specs.Prelude.{ℕ, Bool, true, false, ◌||◌, List, [], ◌∷◌, codes}
use Rattle.std.specs.Str.{bytes_eq}
use Rattle.client_core.specs.declared.words.Word.{Word}
use Rattle.client_core.specs.declared.words.Word.TheVariants as word
use Rattle.client_core.specs.declared.rows.Cell.{Cell}
use Rattle.client_core.specs.declared.rows.Cell.TheVariants.{Password, Scope, Limit, Only, Subentries, Filter, Select, Attribute, Change, ChangeOrValue, NewRdn, Keep, NewSuperior}
use Rattle.client_core.specs.declared.rows.Count.{Count}
use Rattle.client_core.specs.declared.rows.Count.TheVariants.{Optional, Needed, Repeated}
use Rattle.client_core.specs.declared.rows.Slot.{Slot}

-- a place of a row
abbrev pub slot : Cell → Count → Slot
slot cell count = record { cell = cell; count = count }

-- one line has to stand there
abbrev pub is_needed : Count → Bool
is_needed Optional = false
is_needed Needed = true
is_needed Repeated = false

-- any number of lines may stand there
abbrev pub is_repeated : Count → Bool
is_repeated Optional = false
is_repeated Needed = false
is_repeated Repeated = true

-- the row of each operation
abbrev pub row_of : Word → List Slot
row_of word.Bind = slot Password Optional ∷ []
row_of word.Search =
    slot Scope Optional ∷ slot Limit Optional ∷ slot Only Optional ∷ slot Subentries Optional ∷ slot Filter Optional
    ∷ slot Select Repeated ∷ []
row_of word.Compare = slot Attribute Needed ∷ []
row_of word.Add = slot Attribute Needed ∷ slot Attribute Repeated ∷ []
row_of word.Modify = slot Change Needed ∷ slot ChangeOrValue Repeated ∷ []
row_of word.Rename = slot NewRdn Needed ∷ slot Keep Optional ∷ slot NewSuperior Optional ∷ []
row_of word.Delete = []
row_of word.WhoAmI = []
row_of word.Unbind = []

-- the type of a change: `add`, `delete` or `replace` (RFC 4511 4.6)
abbrev pub is_change : List ℕ → Bool
is_change kind = bytes_eq kind (codes "add") || bytes_eq kind (codes "delete") || bytes_eq kind (codes "replace")

-- the type of a value of the change before
abbrev pub is_value : List ℕ → Bool
is_value kind = bytes_eq kind (codes "value")

-- a line of the type may stand in the cell; types are compared octet by octet
abbrev pub is_of : Cell → List ℕ → Bool
is_of Password kind = bytes_eq kind (codes "password")
is_of Scope kind = bytes_eq kind (codes "scope")
is_of Limit kind = bytes_eq kind (codes "limit")
is_of Only kind = bytes_eq kind (codes "only")
is_of Subentries kind = bytes_eq kind (codes "subentries")
is_of Filter kind = bytes_eq kind (codes "filter")
is_of Select kind = bytes_eq kind (codes "select")
is_of Attribute kind = true
is_of Change kind = is_change kind
is_of ChangeOrValue kind = is_value kind || is_change kind
is_of NewRdn kind = bytes_eq kind (codes "newrdn")
is_of Keep kind = bytes_eq kind (codes "keep")
is_of NewSuperior kind = bytes_eq kind (codes "newsuperior")
