-- What is noted of an entry: its items, its subtree specification, its passwords.
use Rattle.std.specs.Prelude.{ℕ, ◌==◌, Bool, false, not, ◌&&◌, List, [], ◌∷◌, ◌++◌, take, codes, Option, Some, None, if◌then◌else◌}
use Rattle.std.specs.List.{list_any}
use Rattle.std.specs.Str.{bytes_eq}
use Rattle.dir_tree.specs.dn_names.name.Names.{Keyed}
use Rattle.dir_tree.specs.Entry.{EntryInformation, values_of}
use Rattle.dir_tree.specs.tree.Trees.{named_in, superior_name}
use Rattle.subtree_spec.specs.Subtrees.{Subtree}
use Rattle.admin_scope.specs.InForce.{subtree_of_entry, subtree_specification}
use Rattle.admin_scope.specs.Refinements.{holds}
use Rattle.data_advice.specs.Noting.{Place, noted, numbered}
use Rattle.data_advice.specs.ItemNotes.{text_note}

abbrev pub at : EntryInformation → ℕ → ℕ → Place
at entry kind number = record { name = entry.name; kind = kind; number = number }

-- the items of a type
abbrev pub items_note : List EntryInformation → EntryInformation → ℕ → List ℕ
items_note entries entry kind =
    numbered (λ number value. text_note entries (at entry kind number) value.octets) 1 (values_of kind entry.attributes)

-- a subtree specification that holds no entry: its base is read from the administrative point above the subentry
abbrev pub held : List EntryInformation → Option EntryInformation → Subtree → Bool
held entries None subtree = false
held entries (Some point) subtree = list_any (holds subtree point.name) entries

abbrev pub subtree_note : List EntryInformation → EntryInformation → Option Subtree → List ℕ
subtree_note entries subentry None = []
subtree_note entries subentry (Some subtree) =
    if held entries (named_in (superior_name subentry.name) entries) subtree then []
    else noted (at subentry subtree_specification 1) (codes "it holds no entry; its base is read from the entry above\n")

-- a password of a scheme that is none: {SHA256} is the one of which a password is accepted
abbrev pub is_schemed : List ℕ → Bool
is_schemed [] = false
is_schemed (first ∷ rest) = first == 123

abbrev pub accepts_none : List ℕ → Bool
accepts_none octets = is_schemed octets && not (bytes_eq (take 8 octets) (codes "{SHA256}"))

abbrev pub password_note : EntryInformation → ℕ → Keyed → List ℕ
password_note entry number value =
    if accepts_none value.octets then noted (at entry 18 number) (codes "no password is accepted, whose scheme is another than {SHA256}\n") else []

-- the numbers of prescriptiveACI, entryACI and subentryACI in the table are 32, 33 and 34, that of userPassword 18
unfoldable pub entry_note : List EntryInformation → EntryInformation → List ℕ
entry_note entries entry =
    subtree_note entries entry (subtree_of_entry entry)
    ++ (items_note entries entry 32 ++ (items_note entries entry 33
    ++ (items_note entries entry 34 ++ numbered (password_note entry) 1 (values_of 18 entry.attributes))))
