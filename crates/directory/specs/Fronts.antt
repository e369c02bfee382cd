-- The nearest entry above a name as a program finds it, front by front.
use Rattle.std.specs.Prelude.{◌≡◌, ℕ, ◌≤◌, Bool, true, false, List, length, Option, Some, None, if◌then◌else◌}
use Rattle.std.specs.List.{AllByRecursion}
use Rattle.dir_tree.specs.dn_names.name.Names.{RdnSequence}
use Rattle.dir_tree.specs.Entry.{EntryInformation}
use Rattle.dir_tree.specs.tree.Trees.{is_below}

-- the entry, if it passes the test
abbrev pub where_passes : {A : Type 0} → (A → Bool) → Option A → Option A
where_passes test None = None
where_passes test (Some x) = if test x then Some x else None

-- no entry above the name passes the test that has at least so many RDNs
abbrev pub NonePasses : (EntryInformation → Bool) → ℕ → RdnSequence → List EntryInformation → Type 0
NonePasses test len name entries =
    AllByRecursion (λ entry. is_below entry.name name ≡ true → len ≤ length entry.name → test entry ≡ false) entries
