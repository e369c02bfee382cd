-- What a directory keeps beside its tree.
use Rattle.std.specs.Prelude.{◌≡◌, ◌≢◌, ◌==◌, ℕ, not, List, filter}
use Rattle.dir_tree.specs.tree.Numbered.{Numbered}
use Rattle.acdf_filters.specs.admin_scope.Finding.{AreSubtrees}
use Rattle.acdf_filters.specs.admin_scope.declared.subtrees.AccessSubentry.{AccessSubentry}
use Rattle.aci_lists.specs.declared.kept.Holdings.{Holdings}
use Rattle.aci_lists.specs.kept.Lists.{Lists, lists_at, no_lists, IsKept}

-- the subtrees and the lists are those of the entries; the groups may be any
pub record IsHeld (held : Holdings) (rows : List Numbered) : Type 0 where
  pub subtrees : AreSubtrees held.subtrees.items rows
  pub lists : IsKept held.lists.items rows

-- the number is not among the subentries in force
abbrev pub without_number : ℕ → Lists → Lists
without_number number lists = record lists { in_force = filter (λ id. not (id == number)) lists.in_force }

-- the subentries of other numbers
abbrev pub without_subentry : ℕ → List AccessSubentry → List AccessSubentry
without_subentry number list = filter (λ one. not (one.number.0 == number)) list

-- nothing is kept of the number, and it is in no list of another
pub record IsForgotten (number : ℕ) (old new : Holdings) : Type 0 where
  pub subtrees : new.subtrees.items ≡ without_subentry number old.subtrees.items
  pub lists : (id : ℕ) → id ≢ number → lists_at new.lists.items id ≡ without_number number (lists_at old.lists.items id)
  pub gone : lists_at new.lists.items number ≡ no_lists
