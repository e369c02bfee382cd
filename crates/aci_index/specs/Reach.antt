-- Whose lists are made anew where a write may change those of other entries (X.501 14.3 and 18.3).
use Rattle.std.specs.Prelude.{◌≡◌, ◌<◌, ◌==◌, ◌++◌, ℕ, List, [], map, fold, Some, unwrap_or, slice_set, if◌then◌else◌}
use Rattle.std.specs.List.{AllByRecursion}
use Rattle.dir_tree.specs.Entry.{EntryInformation}
use Rattle.dir_tree.specs.tree.Numbered.{Numbered, entry_of, superior_of}
use Rattle.dir_tree.specs.Scope.{scoped}
use Rattle.dir_tree.specs.declared.scope.Scope.TheVariants.{Sub}
use Rattle.acdf_filters.specs.admin_scope.Finding.{AreSubtrees}
use Rattle.aci_lists.specs.declared.kept.Kept.{Kept}
use Rattle.aci_lists.specs.declared.kept.Holdings.{Holdings}
use Rattle.aci_lists.specs.kept.Lists.{AreOf, lists_of}
use Rattle.aci_index.specs.Steps.{are_ordinary}
use Rattle.aci_index.specs.declared.anew.Reach.{Reach}
use Rattle.aci_index.specs.declared.anew.Reach.TheVariants.{Below, Around}
use Rattle.aci_index.specs.declared.anew.Remade.{Remade}
use Rattle.aci_index.specs.declared.anew.Anew.{Anew}

-- what an entry reaches that takes another's place: more where one of the two is an access control subentry
abbrev pub reach_of : EntryInformation → EntryInformation → Reach
reach_of old one = if are_ordinary old one then Below else Around

-- the entry of the number, or its superior, if it has one, where those around it are reached
abbrev pub top_of : Reach → ℕ → List Numbered → ℕ
top_of Below id rows = id
top_of Around id rows = unwrap_or (superior_of id rows) id

-- the numbers of the entries at and below a top that is the top no more
abbrev pub left_behind : ℕ → ℕ → List Numbered → List ℕ
left_behind from to rows = if from == to then [] else scoped Sub from rows

-- the numbers of the entries that are reached: at and below the top before the write, and at and below the one after it
abbrev pub reached : ℕ → ℕ → List Numbered → List ℕ
reached from to rows = left_behind from to rows ++ scoped Sub to rows

-- all numbers of the entries have one of so many places
abbrev pub AreBelow : ℕ → List Numbered → Type 0
AreBelow bound rows = AllByRecursion (λ row. row.id < bound) rows

-- the lists that were made of a number are those of its entry
abbrev pub IsRemade : List Numbered → Remade → Type 0
IsRemade rows one =
    (entry : EntryInformation) → entry_of one.number.0 rows ≡ Some entry → AreOf rows entry (lists_of one.lists)

-- the numbers of which lists were made
abbrev pub numbers_of : List Remade → List ℕ
numbers_of list = map (λ one. one.number.0) list

-- the subtrees are those of the entries, and the lists those of the entries that are reached
pub record IsAnew (from to : ℕ) (anew : Anew) (rows : List Numbered) : Type 0 where
  pub subtrees : AreSubtrees anew.subtrees.items rows
  pub numbers : numbers_of anew.lists.items ≡ reached from to rows
  pub lists : AllByRecursion (IsRemade rows) anew.lists.items

-- each number has one of so many places
abbrev pub HaveRoom : List Remade → ℕ → Type 0
HaveRoom list len = AllByRecursion (λ one. one.number.0 < len) list

-- the lists of a number put in place of those that it has
abbrev pub put_one : List Kept → Remade → List Kept
put_one kept one = slice_set kept one.number.0 one.lists

-- the subtrees are those that were made, and the lists with those that were made put in their places
pub record IsPut (anew : Anew) (old new : Holdings) : Type 0 where
  pub subtrees : new.subtrees.items ≡ anew.subtrees.items
  pub lists : new.lists.items ≡ fold put_one old.lists.items anew.lists.items
