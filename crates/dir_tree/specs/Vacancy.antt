-- Where an entry may be put in (X.501 9.4): a name that is not refused, and the entry that is its superior.
use Rattle.std.specs.Prelude.{◌≡◌, ℕ, List, Option, None}
use Rattle.dn_names.specs.name.Names.{RdnSequence}
use Rattle.dir_tree.specs.tree.Trees.{superior_name}
use Rattle.dir_tree.specs.tree.Numbered.{Numbered, entries_of, find_name}
use Rattle.dir_tree.specs.Refusals.{insert_refusal}

-- an entry of the name is not refused, and the number is that of its superior: none, where the tree is empty
pub record IsVacancy (superior : Option ℕ) (name : RdnSequence) (rows : List Numbered) : Type 0 where
  pub free : insert_refusal name (entries_of rows) ≡ None
  pub under : superior ≡ find_name (superior_name name) rows
