-- What a directory keeps beside its tree.
use Rattle.std.specs.Prelude.{List}
use Rattle.dir_tree.specs.tree.Numbered.{Numbered}
use Rattle.value_index.specs.declared.index.Posting.{Posting}
use Rattle.value_index.specs.Postings.{IsIndexed}
use Rattle.aci_lists.specs.declared.kept.Holdings.{Holdings}
use Rattle.aci_lists.specs.kept.Holdings.{IsHeld}

-- what decisions need is kept of the entries, and each of them is posted under its values
pub record AreKept (holdings : Holdings) (postings : List Posting) (rows : List Numbered) : Type 0 where
  pub held : IsHeld holdings rows
  pub indexed : IsIndexed postings rows
