-- Trees that load again: the data file that is written of one gives its entries (RFC 2849).
use Rattle.std.specs.Prelude.{ℕ, ◌<◌, List}
use Rattle.std.specs.List.{AllByRecursion}
use Rattle.dir_tree.specs.Entry.{EntryInformation}
use Rattle.change_replay.specs.aci_item.Rules.{IsGoodTree}
use Rattle.data_file.specs.Loadable.{IsLoadable}

-- each is an octet
abbrev pub AreOctets : List ℕ → Type 0
AreOctets bytes = AllByRecursion (λ octet. octet < 256) bytes

-- a good tree, each of whose entries a file that is written of it gives again
pub record IsLoadableTree (entries : List EntryInformation) : Type 0 where
  pub good : IsGoodTree entries
  pub loadable : AllByRecursion IsLoadable entries
