-- What stands beside an entry, by its number.
use Rattle.std.proofs.Common.{◌≡◌, ◌∙◌, ℕ, List, Option, Some, ap}
use Rattle.dir_tree.specs.Entry.{EntryInformation}
use Rattle.dir_tree.specs.tree.Trees.{taken_out}
use Rattle.dir_tree.specs.tree.Numbered.{Numbered, IsNumberedTree, entries_of, entry_of, without}
use Rattle.dir_tree.proofs.TreeTheorems.{entries_of-without}
use Rattle.op_add_delete.specs.schema_rules.Checking.{replaced, others}
use Rattle.acdf_filters.specs.aci_item.Rules.{broken_rule}

pub broken_rule-beside :
    (rows : List Numbered) (id : ℕ) (target entry : EntryInformation) → IsNumberedTree rows → entry_of id rows ≡ Some target
    → broken_rule (replaced (Some id) rows) (others (Some id) rows) entry
    ≡ broken_rule (Some target) (taken_out target.name (entries_of rows)) entry
broken_rule-beside rows id target entry tree found =
    ap (λ (old : Option EntryInformation). broken_rule old (entries_of (without id rows)) entry) found
    ∙ ap (λ (others : List EntryInformation). broken_rule (Some target) others entry) (entries_of-without id target rows tree found)
