-- What checking an entry takes, and what it answers.
use Rattle.std.specs.Prelude.{◌≡◌, ℕ, List, Option, Some, None}
use Rattle.dir_tree.specs.plain_values.Answers.{IsRefusalOf}
use Rattle.dir_tree.specs.Entry.{EntryInformation}
use Rattle.dir_tree.specs.tree.Trees.{superior_name}
use Rattle.dir_tree.specs.tree.Numbered.{Numbered, entries_of, entry_of, find_name, without}
use Rattle.aci_item.specs.declared.entry_rule.EntryRule.{EntryRule}
use Rattle.schema_rules.specs.declared.broken.Broken.{Broken}
use Rattle.schema_rules.specs.declared.broken.Broken.TheVariants.{Rule, NoMemory}

-- the number is that of the superior of the entry; none, where the tree has no entry of that name
abbrev pub IsSuperior : Option ℕ → EntryInformation → List Numbered → Type 0
IsSuperior number entry rows = number ≡ find_name (superior_name entry.name) rows

-- the entry whose place the number says is taken; none for a new entry
abbrev pub replaced : Option ℕ → List Numbered → Option EntryInformation
replaced None rows = None
replaced (Some id) rows = entry_of id rows

-- the entries beside it
abbrev pub others : Option ℕ → List Numbered → List EntryInformation
others None rows = entries_of rows
others (Some id) rows = entries_of (without id rows)

-- the cause of a refusal, the rule that is broken; want of memory has none
abbrev pub rule_of : Broken → Option EntryRule
rule_of (Rule rule) = Some rule
rule_of NoMemory = None

-- the refusal is for the rule that is broken, or for want of memory
abbrev pub IsFor : Broken → Option EntryRule → Type 0
IsFor broken expected = IsRefusalOf (rule_of broken) expected
