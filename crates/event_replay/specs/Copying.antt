-- Where an entry stands that is put behind all others.
use Rattle.std.specs.Prelude.{◌≡◌, List}
use Rattle.std.specs.List.{AllByRecursion}
use Rattle.std.specs.declared.cmp.Ordering.TheVariants.{Less}
use Rattle.dir_tree.specs.dn_names.NameOrder.{name_cmp}
use Rattle.dir_tree.specs.Entry.{EntryInformation}

-- each of the entries comes before it
abbrev pub IsLast : EntryInformation → List EntryInformation → Type 0
IsLast entry entries = AllByRecursion (λ earlier. name_cmp earlier.name entry.name ≡ Less) entries
