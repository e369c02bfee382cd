-- What a text can say so that it is read again: a question that words ask, and the names of entries.
use Rattle.std.specs.Prelude.{◌≡◌, ℕ, List, Some}
use Rattle.std.specs.List.{AllByRecursion}
use Rattle.dir_tree.specs.dn_names.name.GoodNames.{IsGoodName}
use Rattle.dir_tree.specs.dn_names.value.Values.{of_text}
use Rattle.dir_tree.specs.Entry.{EntryInformation}
use Rattle.acdf_filters.specs.aci_item.declared.permission.Permission.{Permission}
use Rattle.acdf_filters.specs.declared.asking.Requester.{Requester}
use Rattle.acdf_filters.specs.Asking.{Protected}
use Rattle.explanation.specs.NameWords.{who_of}
use Rattle.explanation.specs.ItemWords.{item_of}
use Rattle.explanation.specs.PermissionWords.{permission_of}

-- words say who asks, on what of an entry, and for which permission
pub record AreSaid (who : Requester) (item : Protected) (permission : Permission) : Type 0 where
  pub says_who : (word : List ℕ) × (who_of word ≡ Some who)
  pub says_item : (word : List ℕ) × (of_text item_of word ≡ Some item)
  pub says_permission : (word : List ℕ) × (permission_of word ≡ Some permission)

-- the name of each entry is good
abbrev pub HaveGoodNames : List EntryInformation → Type 0
HaveGoodNames entries = AllByRecursion (λ entry. IsGoodName entry.name) entries
