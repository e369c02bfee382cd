-- What is noted of an access control item: the names in it that no entry has, and the subtrees of users that hold no entry.
use Rattle.std.specs.Prelude.{ℕ, List, [], ◌∷◌, ◌++◌, map, flat_map, codes, Option, Some, None, if◌then◌else◌}
use Rattle.std.specs.List.{list_any}
use Rattle.dir_tree.specs.dn_names.name.Names.{RdnSequence}
use Rattle.dir_tree.specs.dn_names.Printing.{print_name}
use Rattle.dir_tree.specs.Entry.{EntryInformation}
use Rattle.dir_tree.specs.tree.Trees.{has_name}
use Rattle.subtree_spec.specs.Subtrees.{Subtree}
use Rattle.subtree_spec.specs.membership.Membership.{holds_name}
use Rattle.aci_item.specs.item.Items.{UserClasses, First, ItemFirst, UserFirst, Item}
use Rattle.aci_item.specs.AciText.{item_of}
use Rattle.data_advice.specs.Noting.{Place, noted}

-- a user or a group whose name no entry has
abbrev pub name_note : List EntryInformation → Place → RdnSequence → List ℕ
name_note entries place name = if has_name name entries then [] else noted place (codes "no entry " ++ (print_name name ++ codes "\n"))

-- a subtree of users that holds no entry: its base is read from the root
abbrev pub subtree_note : List EntryInformation → Place → Subtree → List ℕ
subtree_note entries place subtree =
    if list_any (λ entry. holds_name subtree entry.name) entries then []
    else noted place (codes "a subtree of users has no entry, of base \"" ++ (print_name subtree.base ++ codes "\"\n"))

-- the users of an item
abbrev pub classes_note : List EntryInformation → Place → UserClasses → List ℕ
classes_note entries place classes =
    flat_map (name_note entries place) classes.names
    ++ (flat_map (name_note entries place) classes.groups ++ flat_map (subtree_note entries place) classes.subtrees)

abbrev pub classes_in : First → List UserClasses
classes_in (ItemFirst items permissions) = map (λ permission. permission.classes) permissions
classes_in (UserFirst classes permissions) = classes ∷ []

-- an item
abbrev pub item_note : List EntryInformation → Place → Option Item → List ℕ
item_note entries place None = []
item_note entries place (Some item) = flat_map (classes_note entries place) (classes_in item.first)

-- the item of a text
unfoldable pub text_note : List EntryInformation → Place → List ℕ → List ℕ
text_note entries place text = item_note entries place (item_of text)
