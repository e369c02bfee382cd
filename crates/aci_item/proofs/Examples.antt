-- The definitions on known cases.
use Rattle.std.proofs.Common.{◌≡◌, ℕ, [], ◌∷◌, true, false, refl}
use Rattle.std.specs.Prelude.{codes, Some, None}
use Rattle.dir_tree.specs.schema_tables.Attributes.{attributes}
use Rattle.dir_tree.specs.schema_tables.Oids.{is_dotted_oid}
use Rattle.gser_tree.specs.looking.Shapes.{Word}
use Rattle.gser_tree.specs.Writing.{text_of}
use Rattle.subtree_spec.specs.Parts.{oid}
use Rattle.aci_item.specs.declared.level.Level.TheVariants.{Simple}
use Rattle.aci_item.specs.declared.permission.Permission.{Permission}
use Rattle.aci_item.specs.declared.permission.Permission.TheVariants as permission
use Rattle.aci_item.specs.Permission.{Bit, bits_of, in_order}
use Rattle.aci_item.specs.item.Items.{UserClasses, ProtectedItems, First, Item, ItemFirst}
use Rattle.aci_item.specs.members.Limits.{have_same_syntax, kind_alike}
use Rattle.aci_item.specs.AciTuples.{tuples_of_item}
use Rattle.aci_item.specs.ItemPrinted.{bit_name, print_classes, print_items, print_item_permission, print_first}

granted : Permission → Bit
granted permission = record { permission = permission; grants = true }

denied : Permission → Bit
denied permission = record { permission = permission; grants = false }

-- bit 0 grants Add, bit 1 denies it, bit 25 denies Invoke
some_bits : bits_of 33554434 ≡ denied permission.Add ∷ denied permission.Invoke ∷ []
unfolding denied
some_bits = refl

-- in rising order, each once
ordered_bits : in_order (granted permission.Read ∷ denied permission.Add ∷ granted permission.Read ∷ []) ≡ denied permission.Add ∷ granted permission.Read ∷ []
unfolding granted denied
ordered_bits = refl

a_bit_name : bit_name (denied permission.ReturnDn) ≡ codes "denyReturnDN"
unfolding denied
a_bit_name = refl

everyone : UserClasses
everyone = record { all = true; this_entry = false; names = []; groups = []; subtrees = [] }

entries : ProtectedItems
entries = record { entry = true; all_kinds = false; kinds = []; all_values = []; all_kinds_and_values = false; values = []; self_values = []; max_counts = []; restricted = [] }

-- reading is granted and adding denied, above the item's own precedence
an_item : Item
an_item = record {
  tag = codes "t";
  precedence = 10;
  level = Simple;
  first = ItemFirst entries (
      record { precedence = Some 20; classes = everyone; bits = denied permission.Add ∷ granted permission.Read ∷ [] }
      ∷ record { precedence = None; classes = everyone; bits = denied permission.Read ∷ [] } ∷ []);
}

-- the grants of a permission come first; a tuple without permissions is none
its_tuples : tuples_of_item an_item ≡
    record { classes = everyone; level = Simple; items = entries; permissions = permission.Read ∷ []; grants = true; precedence = 20 }
    ∷ record { classes = everyone; level = Simple; items = entries; permissions = permission.Add ∷ []; grants = false; precedence = 20 }
    ∷ record { classes = everyone; level = Simple; items = entries; permissions = permission.Read ∷ []; grants = false; precedence = 10 } ∷ []
unfolding tuples_of_item an_item granted denied
its_tuples = refl

an_item_without_numbers : First
an_item_without_numbers = ItemFirst entries (record { precedence = None; classes = everyone; bits = denied permission.Read ∷ [] } ∷ [])

its_text : text_of (print_first an_item_without_numbers) ≡ codes "itemFirst:{ protectedItems { entry NULL }, itemPermissions { { userClasses { allUsers NULL }, grantsAndDenials { denyRead } } } }"
unfolding an_item_without_numbers everyone entries denied print_first print_items print_classes print_item_permission
its_text = refl

-- surnames are of the syntax of common names, telephone numbers are not
same_syntax : have_same_syntax 1 2 ≡ true
unfolding attributes
same_syntax = refl

other_syntax : have_same_syntax 1 13 ≡ false
unfolding attributes
other_syntax = refl

-- values are among those of a type of the same syntax, else the second name is the bad part
a_restriction : (places : ℕ) → kind_alike 1 (Word (record { text = codes "sn"; place = places })) None ≡ Some (record { value = 2; bad = None })
unfolding attributes kind_alike oid is_dotted_oid
a_restriction places = refl

a_bad_restriction : (places : ℕ) → kind_alike 1 (Word (record { text = codes "telephoneNumber"; place = places })) None ≡ Some (record { value = 0; bad = Some places })
unfolding attributes kind_alike oid is_dotted_oid
a_bad_restriction places = refl

limited : ProtectedItems
limited = record entries { restricted = record { kind = 15; values_in = 14 } ∷ [] }

its_limits : text_of (print_items limited) ≡ codes "{ entry NULL, restrictedBy { { type owner, valuesIn member } } }"
unfolding limited entries print_items attributes
its_limits = refl
