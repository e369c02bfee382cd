-- The groups of tuples are those of the items of which they are.
use Rattle.std.proofs.Common.{◌≡◌, ℕ, Bool, false, ◌||◌, List, [], ◌∷◌, ◌++◌, Option, Some, None, refl, sym, ◌∙◌}
use Rattle.std.specs.Prelude.{flat_map}
use Rattle.std.specs.List.{AllByRecursion, list_any, filter_map}
use Rattle.std.specs.Option.{option_map, option_map_or}
use Rattle.std.proofs.lemmas.Bool.{or_parts, or_from}
use Rattle.std.proofs.lemmas.List.Folds.{list_any-append}
use Rattle.dir_tree.proofs.base_laws_proofs.Theorems.{all_filter}
use Rattle.dir_tree.specs.dn_names.name.Names.{Keyed, RdnSequence}
use Rattle.dir_tree.specs.dn_names.NameOrder.{is_prefix_of}
use Rattle.dir_tree.specs.Entry.{EntryInformation, values_of}
use Rattle.acdf_filters.specs.aci_item.declared.level.Level.{Level}
use Rattle.acdf_filters.specs.aci_item.item.Items.{ItemPermission, UserPermission, First, ItemFirst, UserFirst, Item}
use Rattle.acdf_filters.specs.aci_item.AciText.{item_of}
use Rattle.acdf_filters.specs.aci_item.Permission.{has_some}
use Rattle.acdf_filters.specs.aci_item.AciTuples.{AciTuple, split_first, tuples_of_item}
use Rattle.acdf_filters.specs.Tuples.{Listed, tagged, prescriptive_aci, entry_aci, subentry_aci, items_in, listed_by}
use Rattle.acdf_filters.specs.Unseen as tuples
use Rattle.twin_laws.specs.Groups.{groups_of, names_group, names_group_in, lists_group}

-- a tuple names no group at or below the name
abbrev NamesNone : RdnSequence → AciTuple → Type 0
NamesNone top tuple = list_any (is_prefix_of top) tuple.classes.groups ≡ false

both_parts : {A : Type 0} (p : A → Bool) (xs ys : List A) → list_any p (xs ++ ys) ≡ false
    → (list_any p xs ≡ false) × (list_any p ys ≡ false)
both_parts p xs ys e = or_parts (list_any p xs) (list_any p ys) (sym (list_any-append p xs ys) ∙ e)

-- those of an item have its groups
split_none : (top : RdnSequence) (level : Level) (precedence : ℕ) (first : First)
    → list_any (is_prefix_of top) (groups_of first) ≡ false
    → AllByRecursion (NamesNone top) (split_first level precedence first)
split_none top level precedence (ItemFirst items permissions) e = of_permissions permissions e
  where
    of_permissions : (permissions : List ItemPermission)
        → list_any (is_prefix_of top) (groups_of (ItemFirst items permissions)) ≡ false
        → AllByRecursion (NamesNone top) (split_first level precedence (ItemFirst items permissions))
    of_permissions [] e = tt
    of_permissions (permission ∷ permissions) e =
        let parts = both_parts (is_prefix_of top) permission.classes.groups (groups_of (ItemFirst items permissions)) e in
        (parts.0, (parts.0, of_permissions permissions parts.1))
split_none top level precedence (UserFirst classes permissions) e = of_permissions permissions
  where
    of_permissions : (permissions : List UserPermission)
        → AllByRecursion (NamesNone top) (split_first level precedence (UserFirst classes permissions))
    of_permissions [] = tt
    of_permissions (permission ∷ permissions) = (e, (e, of_permissions permissions))

-- and so have they where the item is listed
item_none : (top source : RdnSequence) (item : Item) → list_any (is_prefix_of top) (groups_of item.first) ≡ false
    → list_any (tuples.names_group top) (listed_by source (tagged item)) ≡ false
unfolding tuples_of_item
item_none top source item e =
    of_tuples (tuples_of_item item)
    (all_filter (NamesNone top) (λ tuple. has_some tuple.permissions) (split_first item.level item.precedence item.first)
    (split_none top item.level item.precedence item.first e))
  where
    of_tuples : (xs : List AciTuple) → AllByRecursion (NamesNone top) xs
        → list_any (tuples.names_group top) (listed_by source (record { tag = item.tag; tuples = xs })) ≡ false
    of_tuples [] h = refl
    of_tuples (x ∷ xs) h = or_from _ _ h.0 (of_tuples xs h.1)

-- the tuples of values
abbrev listed_of : RdnSequence → List Keyed → List Listed
listed_of source values = flat_map (listed_by source) (filter_map (λ value. option_map tagged (item_of value.octets)) values)

-- where their items name no group at or below the name
listed_none : (top source : RdnSequence) (values : List Keyed) → list_any (names_group top) values ≡ false
    → list_any (tuples.names_group top) (listed_of source values) ≡ false
listed_none top source [] e = refl
listed_none top source (value ∷ values) e =
    let parts = or_parts (names_group top value) (list_any (names_group top) values) e in
    by (item_of value.octets) refl parts.0 (listed_none top source values parts.1)
  where
    by : (found : Option Item) → item_of value.octets ≡ found
        → option_map_or (λ item. list_any (is_prefix_of top) (groups_of item.first)) found false ≡ false
        → list_any (tuples.names_group top) (listed_of source values) ≡ false
        → list_any (tuples.names_group top) (listed_of source (value ∷ values)) ≡ false
    by None is none rest = rw is rest
    by (Some item) is none rest =
        let both = list_any-append (tuples.names_group top) (listed_by source (tagged item)) (listed_of source values) in
        rw is (both ∙ or_from _ _ (item_none top source item none) rest)

names_group_in-none : (top : RdnSequence) (kind : ℕ) (entry : EntryInformation) → names_group_in top kind entry ≡ false
    → tuples.names_group_in top kind entry ≡ false
unfolding items_in
names_group_in-none top kind entry e = listed_none top entry.name (values_of kind entry.attributes) e

-- so the tuples of an entry whose items name none
pub lists_group-none : (top : RdnSequence) (entry : EntryInformation) → lists_group top entry ≡ false
    → tuples.has_group top entry ≡ false
lists_group-none top entry e =
    let parts =
    or_parts (names_group_in top prescriptive_aci entry)
    (names_group_in top entry_aci entry || names_group_in top subentry_aci entry) e in
    let others = or_parts (names_group_in top entry_aci entry) (names_group_in top subentry_aci entry) parts.1 in
    or_from _ _ (names_group_in-none top prescriptive_aci entry parts.0)
    (or_from _ _ (names_group_in-none top entry_aci entry others.0) (names_group_in-none top subentry_aci entry others.1))
