-- Leaving out a subtree that is apart changes no decision on an entry outside it.
use Rattle.std.proofs.Common.{◌≡◌, inl, inr, ℕ, Bool, true, false, not, ◌&&◌, ◌||◌, List, [], ◌∷◌, ◌++◌, Option, Some, None, refl, sym, ap, subst, ◌∙◌, map, filter, find, take, drop, length, ◌-◌}
use Rattle.std.specs.Prelude.{flat_map, cond}
use Rattle.std.specs.List.{AllByRecursion, list_any}
use Rattle.std.specs.Option.{option_map_or}
use Rattle.std.proofs.lemmas.Bool.{cases_Bool, both_ways, or_parts, false_from_ne_true, not-false}
use Rattle.std.proofs.lemmas.List.{take-append-drop, map-append}
use Rattle.dir_tree.proofs.base_laws_proofs.Theorems.{all_map, all_append, all_filter, none_passes, map-agree, find-filter}
use Rattle.dir_tree.specs.dn_names.name.Names.{Keyed, RdnSequence}
use Rattle.dir_tree.specs.dn_names.NameOrder.{is_same, is_prefix_of, types_and_keys, type_and_key}
use Rattle.dir_tree.proofs.dn_names_proofs.Theorems.{is_prefix_of-types_and_keys}
use Rattle.dir_tree.specs.Entry.{EntryInformation}
use Rattle.dir_tree.specs.tree.Trees.{is_named, named_in, superior_name}
use Rattle.dir_tree.specs.Points.{is_subentry, is_access_subentry}
use Rattle.dir_tree.specs.Scope.{is_within}
use Rattle.dir_tree.proofs.TreeTheorems.{prefix_like}
use Rattle.admin_scope.specs.Areas.{areas, without_subtree, has_within}
use Rattle.admin_scope.specs.InForce.{reaches, in_force_at, in_force}
use Rattle.admin_scope.proofs.Theorems.{prefix_chain, in_force-without}
use Rattle.aci_item.specs.item.Items.{UserClasses}
use Rattle.aci_item.specs.declared.permission.Permission.{Permission}
use Rattle.aci_item.specs.declared.permission.Permission.TheVariants.{Add}
use Rattle.acdf_filters.specs.declared.asking.Requester.{Requester}
use Rattle.acdf_filters.specs.Asking.{Protected, Value, asked_on}
use Rattle.acdf_filters.specs.Tuples.{Listed, prescriptive_aci, entry_aci, subentry_aci, listed_in, inherited, tuples_of, tuples_new}
use Rattle.acdf_filters.specs.users.Users.{has_member, is_in_group, is_in_groups, ranks_of, rank_where, is_held}
use Rattle.acdf_filters.specs.Filters.{Placed, decided}
use Rattle.acdf_filters.specs.Granted.{placed, placed_of, placed_new, granted, granted_after, granted_new}
use Rattle.acdf_filters.specs.Unseen.{names_group, names_group_in, has_group, IsApart}
use Rattle.acdf_filters.proofs.laws.ListLemmas.{all_flat_map, all_flat_map_of, list_any-agree}

-- no entry of the subtree has a name outside it
pub apart : (top name : RdnSequence) → is_prefix_of top name ≡ false → (entry : EntryInformation) → not (is_within top entry) ≡ false → is_named name entry ≡ false
apart top name outside entry e =
    false_from_ne_true (is_named name entry) (λ f. both_ways (is_prefix_of top name) outside (prefix_like top name entry.name (not-false (is_within top entry) e) f))

pub named-without : (top name : RdnSequence) (entries : List EntryInformation) → is_prefix_of top name ≡ false → named_in name (without_subtree top entries) ≡ named_in name entries
named-without top name entries outside = find-filter (is_named name) (λ entry. not (is_within top entry)) (apart top name outside) entries

-- a front of a name is a prefix of it
front_prefix : (n : ℕ) (name : RdnSequence) → is_prefix_of (take n name) name ≡ true
front_prefix n name =
    (is_prefix_of-types_and_keys (take n name) name).1
    (types_and_keys (drop n name), ap types_and_keys (sym (take-append-drop n name)) ∙ map-append (map type_and_key) (take n name) (drop n name))

-- the superior of an entry outside is outside
superior_outside : (top name : RdnSequence) → is_prefix_of top name ≡ false → is_prefix_of top (superior_name name) ≡ false
superior_outside top name outside =
    false_from_ne_true (is_prefix_of top (superior_name name)) (λ e. both_ways (is_prefix_of top name) outside (prefix_chain top (superior_name name) name e (front_prefix (length name - 1) name)))

-- what an entry has from others stays
inherited-without : (top : RdnSequence) (entries : List EntryInformation) (entry : EntryInformation) → has_within is_access_subentry top entries ≡ false → is_within top entry ≡ false
    → inherited (without_subtree top entries) entry ≡ inherited entries entry
unfolding inherited
inherited-without top entries entry none outside =
    ap (λ (found : Option EntryInformation). cond (is_subentry entry) (option_map_or (listed_in subentry_aci) found []) (flat_map (listed_in prescriptive_aci) (in_force (without_subtree top entries) entry)))
    (named-without top (superior_name entry.name) entries (superior_outside top entry.name outside))
    ∙ ap (λ (found : List EntryInformation). cond (is_subentry entry) (option_map_or (listed_in subentry_aci) (named_in (superior_name entry.name) entries) []) (flat_map (listed_in prescriptive_aci) found))
    (in_force-without top entries entry outside none)

-- groups that are outside have their members
is_in_groups-without : (top : RdnSequence) (entries : List EntryInformation) (name : RdnSequence) (groups : List RdnSequence) → list_any (is_prefix_of top) groups ≡ false
    → is_in_groups (without_subtree top entries) name groups ≡ is_in_groups entries name groups
unfolding is_in_group
is_in_groups-without top entries name groups e =
    list_any-agree (is_in_group (without_subtree top entries) name) (is_in_group entries name) groups
    (all_map (λ group. is_prefix_of top group ≡ false) (λ group. is_in_group (without_subtree top entries) name group ≡ is_in_group entries name group)
    (λ group outside. ap (λ found. option_map_or (has_member name) found false) (named-without top group entries outside))
    groups (none_passes (is_prefix_of top) groups e))

-- so a requester is in the same classes
ranks_of-without : (top : RdnSequence) (entries : List EntryInformation) (entry : EntryInformation) (classes : UserClasses) (name : Option RdnSequence) → list_any (is_prefix_of top) classes.groups ≡ false
    → ranks_of (without_subtree top entries) entry classes name ≡ ranks_of entries entry classes name
unfolding ranks_of
ranks_of-without top entries entry classes None e = refl
ranks_of-without top entries entry classes (Some name) e =
    ap (λ b. rank_where 0 ((classes.this_entry && is_same name entry.name) || list_any (is_same name) classes.names) ++ rank_where 1 b ++ rank_where 2 (is_held name classes.subtrees) ++ rank_where 3 classes.all)
    (is_in_groups-without top entries name classes.groups e)

abbrev at_ranks : Listed → List ℕ → Placed
at_ranks x ranks = record { listed = x; ranks = ranks }

abbrev placed_as : List EntryInformation → EntryInformation → Option RdnSequence → Listed → Placed
placed_as entries entry name x = at_ranks x (ranks_of entries entry x.tuple.classes name)

placed-without : (top : RdnSequence) (entries : List EntryInformation) (entry : EntryInformation) (name : Option RdnSequence) (xs : List Listed) → AllByRecursion (λ x. names_group top x ≡ false) xs
    → placed (without_subtree top entries) entry name xs ≡ placed entries entry name xs
placed-without top entries entry name xs h =
    map-agree (placed_as (without_subtree top entries) entry name) (placed_as entries entry name) xs
    (all_map (λ x. names_group top x ≡ false) (λ x. placed_as (without_subtree top entries) entry name x ≡ placed_as entries entry name x)
    (λ x e. ap (at_ranks x) (ranks_of-without top entries entry x.tuple.classes name e)) xs h)

-- what is left of entries names no group of the subtree
all_outside : (q g : EntryInformation → Bool) (entries : List EntryInformation) → list_any (λ e. q e && g e) entries ≡ false → AllByRecursion (λ e. g e ≡ false) (filter q entries)
all_outside q g [] h = tt
all_outside q g (x ∷ xs) h =
    let parts = or_parts (q x && g x) (list_any (λ e. q e && g e) xs) h in
    elim (cases_Bool (q x)) [
      | inl e ↦ rw e (second (q x) (g x) e parts.0, all_outside q g xs parts.1)
      | inr e ↦ rw e (all_outside q g xs parts.1)
    ]
  where
    second : (a b : Bool) → a ≡ true → (a && b) ≡ false → b ≡ false
    second true b e f = f
    second false b e f = absurd cc

-- subentries in force are among the entries
all_in_force : (P : EntryInformation → Type 0) (entries : List EntryInformation) (entry : EntryInformation) → AllByRecursion P entries → AllByRecursion P (in_force entries entry)
unfolding in_force
all_in_force P entries entry h = elim (cases_Bool (is_subentry entry)) [
  | inl e ↦ rw e tt
  | inr e ↦ rw e (all_flat_map P (λ point. in_force_at entry point entries) (λ point. all_filter P (λ subentry. reaches point subentry entry) entries h) (areas entries entry))
]

-- and so is what is found
all_found : {B : Type 0} (P : EntryInformation → Type 0) (Q : B → Type 0) (f : EntryInformation → List B) (p : EntryInformation → Bool) → ((e : EntryInformation) → P e → AllByRecursion Q (f e))
    → (entries : List EntryInformation) → AllByRecursion P entries → AllByRecursion Q (option_map_or f (find p entries) [])
all_found P Q f p h [] k = tt
all_found P Q f p h (x ∷ xs) k = elim (cases_Bool (p x)) [
  | inl e ↦ rw e (h x k.0)
  | inr e ↦ rw e (all_found P Q f p h xs k.1)
]

-- the tuples of an entry outside name no group of the subtree
abbrev NamesNone : RdnSequence → List Listed → Type 0
NamesNone top xs = AllByRecursion (λ x. names_group top x ≡ false) xs

prescriptive_none : (top : RdnSequence) (e : EntryInformation) → has_group top e ≡ false → NamesNone top (listed_in prescriptive_aci e)
prescriptive_none top e h =
    let parts = or_parts (names_group_in top prescriptive_aci e) (names_group_in top entry_aci e || names_group_in top subentry_aci e) h in
    none_passes (names_group top) (listed_in prescriptive_aci e) parts.0

own_none : (top : RdnSequence) (e : EntryInformation) → has_group top e ≡ false → NamesNone top (listed_in entry_aci e)
own_none top e h =
    let parts = or_parts (names_group_in top prescriptive_aci e) (names_group_in top entry_aci e || names_group_in top subentry_aci e) h in
    none_passes (names_group top) (listed_in entry_aci e) (or_parts (names_group_in top entry_aci e) (names_group_in top subentry_aci e) parts.1).0

below_none : (top : RdnSequence) (e : EntryInformation) → has_group top e ≡ false → NamesNone top (listed_in subentry_aci e)
below_none top e h =
    let parts = or_parts (names_group_in top prescriptive_aci e) (names_group_in top entry_aci e || names_group_in top subentry_aci e) h in
    none_passes (names_group top) (listed_in subentry_aci e) (or_parts (names_group_in top entry_aci e) (names_group_in top subentry_aci e) parts.1).1

inherited_none : (top : RdnSequence) (entries : List EntryInformation) (entry : EntryInformation) → AllByRecursion (λ e. has_group top e ≡ false) entries → NamesNone top (inherited entries entry)
unfolding inherited
inherited_none top entries entry h = elim (cases_Bool (is_subentry entry)) [
  | inl e ↦ rw e (all_found (λ e. has_group top e ≡ false) (λ x. names_group top x ≡ false) (listed_in subentry_aci) (is_named (superior_name entry.name)) (below_none top) entries h)
  | inr e ↦ rw e (all_flat_map_of (λ x. names_group top x ≡ false) (listed_in prescriptive_aci) (in_force entries entry)
      (all_map (λ e. has_group top e ≡ false) (λ e. NamesNone top (listed_in prescriptive_aci e)) (prescriptive_none top) (in_force entries entry)
      (all_in_force (λ e. has_group top e ≡ false) entries entry h)))
]

inherited_apart : (top : RdnSequence) (entries : List EntryInformation) (entry : EntryInformation) → IsApart top entries → is_within top entry ≡ false → NamesNone top (inherited entries entry)
inherited_apart top entries entry h outside =
    subst (NamesNone top) (inherited-without top entries entry h.subentries outside)
    (inherited_none top (without_subtree top entries) entry (all_outside (λ e. not (is_within top e)) (has_group top) entries h.groups))

-- so the tuples that count for it stay, with the ranks of their classes
placed_of-without : (top : RdnSequence) (entries : List EntryInformation) (entry : EntryInformation) → IsApart top entries → is_within top entry ≡ false → has_group top entry ≡ false
    → (who : Requester) → placed_of (without_subtree top entries) who entry ≡ placed_of entries who entry
unfolding tuples_of
placed_of-without top entries entry h outside own who =
    ap (λ (xs : List Listed). placed (without_subtree top entries) entry who.name (xs ++ listed_in entry_aci entry)) (inherited-without top entries entry h.subentries outside)
    ∙ placed-without top entries entry who.name (inherited entries entry ++ listed_in entry_aci entry)
    (all_append (λ x. names_group top x ≡ false) (inherited entries entry) (listed_in entry_aci entry) (inherited_apart top entries entry h outside) (own_none top entry own))

placed_new-without : (top : RdnSequence) (entries : List EntryInformation) (entry : EntryInformation) → IsApart top entries → is_within top entry ≡ false
    → (who : Requester) → placed_new (without_subtree top entries) who entry ≡ placed_new entries who entry
unfolding tuples_new
placed_new-without top entries entry h outside who =
    ap (λ (xs : List Listed). placed (without_subtree top entries) entry who.name xs) (inherited-without top entries entry h.subentries outside)
    ∙ placed-without top entries entry who.name (inherited entries entry) (inherited_apart top entries entry h outside)

pub granted-without : (top : RdnSequence) (entries : List EntryInformation) (entry : EntryInformation) → IsApart top entries → is_within top entry ≡ false → has_group top entry ≡ false
    → (who : Requester) (item : Protected) (permission : Permission) → granted (without_subtree top entries) who entry item permission ≡ granted entries who entry item permission
unfolding granted
granted-without top entries entry h outside own who item permission =
    ap (decided (asked_on who entry item permission)) (placed_of-without top entries entry h outside own who)

pub granted_after-without : (top : RdnSequence) (entries : List EntryInformation) (entry : EntryInformation) → IsApart top entries → is_within top entry ≡ false → has_group top entry ≡ false
    → (who : Requester) (after : EntryInformation) (kind : ℕ) (value : Keyed) → granted_after (without_subtree top entries) who entry after kind value ≡ granted_after entries who entry after kind value
unfolding granted_after
granted_after-without top entries entry h outside own who after kind value =
    ap (decided (record { who = who; item = Value kind value; permission = Add; after = after })) (placed_of-without top entries entry h outside own who)

pub granted_new-without : (top : RdnSequence) (entries : List EntryInformation) (entry : EntryInformation) → IsApart top entries → is_within top entry ≡ false
    → (who : Requester) (item : Protected) (permission : Permission) → granted_new (without_subtree top entries) who entry item permission ≡ granted_new entries who entry item permission
unfolding granted_new
granted_new-without top entries entry h outside who item permission =
    ap (decided (record { who = who; item = item; permission = permission; after = entry })) (placed_new-without top entries entry h outside who)
