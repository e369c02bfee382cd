-- The tuples that are kept are weighed as those that count for the entry are.
use Rattle.std.proofs.Common.{◌≡◌, ℕ, Bool, true, false, List, [], ◌∷◌, ◌++◌, map, Option, Some, None, refl, sym, ap, ◌∙◌}
use Rattle.std.specs.Prelude.{flat_map, fold, is_some, IsSome, if◌then◌else◌}
use Rattle.std.specs.List.{AllByRecursion}
use Rattle.std.specs.Option.{option_map_or, option_and_then}
use Rattle.std.proofs.lemmas.List.{map-append}
use Rattle.std.proofs.lemmas.List.Sums.{fold-append}
use Rattle.dir_tree.specs.Entry.{EntryInformation}
use Rattle.dir_tree.specs.dn_names.name.Names.{RdnSequence}
use Rattle.dir_tree.specs.tree.Trees.{superior_name, named_in}
use Rattle.dir_tree.specs.Points.{is_subentry}
use Rattle.dir_tree.specs.tree.Numbered.{Numbered, IsNumberedTree, entry_of, entries_of, entries_at, find_name, superior_of}
use Rattle.dir_tree.proofs.TreeTheorems.{entry_of-found, found_both}
use Rattle.acdf_filters.specs.admin_scope.InForce.{in_force}
use Rattle.acdf_filters.specs.aci_item.AciTuples.{AciTuple}
use Rattle.acdf_filters.specs.Tuples.{TaggedTuples, Listed, prescriptive_aci, entry_aci, subentry_aci, items_in, listed_by, listed_in, inherited, tuples_of}
use Rattle.acdf_filters.specs.declared.question.Question.{Question}
use Rattle.acdf_filters.specs.Filters.{decided}
use Rattle.acdf_filters.specs.Granted.{placed_of}
use Rattle.acdf_filters.specs.Standing.{initial}
use Rattle.acdf_filters.specs.weighing.Weighing.{asked_of, weighed_for, is_granted}
use Rattle.acdf_filters.specs.declared.standing.Standing.{Standing}
use Rattle.acdf_filters.proofs.Theorems.{decided-fold}
use Rattle.aci_lists.specs.Order.{highest_first}
use Rattle.aci_lists.proofs.Theorems.{fold-highest_first}
use Rattle.aci_lists.specs.declared.kept.Kept.{Kept}
use Rattle.aci_lists.specs.kept.Lists.{lists_at, IsKept, tuples_in, tuples_at, tuples_below, tuples_inherited, tuples_kept}

-- the tuple alone
abbrev pub tuple_in : Listed → AciTuple
tuple_in x = x.tuple

-- the tuples of an item
listed_tuples : (source : RdnSequence) (tag : List ℕ) (ts : List AciTuple) → map tuple_in (map (λ tuple. record { source = source; tag = tag; tuple = tuple }) ts) ≡ ts
listed_tuples source tag [] = refl
listed_tuples source tag (t ∷ ts) = ap (λ (xs : List AciTuple). t ∷ xs) (listed_tuples source tag ts)

-- those of items
tuples-listed : (source : RdnSequence) (items : List TaggedTuples) → map tuple_in (flat_map (listed_by source) items) ≡ tuples_in items
tuples-listed source [] = refl
tuples-listed source (item ∷ items) =
    map-append tuple_in (listed_by source item) (flat_map (listed_by source) items)
    ∙ ap (λ (xs : List AciTuple). xs ++ map tuple_in (flat_map (listed_by source) items)) (listed_tuples source item.tag item.tuples)
    ∙ ap (λ (xs : List AciTuple). item.tuples ++ xs) (tuples-listed source items)

-- those of the values of an entry
abbrev pub values_tuples : ℕ → EntryInformation → List AciTuple
values_tuples kind entry = tuples_in (items_in kind entry)

pub tuples-entries : (kind : ℕ) (entries : List EntryInformation) → map tuple_in (flat_map (listed_in kind) entries) ≡ flat_map (values_tuples kind) entries
tuples-entries kind [] = refl
tuples-entries kind (e ∷ entries) =
    map-append tuple_in (listed_in kind e) (flat_map (listed_in kind) entries)
    ∙ ap (λ (xs : List AciTuple). xs ++ map tuple_in (flat_map (listed_in kind) entries)) (tuples-listed e.name (items_in kind e))
    ∙ ap (λ (xs : List AciTuple). values_tuples kind e ++ xs) (tuples-entries kind entries)

-- kept tuples are weighed as they came
weighed-values : (question : Question) (seen : Standing) (tuples kept : List AciTuple) → kept ≡ highest_first tuples → fold (weighed_for question) seen kept ≡ fold (weighed_for question) seen tuples
weighed-values question seen tuples kept e = ap (fold (weighed_for question) seen) e ∙ fold-highest_first question seen tuples

-- the numbers stand for the subentries
pub weighed_at-entries : (question : Question) (kept : List Kept) (rows : List Numbered) → IsKept kept rows → (ids : List ℕ) → AllByRecursion (λ id. IsSome (entry_of id rows)) ids → (seen : Standing)
    → fold (weighed_for question) seen (tuples_at kept ids) ≡ fold (weighed_for question) seen (flat_map (values_tuples prescriptive_aci) (entries_at rows ids))
weighed_at-entries question kept rows is [] live seen = refl
weighed_at-entries question kept rows is (id ∷ ids) live seen = by (entry_of id rows) refl live.0 (weighed_at-entries question kept rows is ids live.1)
  where
    by : (o : Option EntryInformation) → entry_of id rows ≡ o → IsSome o
        → ((s : Standing) → fold (weighed_for question) s (tuples_at kept ids) ≡ fold (weighed_for question) s (flat_map (values_tuples prescriptive_aci) (entries_at rows ids)))
        → fold (weighed_for question) seen (tuples_at kept (id ∷ ids)) ≡ fold (weighed_for question) seen (flat_map (values_tuples prescriptive_aci) (entries_at rows (id ∷ ids)))
    by None e some later = absurd cc
    by (Some entry) e some later =
        let weigh = weighed_for question in
        let first = values_tuples prescriptive_aci entry in
        rw e
        (fold-append weigh seen (lists_at kept id).prescriptive (tuples_at kept ids)
        ∙ ap (λ (s : Standing). fold weigh s (tuples_at kept ids)) (weighed-values question seen first (lists_at kept id).prescriptive (is id entry e).prescriptive)
        ∙ later (fold weigh seen first)
        ∙ sym (fold-append weigh seen first (flat_map (values_tuples prescriptive_aci) (entries_at rows ids))))

-- the number above a subentry stands for the entry above it
pub weighed_below-entry : (question : Question) (kept : List Kept) (rows : List Numbered) → IsKept kept rows → IsNumberedTree rows → (name : RdnSequence) (seen : Standing)
    → fold (weighed_for question) seen (tuples_below kept (find_name name rows)) ≡ fold (weighed_for question) seen (map tuple_in (option_map_or (listed_in subentry_aci) (named_in name (entries_of rows)) []))
weighed_below-entry question kept rows is tree name seen = by (find_name name rows) (entry_of-found name rows tree.distinct) (found_both name rows)
  where
    at_entry : (id : ℕ) (o : Option EntryInformation) → entry_of id rows ≡ o → is_some o ≡ true
        → fold (weighed_for question) seen (lists_at kept id).below ≡ fold (weighed_for question) seen (map tuple_in (option_map_or (listed_in subentry_aci) o []))
    at_entry id None e some = absurd cc
    at_entry id (Some entry) e some =
        weighed-values question seen (values_tuples subentry_aci entry) (lists_at kept id).below (is id entry e).below
        ∙ ap (fold (weighed_for question) seen) (sym (tuples-listed entry.name (items_in subentry_aci entry)))

    by : (o : Option ℕ) → option_and_then (λ id. entry_of id rows) o ≡ named_in name (entries_of rows) → is_some o ≡ is_some (named_in name (entries_of rows))
        → fold (weighed_for question) seen (tuples_below kept o) ≡ fold (weighed_for question) seen (map tuple_in (option_map_or (listed_in subentry_aci) (named_in name (entries_of rows)) []))
    by None e some =
        ap (λ (found : Option EntryInformation). fold (weighed_for question) seen (map tuple_in (option_map_or (listed_in subentry_aci) found []))) e
    by (Some id) e some = at_entry id (named_in name (entries_of rows)) e (sym some)

-- all that count for the entry are kept
weighed-kept : (question : Question) (kept : List Kept) (rows : List Numbered) → IsKept kept rows → IsNumberedTree rows → (id : ℕ) (entry : EntryInformation) → entry_of id rows ≡ Some entry
    → fold (weighed_for question) initial (tuples_kept kept id entry rows) ≡ fold (weighed_for question) initial (map tuple_in (tuples_of (entries_of rows) entry))
unfolding tuples_of inherited
weighed-kept question kept rows is tree id entry known =
    let weigh = weighed_for question in
    let lists = is id entry known in
    let above : superior_of id rows ≡ find_name (superior_name entry.name) rows =
    ap (λ (o : Option EntryInformation). option_and_then (λ e. find_name (superior_name e.name) rows) o) known in
    let below : fold weigh initial (tuples_below kept (superior_of id rows)) ≡ fold weigh initial (map tuple_in (option_map_or (listed_in subentry_aci) (named_in (superior_name entry.name) (entries_of rows)) [])) =
    ap (λ (o : Option ℕ). fold weigh initial (tuples_below kept o)) above ∙ weighed_below-entry question kept rows is tree (superior_name entry.name) initial in
    let ordinary : fold weigh initial (tuples_at kept (lists_at kept id).in_force) ≡ fold weigh initial (map tuple_in (flat_map (listed_in prescriptive_aci) (in_force (entries_of rows) entry))) =
    weighed_at-entries question kept rows is (lists_at kept id).in_force lists.live initial
    ∙ ap (λ (entries : List EntryInformation). fold weigh initial (flat_map (values_tuples prescriptive_aci) entries)) lists.in_force
    ∙ ap (fold weigh initial) (sym (tuples-entries prescriptive_aci (in_force (entries_of rows) entry))) in
    let others = if is_subentry entry then option_map_or (listed_in subentry_aci) (named_in (superior_name entry.name) (entries_of rows)) []
    else flat_map (listed_in prescriptive_aci) (in_force (entries_of rows) entry) in
    let own = listed_in entry_aci entry in
    let first : fold weigh initial (tuples_inherited kept id entry rows) ≡ fold weigh initial (map tuple_in others) = both (is_subentry entry) _ _ _ _ below ordinary in
    let last : fold weigh (fold weigh initial (map tuple_in others)) (lists_at kept id).own ≡ fold weigh (fold weigh initial (map tuple_in others)) (map tuple_in own) =
    weighed-values question (fold weigh initial (map tuple_in others)) (values_tuples entry_aci entry) (lists_at kept id).own lists.own
    ∙ ap (fold weigh (fold weigh initial (map tuple_in others))) (sym (tuples-listed entry.name (items_in entry_aci entry))) in
    fold-append weigh initial (tuples_inherited kept id entry rows) (lists_at kept id).own
    ∙ ap (λ (s : Standing). fold weigh s (lists_at kept id).own) first
    ∙ last
    ∙ sym (fold-append weigh initial (map tuple_in others) (map tuple_in own))
    ∙ ap (fold weigh initial) (sym (map-append tuple_in others own))
  where
    both : (b : Bool) (xs ys : List AciTuple) (us vs : List Listed) → fold (weighed_for question) initial xs ≡ fold (weighed_for question) initial (map tuple_in us)
        → fold (weighed_for question) initial ys ≡ fold (weighed_for question) initial (map tuple_in vs)
        → fold (weighed_for question) initial (if b then xs else ys) ≡ fold (weighed_for question) initial (map tuple_in (if b then us else vs))
    both true xs ys us vs e f = e
    both false xs ys us vs e f = f

-- so the state of what is kept decides
pub decided-kept : (question : Question) (kept : List Kept) (id : ℕ) → IsKept kept question.tree.now → IsNumberedTree question.tree.now → entry_of id question.tree.now ≡ Some question.entry.now
    → is_granted (fold (weighed_for question) initial (tuples_kept kept id question.entry.now question.tree.now))
    ≡ decided (asked_of question) (placed_of (entries_of question.tree.now) question.who.now question.entry.now)
decided-kept question kept id is tree known =
    ap is_granted (weighed-kept question kept question.tree.now is tree id question.entry.now known)
    ∙ decided-fold question (tuples_of (entries_of question.tree.now) question.entry.now)
