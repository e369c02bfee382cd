-- Rows in the order of their names: those behind the last of a front are the others.
use Rattle.std.proofs.Common.{◌≡◌, ◌≢◌, inl, inr, Bool, true, false, List, [], ◌∷◌, ◌++◌, length, map, filter, refl, ap, ◌∙◌, ◌≤◌, arith}
use Rattle.std.specs.List.{AllByRecursion}
use Rattle.std.specs.Ordering.{is_lt, ordering_reverse}
use Rattle.std.specs.declared.cmp.Ordering.TheVariants.{Less}
use Rattle.std.proofs.lemmas.Bool.{cases_Bool}
use Rattle.std.proofs.lemmas.Cmp.{tied_itself}
use Rattle.dir_tree.proofs.base_laws_proofs.Theorems.{all_filter, all_map}
use Rattle.dir_tree.proofs.dn_names_proofs.Theorems.{name_cmp_total}
use Rattle.dir_tree.specs.dn_names.name.Names.{RdnSequence}
use Rattle.dir_tree.specs.dn_names.NameOrder.{name_cmp}
use Rattle.dir_tree.specs.Entry.{EntryInformation}
use Rattle.dir_tree.specs.tree.Trees.{is_before, IsInOrder}
use Rattle.acdf_filters.specs.declared.asking.Requester.{Requester}
use Rattle.read_model.specs.Views.{Row, View, row_of}
use Rattle.page_core.specs.Starts.{is_after}
use Rattle.page_core.specs.Pages.{last_name}

-- each row's name comes before those of the rows behind it
abbrev pub AreInOrder : View → Type 0
AreInOrder [] = Unit {0}
AreInOrder (row ∷ rows) = AllByRecursion (λ later. name_cmp row.entry.name later.entry.name ≡ Less) rows × AreInOrder rows

-- what holds of each of two lists, one behind the other
pub all_front : {A : Type 0} (P : A → Type 0) (xs ys : List A) → AllByRecursion P (xs ++ ys) → AllByRecursion P xs
all_front P [] ys h = tt
all_front P (x ∷ xs) ys h = (h.0, all_front P xs ys h.1)

pub all_back : {A : Type 0} (P : A → Type 0) (xs ys : List A) → AllByRecursion P (xs ++ ys) → AllByRecursion P ys
all_back P [] ys h = h
all_back P (x ∷ xs) ys h = all_back P xs ys h.1

-- what holds of what each entry is seen as holds of what is seen
pub all_seen : (P : Row → Type 0) (whole : List EntryInformation) (who : Requester) (entries : List EntryInformation)
    → AllByRecursion (λ entry. P (row_of whole who entry)) entries → AllByRecursion P (map (row_of whole who) entries)
all_seen P whole who [] h = tt
all_seen P whole who (entry ∷ entries) h = (h.0, all_seen P whole who entries h.1)

-- the rows of entries in order are in order
pub in_order-seen : (whole : List EntryInformation) (who : Requester) (entries : List EntryInformation)
    → IsInOrder entries
    → AreInOrder (map (row_of whole who) entries)
in_order-seen whole who [] h = tt
in_order-seen whole who (entry ∷ entries) h =
    (all_seen (λ (later : Row). name_cmp entry.name later.entry.name ≡ Less) whole who entries h.0, in_order-seen whole who entries h.1)

-- what is left of rows in order is in order
pub in_order-filter : (test : Row → Bool) (rows : View) → AreInOrder rows → AreInOrder (filter test rows)
in_order-filter test [] h = tt
in_order-filter test (row ∷ rows) h =
    let rest = in_order-filter test rows h.1 in
    elim (cases_Bool (test row)) [
      | inl e ↦ rw e (all_filter (λ (later : Row). name_cmp row.entry.name later.entry.name ≡ Less) test rows h.0, rest)
      | inr e ↦ rw e rest
    ]

-- no more is left than there was
pub length-filter_most : {A : Type 0} (test : A → Bool) (xs : List A) → length (filter test xs) ≤ length xs
length-filter_most test [] = omega arith
length-filter_most test (x ∷ xs) = elim (cases_Bool (test x)) [
  | inl e ↦ rw e (omega (arith, length-filter_most test xs))
  | inr e ↦ rw e (omega (arith, length-filter_most test xs))
]

-- all is left where each passes
pub filter-all : {A : Type 0} (test : A → Bool) (xs : List A) → AllByRecursion (λ x. test x ≡ true) xs → filter test xs
    ≡ xs
filter-all test [] h = refl
filter-all {A} test (x ∷ xs) h = rw h.0 (ap (λ (ys : List A). x ∷ ys) (filter-all test xs h.1))

-- ---- the last name

-- what holds of each name holds of the last
pub last_all : (P : RdnSequence → Type 0) (row : Row) (rows : View)
    → AllByRecursion (λ each. P each.entry.name) (row ∷ rows) → P (last_name (row ∷ rows))
last_all P row [] h = h.0
last_all P row (next ∷ rows) h = last_all P next rows h.1

-- the last name of a list behind another
pub last_name-behind : (front : View) (row : Row) (rows : View) → last_name (front ++ row ∷ rows) ≡ last_name (row ∷ rows)
last_name-behind [] row rows = refl
last_name-behind (first ∷ []) row rows = refl
last_name-behind (first ∷ second ∷ front) row rows = last_name-behind (second ∷ front) row rows

-- a name is not after itself, nor one before it
not_after_itself : (name : RdnSequence) → is_before name name ≡ false
not_after_itself name = ap is_lt (tied_itself name_cmp_total name)

not_back : (one other : RdnSequence) → name_cmp one other ≡ Less → is_before other one ≡ false
not_back one other e = ap is_lt (name_cmp_total.antisymm other one ∙ ap ordering_reverse e)

-- of rows in order those behind the last of a front are the others
pub filter-after_last : (row : Row) (front back : View) → AreInOrder (row ∷ front ++ back)
    → filter (is_after (last_name (row ∷ front))) (row ∷ front ++ back) ≡ back
filter-after_last row [] back h =
    let others = all_map (λ (later : Row). name_cmp row.entry.name later.entry.name ≡ Less)
    (λ (later : Row). is_after row.entry.name later ≡ true)
    (λ later e. ap is_lt e) back h.0 in
    rw (not_after_itself row.entry.name) (filter-all (is_after row.entry.name) back others)
filter-after_last row (next ∷ front) back h =
    let before = last_all (λ (name : RdnSequence). name_cmp row.entry.name name ≡ Less) next front
    (all_front (λ (later : Row). name_cmp row.entry.name later.entry.name ≡ Less) (next ∷ front) back h.0) in
    rw (not_back row.entry.name (last_name (next ∷ front)) before) (filter-after_last next front back h.1)

-- every name but the empty one is after it
first_of_all : (name : RdnSequence) → name ≢ [] → is_before [] name ≡ true
unfolding name_cmp
first_of_all [] filled = absurd (filled refl)
first_of_all (rdn ∷ rdns) filled = refl

pub after_nothing : (rows : View) → AllByRecursion (λ row. row.entry.name ≢ []) rows → filter (is_after []) rows ≡ rows
after_nothing rows h =
    filter-all (is_after []) rows
    (all_map (λ (row : Row). row.entry.name ≢ []) (λ (row : Row). is_after [] row ≡ true)
    (λ row filled. first_of_all row.entry.name filled) rows h)
