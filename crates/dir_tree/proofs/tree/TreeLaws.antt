-- Laws of trees: superiors, scopes, and entries put in again.
use Rattle.std.proofs.Common.{◌≡◌, ◌≢◌, ◌⊎◌, inl, inr, ℕ, ◌+◌, ◌-◌, ◌==◌, Bool, true, false, ◌&&◌, List, [], ◌∷◌, length, take, Option, Some, None, refl, sym, ap, subst, ◌∙◌, arith, filter}
use Rattle.std.specs.Prelude.{is_some, IsSome}
use Rattle.std.specs.List.{AllByRecursion}
use Rattle.std.specs.Option.{option_and_then}
use Rattle.std.specs.Ordering.{is_lt}
use Rattle.std.specs.declared.cmp.Ordering.TheVariants.{Less}
use Rattle.std.proofs.lemmas.Bool.{cases_Bool, eqb-true, eqb-false, ne_eqb, eq-eqb, and_right, false_from_ne_true}
use Rattle.std.proofs.lemmas.List.{length-take-le}
use Rattle.base_laws.proofs.Theorems.{all_true, filter-none}
use Rattle.dn_names.specs.name.Names.{RdnSequence}
use Rattle.dn_names.specs.NameOrder.{name_cmp, is_same, is_prefix_of}
use Rattle.dir_tree.specs.Entry.{EntryInformation}
use Rattle.dir_tree.specs.tree.Trees.{is_named, is_before, has_name, named_in, superior_name, put_in, taken_out, IsInOrder}
use Rattle.dir_tree.specs.tree.Numbered.{Numbered, ids_of, entries_of, find_name, entry_of, entries_at, suffix_of, superior_of, put_row, without, AreDistinct, IsNumberedTree}
use Rattle.dir_tree.specs.Scope.{is_within, is_child, in_scope, scoped, is_number, is_superior}
use Rattle.dir_tree.specs.declared.scope.Scope.TheVariants.{One, Sub}
use Rattle.dir_tree.proofs.tree.NameLemmas.{same_like, before_not_same, superior_before, length-same}
use Rattle.dir_tree.proofs.tree.FrontLemmas.{filled as name_filled}
use Rattle.dir_tree.proofs.tree.EntryOfLemmas.{none_here, further, other_number}
use Rattle.dir_tree.proofs.tree.NumberedLemmas.{find_none, found_row, found_later, all_known_entry, put_row-without, keep_all, entries_of-others}
use Rattle.dir_tree.proofs.tree.OrderLemmas.{taken_out-put_in}
use Rattle.dir_tree.proofs.tree.RootLemmas.{absent_from_sorted}
use Rattle.dir_tree.proofs.tree.StayLaws.{all_under_suffix}
use Rattle.dir_tree.proofs.tree.KeptLemmas.{has_name-find}

-- the suffix has no superior
suffix_alone : (first : Numbered) (rows : List Numbered) → IsNumberedTree (first ∷ rows) → superior_of first.id (first ∷ rows) ≡ None
suffix_alone first rows tree =
    let before = superior_before first.entry.name tree.tree.named.0 in
    let none = find_none (superior_name first.entry.name) first rows before tree.tree.sorted.0 in
    rw (eq-eqb first.id first.id refl, before_not_same (superior_name first.entry.name) first.entry.name before, none) refl

pub superior_of-suffix : (id : ℕ) (rows : List Numbered) → IsNumberedTree rows → suffix_of rows ≡ Some id → superior_of id rows ≡ None
superior_of-suffix id [] tree e = absurd cc
superior_of-suffix id (first ∷ rows) tree e =
    let is : first.id ≡ id = cc in
    subst (λ (n : ℕ). superior_of n (first ∷ rows) ≡ None) is (suffix_alone first rows tree)

-- each other entry has one
pub superior_of-others : (id : ℕ) (entry : EntryInformation) (rows : List Numbered) → IsNumberedTree rows → entry_of id rows ≡ Some entry → suffix_of rows ≢ Some id → IsSome (superior_of id rows)
superior_of-others id entry [] tree known other = absurd cc
superior_of-others id entry (first ∷ rows) tree known other =
    let differs : (first.id == id) ≡ false = ne_eqb first.id id (λ e. other (ap Some e)) in
    let later = found_later id entry first rows differs known in
    let under : has_name (superior_name entry.name) (entries_of (first ∷ rows)) ≡ true = all_known_entry (λ later. has_name (superior_name later.name) (entries_of (first ∷ rows)) ≡ true) id entry rows tree.tree.rooted later in
    let found : is_some (find_name (superior_name entry.name) (first ∷ rows)) ≡ true = sym (has_name-find (superior_name entry.name) (first ∷ rows)) ∙ under in
    ap (λ (o : Option EntryInformation). is_some (option_and_then (λ e. find_name (superior_name e.name) (first ∷ rows)) o)) known ∙ found

-- each row's number is that of its entry
pub own_entries : (rows : List Numbered) → AreDistinct rows → AllByRecursion (λ row. entry_of row.id rows ≡ Some row.entry) rows
own_entries [] d = tt
own_entries (x ∷ rows) d = (rw (eq-eqb x.id x.id refl) refl, others rows d.0 (own_entries rows d.1))
  where
    others : (part : List Numbered) → AllByRecursion (λ later. later.id ≢ x.id) part → AllByRecursion (λ row. entry_of row.id rows ≡ Some row.entry) part → AllByRecursion (λ row. entry_of row.id (x ∷ rows) ≡ Some row.entry) part
    others [] h k = tt
    others (y ∷ part) h k = (further y.id x rows (λ e. h.0 (sym e)) ∙ k.0, others part h.1 k.1)

-- the number found for a name is another's where the number's entry has another name
not_found : (id : ℕ) (name : RdnSequence) (rows : List Numbered) → AllByRecursion (λ later. later.id ≢ id) rows → is_number id (find_name name rows) ≡ false
not_found id name [] h = refl
not_found id name (x ∷ rows) h = elim (cases_Bool (is_named name x.entry)) [
  | inl e ↦ rw e (ne_eqb x.id id h.0)
  | inr e ↦ rw e (not_found id name rows h.1)
]

found_is : (id : ℕ) (base : EntryInformation) (name : RdnSequence) (rows : List Numbered) → IsInOrder (entries_of rows) → AreDistinct rows → entry_of id rows ≡ Some base → is_number id (find_name name rows) ≡ is_same name base.name
found_is id base name [] o d f = absurd cc
found_is id base name (x ∷ rows) o d f = by (cases_Bool (x.id == id)) (cases_Bool (is_named name x.entry)) (found_is id base name rows o.1 d.1)
  where
    by : (((x.id == id) ≡ true) ⊎ ((x.id == id) ≡ false)) → ((is_named name x.entry ≡ true) ⊎ (is_named name x.entry ≡ false)) → (entry_of id rows ≡ Some base → is_number id (find_name name rows) ≡ is_same name base.name) → is_number id (find_name name (x ∷ rows)) ≡ is_same name base.name
    by (inl e) (inl g) later =
        let same : x.entry.name ≡ base.name = ap (λ (row : Numbered). row.entry.name) (found_row id base x rows e f) in
        rw g (e ∙ sym g ∙ ap (is_same name) same)
    by (inl e) (inr g) later =
        let same : x.entry.name ≡ base.name = ap (λ (row : Numbered). row.entry.name) (found_row id base x rows e f) in
        let others = subst (λ (n : ℕ). AllByRecursion (λ later. later.id ≢ n) rows) (eqb-true x.id id e) d.0 in
        rw g (not_found id name rows others ∙ sym g ∙ ap (is_same name) same)
    by (inr e) (inl g) later =
        let known = found_later id base x rows e f in
        let before : is_before x.entry.name base.name ≡ true = ap is_lt (all_known_entry (λ later. name_cmp x.entry.name later.name ≡ Less) id base rows o.0 known) in
        rw g (e ∙ sym (same_like name x.entry.name base.name g ∙ before_not_same x.entry.name base.name before))
    by (inr e) (inr g) later = rw g (later (found_later id base x rows e f))

-- immediately below a name stands what has the name for its superior's
pub child_is : (base : RdnSequence) (entry : EntryInformation) → entry.name ≢ [] → is_child base entry ≡ is_same (superior_name entry.name) base
unfolding is_prefix_of
child_is base entry filled = by (cases_Bool (length entry.name == length base + 1))
  where
    by : (((length entry.name == length base + 1) ≡ true) ⊎ ((length entry.name == length base + 1) ≡ false)) → is_child base entry ≡ is_same (superior_name entry.name) base
    by (inl e) =
        let long = eqb-true (length entry.name) (length base + 1) e in
        let less : length base ≡ length entry.name - 1 = omega arith in
        rw e (and_true (is_same (take (length base) entry.name) base) ∙ ap (λ (n : ℕ). is_same (take n entry.name) base) less)
      where
        and_true : (b : Bool) → (b && true) ≡ b
        and_true true = refl
        and_true false = refl
    by (inr e) =
        let other = eqb-false (length entry.name) (length base + 1) e in
        let some = name_filled entry.name filled in
        and_right (is_same (take (length base) entry.name) base) (length entry.name == length base + 1) e
        ∙ sym (false_from_ne_true (is_same (superior_name entry.name) base) (λ f.
        other (omega (arith, length-same (superior_name entry.name) base f, length-take-le (length entry.name - 1) entry.name (omega arith), some))))

filter_like_all : (test other : Numbered → Bool) (rows : List Numbered) → AllByRecursion (λ row. test row ≡ other row) rows → filter test rows ≡ filter other rows
filter_like_all test other [] h = refl
filter_like_all test other (x ∷ rows) h = rw (h.0, filter_like_all test other rows h.1) refl

all_both : (P Q R : Numbered → Type 0) → ((row : Numbered) → P row → Q row → R row) → (rows : List Numbered) → AllByRecursion P rows → AllByRecursion Q rows → AllByRecursion R rows
all_both P Q R f [] h k = tt
all_both P Q R f (x ∷ rows) h k = (f x h.0 k.0, all_both P Q R f rows h.1 k.1)

-- a number that has no entry is no row's
absent_id : (id : ℕ) (rows : List Numbered) → entry_of id rows ≡ None → AllByRecursion (λ row. row.id ≢ id) rows
absent_id id [] e = tt
absent_id id (x ∷ rows) e =
    let none = none_here id x rows e in
    (eqb-false x.id id none.0, absent_id id rows none.1)

no_superior_of : (id : ℕ) (rows : List Numbered) → AllByRecursion (λ row. row.id ≢ id) rows → (o : Option EntryInformation) → is_number id (option_and_then (λ e. find_name (superior_name e.name) rows) o) ≡ false
no_superior_of id rows h None = refl
no_superior_of id rows h (Some e) = not_found id (superior_name e.name) rows h

-- no row is without a name where no entry is
named_rows : (rows : List Numbered) → AllByRecursion (λ entry. entry.name ≢ []) (entries_of rows) → AllByRecursion (λ (row : Numbered). row.entry.name ≢ []) rows
named_rows [] h = tt
named_rows (x ∷ rows) h = (h.0, named_rows rows h.1)

-- One takes in those whose superior it is
pub scoped-One : (id : ℕ) (rows : List Numbered) → IsNumberedTree rows → scoped One id rows ≡ ids_of (filter (λ row. is_superior id row.id rows) rows)
scoped-One id rows tree = by (entry_of id rows) refl
  where
    by : (o : Option EntryInformation) → entry_of id rows ≡ o → scoped One id rows ≡ ids_of (filter (λ row. is_superior id row.id rows) rows)
    by None e =
        ap (λ (o : Option EntryInformation). in_scope One id o rows) e
        ∙ ap ids_of (sym (filter-none (λ row. is_superior id row.id rows) rows (all_true (λ row. is_superior id row.id rows ≡ false) (λ row. no_superior_of id rows (absent_id id rows e) (entry_of row.id rows)) rows)))
    by (Some base) e =
        ap (λ (o : Option EntryInformation). in_scope One id o rows) e
        ∙ ap ids_of (filter_like_all (λ row. is_child base.name row.entry) (λ row. is_superior id row.id rows) rows
        (all_both (λ row. entry_of row.id rows ≡ Some row.entry) (λ row. row.entry.name ≢ []) (λ row. is_child base.name row.entry ≡ is_superior id row.id rows)
        (λ row own filled.
        child_is base.name row.entry filled
        ∙ sym (found_is id base (superior_name row.entry.name) rows tree.tree.sorted tree.distinct e)
        ∙ ap (λ (o : Option EntryInformation). is_number id (option_and_then (λ e. find_name (superior_name e.name) rows) o)) (sym own))
        rows (own_entries rows tree.distinct) (named_rows rows tree.tree.named)))

-- from the suffix on all are taken in
within_rows : (base : RdnSequence) (rows : List Numbered) → AllByRecursion (λ entry. is_within base entry ≡ true) (entries_of rows) → AllByRecursion (λ (row : Numbered). is_within base row.entry ≡ true) rows
within_rows base [] h = tt
within_rows base (x ∷ rows) h = (h.0, within_rows base rows h.1)

keep_whole : (test : Numbered → Bool) (rows : List Numbered) → AllByRecursion (λ row. test row ≡ true) rows → filter test rows ≡ rows
keep_whole test [] h = refl
keep_whole test (x ∷ rows) h = rw h.0 (ap (λ (xs : List Numbered). x ∷ xs) (keep_whole test rows h.1))

pub scoped-Sub : (id : ℕ) (rows : List Numbered) → IsNumberedTree rows → suffix_of rows ≡ Some id → scoped Sub id rows ≡ ids_of rows
scoped-Sub id [] tree e = absurd cc
scoped-Sub id (first ∷ rows) tree e =
    let is : first.id ≡ id = cc in
    let known : entry_of id (first ∷ rows) ≡ Some first.entry = rw (eq-eqb first.id id is) refl in
    ap (λ (o : Option EntryInformation). in_scope Sub id o (first ∷ rows)) known
    ∙ ap ids_of (keep_whole (λ row. is_within first.entry.name row.entry) (first ∷ rows) (within_rows first.entry.name (first ∷ rows) (all_under_suffix first.entry (entries_of rows) tree.tree)))

-- the entries of the numbers of rows that are kept are those that are kept
entries_at-more : (x : Numbered) (rows : List Numbered) (ids : List ℕ) → AllByRecursion (λ id. id ≢ x.id) ids → entries_at (x ∷ rows) ids ≡ entries_at rows ids
entries_at-more x rows [] h = refl
entries_at-more x rows (id ∷ ids) h = rw (ne_eqb x.id id (λ e. h.0 (sym e)), entries_at-more x rows ids h.1) refl

kept_apart : (test : Numbered → Bool) (id : ℕ) (rows : List Numbered) → AllByRecursion (λ later. later.id ≢ id) rows → AllByRecursion (λ other. other ≢ id) (ids_of (filter test rows))
kept_apart test id [] h = tt
kept_apart test id (x ∷ rows) h = elim (cases_Bool (test x)) [
  | inl e ↦ rw e (h.0, kept_apart test id rows h.1)
  | inr e ↦ rw e (kept_apart test id rows h.1)
]

pub entries_at-kept : (test : EntryInformation → Bool) (rows : List Numbered) → AreDistinct rows → entries_at rows (ids_of (filter (λ row. test row.entry) rows)) ≡ filter test (entries_of rows)
entries_at-kept test [] d = refl
entries_at-kept test (x ∷ rows) d =
    let rest : List ℕ = ids_of (filter (λ row. test row.entry) rows) in
    let more : entries_at (x ∷ rows) rest ≡ filter test (entries_of rows) =
    entries_at-more x rows rest (kept_apart (λ row. test row.entry) x.id rows d.0) ∙ entries_at-kept test rows d.1 in
    elim (cases_Bool (test x.entry)) [
      | inl e ↦ rw (e, eq-eqb x.id x.id refl) (ap (λ (xs : List EntryInformation). x.entry ∷ xs) more)
      | inr e ↦ rw e more
    ]

-- so of a scope
pub scoped-One-entries : (id : ℕ) (base : EntryInformation) (rows : List Numbered) → IsNumberedTree rows → entry_of id rows ≡ Some base → entries_at rows (scoped One id rows) ≡ filter (is_child base.name) (entries_of rows)
scoped-One-entries id base rows tree known =
    ap (λ (o : Option EntryInformation). entries_at rows (in_scope One id o rows)) known ∙ entries_at-kept (is_child base.name) rows tree.distinct

pub scoped-Sub-entries : (id : ℕ) (base : EntryInformation) (rows : List Numbered) → IsNumberedTree rows → entry_of id rows ≡ Some base → entries_at rows (scoped Sub id rows) ≡ filter (is_within base.name) (entries_of rows)
scoped-Sub-entries id base rows tree known =
    ap (λ (o : Option EntryInformation). entries_at rows (in_scope Sub id o rows)) known ∙ entries_at-kept (is_within base.name) rows tree.distinct

-- the number that is found for a name is that of its entry
pub entry_of-found : (name : RdnSequence) (rows : List Numbered) → AreDistinct rows → option_and_then (λ id. entry_of id rows) (find_name name rows) ≡ named_in name (entries_of rows)
entry_of-found name [] d = refl
entry_of-found name (x ∷ rows) d = elim (cases_Bool (is_named name x.entry)) [
  | inl e ↦ rw (e, eq-eqb x.id x.id refl) refl
  | inr e ↦ rw e (beyond (find_name name rows) (other_number name x.id rows d.0) ∙ entry_of-found name rows d.1)
]
  where
    beyond : (found : Option ℕ) → ((id : ℕ) → found ≡ Some id → id ≢ x.id) → option_and_then (λ id. entry_of id (x ∷ rows)) found ≡ option_and_then (λ id. entry_of id rows) found
    beyond None h = refl
    beyond (Some id) h = further id x rows (λ e. h id refl (sym e))

-- so the entry of a name is the one of the number that is found for it, and there is none where no number is
pub named-found : (name : RdnSequence) (rows : List Numbered) → AreDistinct rows → (id : ℕ) → find_name name rows ≡ Some id → named_in name (entries_of rows) ≡ entry_of id rows
named-found name rows d id e = sym (entry_of-found name rows d) ∙ ap (λ (found : Option ℕ). option_and_then (λ id. entry_of id rows) found) e

pub named-none : (name : RdnSequence) (rows : List Numbered) → AreDistinct rows → find_name name rows ≡ None → named_in name (entries_of rows) ≡ None
named-none name rows d e = sym (entry_of-found name rows d) ∙ ap (λ (found : Option ℕ). option_and_then (λ id. entry_of id rows) found) e

-- put in again, and taken out again
pub put_row-taken : (id : ℕ) (entry : EntryInformation) (rows : List Numbered) → IsNumberedTree rows → entry_of id rows ≡ Some entry → put_row (record { id = id; entry = entry }) (without id rows) ≡ rows
put_row-taken id entry rows tree known = put_row-without id entry rows tree.tree.sorted tree.distinct known

-- without the row of a number the entries are those of other names
pub entries_of-without : (id : ℕ) (entry : EntryInformation) (rows : List Numbered) → IsNumberedTree rows → entry_of id rows ≡ Some entry → entries_of (without id rows) ≡ taken_out entry.name (entries_of rows)
entries_of-without id entry rows tree known =
    let back = entries_of-others id entry rows tree.tree.sorted tree.distinct known in
    let order : IsInOrder (put_in entry (entries_of (without id rows))) = rw back tree.tree.sorted in
    sym (taken_out-put_in entry (entries_of (without id rows)) (absent_from_sorted entry (entries_of (without id rows)) order)) ∙ ap (taken_out entry.name) back

without-put : (id : ℕ) (entry : EntryInformation) (rows : List Numbered) → AllByRecursion (λ row. row.id ≢ id) rows → without id (put_row (record { id = id; entry = entry }) rows) ≡ rows
without-put id entry [] h = rw (eq-eqb id id refl) refl
without-put id entry (x ∷ rows) h = elim (cases_Bool (is_before x.entry.name entry.name)) [
  | inl e ↦ rw (e, ne_eqb x.id id h.0) (ap (λ (xs : List Numbered). x ∷ xs) (without-put id entry rows h.1))
  | inr e ↦ rw (e, eq-eqb id id refl) (keep_all id (x ∷ rows) h)
]

pub without-put_row : (id : ℕ) (entry : EntryInformation) (rows : List Numbered) → entry_of id rows ≡ None → without id (put_row (record { id = id; entry = entry }) rows) ≡ rows
without-put_row id entry rows e = without-put id entry rows (absent_id id rows e)
