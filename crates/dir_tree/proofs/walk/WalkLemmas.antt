-- Walks, step by step and from the start of a scope.
use Rattle.std.proofs.Common.{◌≡◌, ◌⊎◌, inl, inr, ℕ, ◌≤◌, ◌==◌, suc, Bool, true, false, not, cond, ◌&&◌, List, [], ◌∷◌, length, Option, Some, None, refl, sym, ap, subst, ◌∙◌, arith, filter, Ordering}
use Rattle.std.specs.Prelude.{nat_eq}
use Rattle.std.specs.List.{AllByRecursion, starts_with}
use Rattle.std.specs.Ordering.{nat_cmp, is_lt, is_le, is_gt, is_eq}
use Rattle.std.specs.Cmp.Lexicographic.{slice_cmp}
use Rattle.std.specs.Map.{values_of}
use Rattle.std.specs.declared.cmp.Ordering.TheVariants.{Less, Equal, Greater}
use Rattle.std.proofs.lemmas.List.{take_all}
use Rattle.std.proofs.lemmas.Bool.{cases_Bool, cond_both, and_right, eqb-true}
use Rattle.base_laws.proofs.Theorems.{filter-none, filter-filter}
use Rattle.dn_names.specs.name.Names.{RdnSequence}
use Rattle.dn_names.specs.NameOrder.{name_cmp, is_same, is_prefix_of}
use Rattle.dn_names.specs.path.PathKeys.{path_key}
use Rattle.dir_tree.specs.Entry.{EntryInformation}
use Rattle.dir_tree.specs.tree.Trees.{is_before, is_below, is_named, has_below, IsInOrder}
use Rattle.dir_tree.specs.tree.Numbered.{Numbered, ids_of, entry_of, entries_of}
use Rattle.dir_tree.specs.Scope.{is_within, is_child, in_scope}
use Rattle.dir_tree.specs.declared.scope.Scope.{Scope}
use Rattle.dir_tree.specs.declared.scope.Scope.TheVariants.{Base, One, Sub}
use Rattle.dir_tree.specs.slots.Slots.{row_at, rows_of}
use Rattle.dir_tree.specs.Maps.{AreKeyed}
use Rattle.dir_tree.specs.Walk.{is_one_below, is_at_depth, front_of, walked}
use Rattle.dir_tree.proofs.tree.NameLemmas.{prefix_between, below_between, before_not_back, before_not_same, same_itself, same_back, length-same, is_gt-turned, same-from_Equal}
use Rattle.dir_tree.proofs.tree.OrderLemmas.{other_way}
use Rattle.dir_tree.proofs.replace.PlaceLemmas.{stands_within, stands_within_down, fails_after}
use Rattle.dir_tree.proofs.tree.NumberedLemmas.{found_row, found_later, all_known_entry}
use Rattle.dir_tree.proofs.tree.MapLemmas.{starts-prefix, keys_cmp}

-- what the answers of an order say of each other
from_start : (o : Ordering) → is_le o ≡ not (is_gt o)
from_start Less = refl
from_start Equal = refl
from_start Greater = refl

at_both : (o : Ordering) → (is_le o && not (is_lt o)) ≡ is_eq o
at_both Less = refl
at_both Equal = refl
at_both Greater = refl

-- a test of nothing keeps all
pub filter_true : {A : Type 0} (xs : List A) → filter (λ x. true) xs ≡ xs
filter_true [] = refl
filter_true {A} (x ∷ xs) = ap (λ (xs : List A). x ∷ xs) (filter_true xs)

-- a name begins one that is the same, and has below it what comes after it and begins with it
same-prefix : (name other : RdnSequence) → is_same name other ≡ true → is_prefix_of name other ≡ true
unfolding is_prefix_of
same-prefix name other e = rw (take_all (length name) other (omega (arith, length-same name other e))) (same_back name other e)

below_like : (name other : RdnSequence) → is_before name other ≡ true → is_prefix_of name other ≡ is_below name other
below_like name other e =
    let within = rw (before_not_back name other e) at (prefix_between name other) in
    let below = rw e at (below_between name other) in
    within ∙ sym below

-- whether the path begins the first key
abbrev pub begins_first : {K : Type 0} → (K → List ℕ) → List ℕ → List (K × ℕ) → Bool
begins_first octets path [] = false
begins_first octets path (place ∷ places) = starts_with nat_eq (octets place.0) path

-- the row of a number is the one of its name
pub filter-named : (id : ℕ) (entry : EntryInformation) (rows : List Numbered) → IsInOrder (entries_of rows) → entry_of id rows ≡ Some entry → ids_of (filter (λ row. is_named entry.name row.entry) rows) ≡ id ∷ []
filter-named id entry [] o known = absurd cc
filter-named id entry (x ∷ rows) o known = elim (cases_Bool (x.id == id)) [
  | inl e ↦ (
      let is = found_row id entry x rows e known in
      let name : x.entry.name ≡ entry.name = ap (λ (row : Numbered). row.entry.name) is in
      let here : is_named entry.name x.entry ≡ true = subst (λ (n : RdnSequence). is_same n x.entry.name ≡ true) name (same_itself x.entry.name) in
      rw here (ap (λ (xs : List Numbered). x.id ∷ ids_of xs) (filter-none (λ row. is_named entry.name row.entry) rows (others name rows o.0)) ∙ ap (λ (n : ℕ). n ∷ []) (eqb-true x.id id e)))
  | inr e ↦ (
      let later = found_later id entry x rows e known in
      let before : is_before x.entry.name entry.name ≡ true = ap is_lt (all_known_entry (λ later. name_cmp x.entry.name later.name ≡ Less) id entry rows o.0 later) in
      rw (other_way entry.name x.entry.name before) (filter-named id entry rows o.1 later))
]
  where
    others : x.entry.name ≡ entry.name → (rows : List Numbered) → AllByRecursion (λ later. name_cmp x.entry.name later.name ≡ Less) (entries_of rows) → AllByRecursion (λ row. is_named entry.name row.entry ≡ false) rows
    others name [] h = tt
    others name (y ∷ rows) h = (subst (λ (n : RdnSequence). is_same n y.entry.name ≡ false) name (before_not_same x.entry.name y.entry.name (ap is_lt h.0)), others name rows h.1)

module _ {K : Type 0} (octets : K → List ℕ) (slots : List (Option EntryInformation)) where
  abbrev rows : List (K × ℕ) → List Numbered
  rows places = rows_of slots (values_of places)

  abbrev name_of : K × ℕ → RdnSequence
  name_of place = (row_at slots place.1).entry.name

  -- tests of keys and rows that give the same answers keep the same
  pub values-filter : (test : K × ℕ → Bool) (other : Numbered → Bool) (places : List (K × ℕ)) → AllByRecursion (λ place. test place ≡ other (row_at slots place.1)) places → values_of (filter test places) ≡ ids_of (filter other (rows_of slots (values_of places)))
  values-filter test other [] h = refl
  values-filter test other (x ∷ places) h = by (other (row_at slots x.1)) refl (values-filter test other places h.1)
    where
      by : (b : Bool) → other (row_at slots x.1) ≡ b → values_of (filter test places) ≡ ids_of (filter other (rows places)) → values_of (filter test (x ∷ places)) ≡ ids_of (filter other (rows (x ∷ places)))
      by true e later = rw (h.0, e) (ap (λ (ids : List ℕ). x.1 ∷ ids) later)
      by false e later = rw (h.0, e) later

  -- what holds of each place whose key is its name's
  pub all_keyed : (P : K × ℕ → Type 0) → ((place : K × ℕ) → octets place.0 ≡ path_key (row_at slots place.1).entry.name → P place) → (places : List (K × ℕ)) → AreKeyed octets slots places → AllByRecursion P places
  all_keyed P f [] keyed = tt
  all_keyed P f (x ∷ places) keyed = (f x keyed.0, all_keyed P f places keyed.1)

  module _ (path : List ℕ) (name : RdnSequence) (is : path ≡ path_key name) where
    -- the tests of a key, as those of its name
    pub starts : (place : K × ℕ) → octets place.0 ≡ path_key (name_of place) → starts_with nat_eq (octets place.0) path ≡ is_prefix_of name (name_of place)
    starts place e = rw (is, e) (starts-prefix name (name_of place))

    pub compares : (place : K × ℕ) → octets place.0 ≡ path_key (name_of place) → slice_cmp nat_cmp path (octets place.0) ≡ name_cmp name (name_of place)
    compares place e = keys_cmp path (octets place.0) name (name_of place) is e

    -- none after one that is not before the name and does not begin with it
    pub not_within : (x : K × ℕ) (places : List (K × ℕ)) → is_before (name_of x) name ≡ false → is_prefix_of name (name_of x) ≡ false → AllByRecursion (λ later. name_cmp (name_of x) later.name ≡ Less) (entries_of (rows places)) → AllByRecursion (λ row. stands_within name row ≡ false) (rows places)
    not_within x places e f h =
        let fails : stands_within name (row_at slots x.1) ≡ false = rw e at (sym (prefix_between name (name_of x)) ∙ f) in
        fails_after (stands_within name) (stands_within_down name) (row_at slots x.1) (rows places) fails h

    pub none_begin : (places : List (K × ℕ)) → AreKeyed octets slots places → AllByRecursion (λ row. stands_within name row ≡ false) (rows places) → AllByRecursion (λ place. starts_with nat_eq (octets place.0) path ≡ false) places
    none_begin [] keyed h = tt
    none_begin (x ∷ places) keyed h = (
      starts x keyed.0 ∙ prefix_between name (name_of x) ∙ and_right (not (is_before (name_of x) name)) (stands_within name (row_at slots x.1)) h.0,
      none_begin places keyed.1 h.1,
    )

    -- from the name's own key on, those at the front whose keys the path begins are all
    pub front-from : (places : List (K × ℕ)) → AreKeyed octets slots places → IsInOrder (entries_of (rows_of slots (values_of places))) → front_of octets path (filter (λ place. is_le (slice_cmp nat_cmp path (octets place.0)) && true) places) ≡ filter (λ place. starts_with nat_eq (octets place.0) path) places
    front-from [] keyed o = refl
    front-from (x ∷ places) keyed o = by (cases_Bool (is_before (name_of x) name)) (cases_Bool (is_prefix_of name (name_of x))) (front-from places keyed.1 o.1)
      where
        from : is_le (slice_cmp nat_cmp path (octets x.0)) ≡ not (is_before (name_of x) name)
        from = ap is_le (compares x keyed.0) ∙ from_start (name_cmp name (name_of x)) ∙ ap not (is_gt-turned name (name_of x))

        by : ((is_before (name_of x) name ≡ true) ⊎ (is_before (name_of x) name ≡ false)) → ((is_prefix_of name (name_of x) ≡ true) ⊎ (is_prefix_of name (name_of x) ≡ false)) → front_of octets path (filter (λ place. is_le (slice_cmp nat_cmp path (octets place.0)) && true) places) ≡ filter (λ place. starts_with nat_eq (octets place.0) path) places → front_of octets path (filter (λ place. is_le (slice_cmp nat_cmp path (octets place.0)) && true) (x ∷ places)) ≡ filter (λ place. starts_with nat_eq (octets place.0) path) (x ∷ places)
        by (inl e) f later =
            let out : is_le (slice_cmp nat_cmp path (octets x.0)) ≡ false = from ∙ ap not e in
            let not_front = rw e at (prefix_between name (name_of x)) in
            let no : starts_with nat_eq (octets x.0) path ≡ false = starts x keyed.0 ∙ not_front in
            rw (out, no) later
        by (inr e) (inl f) later =
            let within : is_le (slice_cmp nat_cmp path (octets x.0)) ≡ true = from ∙ ap not e in
            let yes : starts_with nat_eq (octets x.0) path ≡ true = starts x keyed.0 ∙ f in
            rw (within, yes) (ap (λ (xs : List (K × ℕ)). x ∷ xs) later)
        by (inr e) (inr f) later =
            let within : is_le (slice_cmp nat_cmp path (octets x.0)) ≡ true = from ∙ ap not e in
            let no : starts_with nat_eq (octets x.0) path ≡ false = starts x keyed.0 ∙ f in
            rw (within, no) (sym (filter-none (λ (place : K × ℕ). starts_with nat_eq (octets place.0) path) places (none_begin places keyed.1 (not_within x places e f o.0))))

    pub walked-within : (depth : Option ℕ) (places : List (K × ℕ)) → AreKeyed octets slots places → IsInOrder (entries_of (rows_of slots (values_of places))) → walked octets depth slots path (filter (λ place. is_le (slice_cmp nat_cmp path (octets place.0)) && true) places) ≡ ids_of (filter (λ row. is_within name row.entry && is_one_below depth row.entry.name) (rows_of slots (values_of places)))
    unfolding walked
    walked-within depth places keyed o =
        ap (λ (xs : List (K × ℕ)). values_of (filter (λ place. is_at_depth depth slots place.1) xs)) (front-from places keyed o)
        ∙ ap values_of (filter-filter (λ (place : K × ℕ). is_at_depth depth slots place.1) (λ place. starts_with nat_eq (octets place.0) path) places)
        ∙ values-filter (λ place. starts_with nat_eq (octets place.0) path && is_at_depth depth slots place.1) (λ row. is_within name row.entry && is_one_below depth row.entry.name) places
        (all_keyed (λ place. (starts_with nat_eq (octets place.0) path && is_at_depth depth slots place.1) ≡ (is_within name (row_at slots place.1).entry && is_one_below depth (row_at slots place.1).entry.name)) (λ place e. ap (λ (b : Bool). b && is_at_depth depth slots place.1) (starts place e)) places keyed)

    -- at the name's own key
    front-at : (places : List (K × ℕ)) → AreKeyed octets slots places → front_of octets path (filter (λ place. is_le (slice_cmp nat_cmp path (octets place.0)) && not (is_lt (slice_cmp nat_cmp path (octets place.0)))) places) ≡ filter (λ place. is_le (slice_cmp nat_cmp path (octets place.0)) && not (is_lt (slice_cmp nat_cmp path (octets place.0)))) places
    front-at [] keyed = refl
    front-at (x ∷ places) keyed = by (name_cmp name (name_of x)) refl (front-at places keyed.1)
      where
        by : (o : Ordering) → name_cmp name (name_of x) ≡ o → front_of octets path (filter (λ place. is_le (slice_cmp nat_cmp path (octets place.0)) && not (is_lt (slice_cmp nat_cmp path (octets place.0)))) places) ≡ filter (λ place. is_le (slice_cmp nat_cmp path (octets place.0)) && not (is_lt (slice_cmp nat_cmp path (octets place.0)))) places → front_of octets path (filter (λ place. is_le (slice_cmp nat_cmp path (octets place.0)) && not (is_lt (slice_cmp nat_cmp path (octets place.0)))) (x ∷ places)) ≡ filter (λ place. is_le (slice_cmp nat_cmp path (octets place.0)) && not (is_lt (slice_cmp nat_cmp path (octets place.0)))) (x ∷ places)
        by Less f later = rw (compares x keyed.0, f) later
        by Equal f later = rw (compares x keyed.0, f, starts x keyed.0, same-prefix name (name_of x) (same-from_Equal name (name_of x) f)) (ap (λ (xs : List (K × ℕ)). x ∷ xs) later)
        by Greater f later = rw (compares x keyed.0, f) later

    pub walked-at : (places : List (K × ℕ)) → AreKeyed octets slots places → walked octets None slots path (filter (λ place. is_le (slice_cmp nat_cmp path (octets place.0)) && not (is_lt (slice_cmp nat_cmp path (octets place.0)))) places) ≡ ids_of (filter (λ row. is_named name row.entry) (rows_of slots (values_of places)))
    unfolding walked is_same
    walked-at places keyed =
        ap (λ (xs : List (K × ℕ)). values_of (filter (λ place. true) xs)) (front-at places keyed)
        ∙ ap values_of (filter_true (filter (λ (place : K × ℕ). is_le (slice_cmp nat_cmp path (octets place.0)) && not (is_lt (slice_cmp nat_cmp path (octets place.0)))) places))
        ∙ values-filter (λ place. is_le (slice_cmp nat_cmp path (octets place.0)) && not (is_lt (slice_cmp nat_cmp path (octets place.0)))) (λ row. is_named name row.entry) places
        (all_keyed (λ place. (is_le (slice_cmp nat_cmp path (octets place.0)) && not (is_lt (slice_cmp nat_cmp path (octets place.0)))) ≡ is_named name (row_at slots place.1).entry) (λ place e. rw (compares place e) (at_both (name_cmp name (name_of place)))) places keyed)

    -- after the name's own key, the first begins with it where an entry stands below
    none_below : (all : List Numbered) → AllByRecursion (λ row. stands_within name row ≡ false) all → has_below name (entries_of all) ≡ false
    none_below [] h = refl
    none_below (x ∷ all) h =
        (let here : is_below name x.entry.name ≡ false = below_between name x.entry.name ∙ and_right (not (not (is_before name x.entry.name))) (stands_within name x) h.0 in
        rw here (none_below all h.1))

    pub below-first : (places : List (K × ℕ)) → AreKeyed octets slots places → IsInOrder (entries_of (rows_of slots (values_of places))) → begins_first octets path (filter (λ place. is_lt (slice_cmp nat_cmp path (octets place.0)) && true) places) ≡ has_below name (entries_of (rows_of slots (values_of places)))
    below-first [] keyed o = refl
    below-first (x ∷ places) keyed o = by (cases_Bool (is_before name (name_of x))) (cases_Bool (is_prefix_of name (name_of x))) (below-first places keyed.1 o.1)
      where
        after : is_lt (slice_cmp nat_cmp path (octets x.0)) ≡ is_before name (name_of x)
        after = ap is_lt (compares x keyed.0)

        by : ((is_before name (name_of x) ≡ true) ⊎ (is_before name (name_of x) ≡ false)) → ((is_prefix_of name (name_of x) ≡ true) ⊎ (is_prefix_of name (name_of x) ≡ false)) → begins_first octets path (filter (λ place. is_lt (slice_cmp nat_cmp path (octets place.0)) && true) places) ≡ has_below name (entries_of (rows places)) → begins_first octets path (filter (λ place. is_lt (slice_cmp nat_cmp path (octets place.0)) && true) (x ∷ places)) ≡ has_below name (entries_of (rows (x ∷ places)))
        by (inl e) (inl f) later =
            let here = sym (below_like name (name_of x) e) ∙ f in
            rw (after, e, here) (starts x keyed.0 ∙ f)
        by (inl e) (inr f) later =
            let here = sym (below_like name (name_of x) e) ∙ f in
            rw (after, e, here) (starts x keyed.0 ∙ f ∙ sym (none_below (rows places) (not_within x places (before_not_back name (name_of x) e) f o.0)))
        by (inr e) f later =
            let out = after ∙ e in
            let here : is_below name (name_of x) ≡ false = rw e at (below_between name (name_of x)) in
            rw (out, here) later

-- a walk, step by step
pub walked-out : {K : Type 0} (octets : K → List ℕ) (depth : Option ℕ) (slots : List (Option EntryInformation)) (base : List ℕ) (place : K × ℕ) (places : List (K × ℕ)) → starts_with nat_eq (octets place.0) base ≡ false → walked octets depth slots base (place ∷ places) ≡ []
unfolding walked
walked-out octets depth slots base place places e = rw e refl

pub walked-here : {K : Type 0} (octets : K → List ℕ) (depth : Option ℕ) (slots : List (Option EntryInformation)) (base : List ℕ) (place : K × ℕ) (places : List (K × ℕ)) → starts_with nat_eq (octets place.0) base ≡ true → is_at_depth depth slots place.1 ≡ true → walked octets depth slots base (place ∷ places) ≡ place.1 ∷ walked octets depth slots base places
unfolding walked
walked-here octets depth slots base place places e f = rw (e, f) refl

pub walked-over : {K : Type 0} (octets : K → List ℕ) (depth : Option ℕ) (slots : List (Option EntryInformation)) (base : List ℕ) (place : K × ℕ) (places : List (K × ℕ)) → starts_with nat_eq (octets place.0) base ≡ true → is_at_depth depth slots place.1 ≡ false → walked octets depth slots base (place ∷ places) ≡ walked octets depth slots base places
unfolding walked
walked-over octets depth slots base place places e f = rw (e, f) refl

pub walked-none : {K : Type 0} (octets : K → List ℕ) (depth : Option ℕ) (slots : List (Option EntryInformation)) (base : List ℕ) → walked octets depth slots base [] ≡ []
unfolding walked
walked-none octets depth slots base = refl

-- what is behind a test of nothing
pub filter_and_true : (test : Numbered → Bool) (rows : List Numbered) → filter (λ row. test row && true) rows ≡ filter test rows
filter_and_true test [] = refl
filter_and_true test (x ∷ rows) = by (test x) (filter_and_true test rows)
  where
    by : (b : Bool) → filter (λ row. test row && true) rows ≡ filter test rows → cond (b && true) (x ∷ filter (λ row. test row && true) rows) (filter (λ row. test row && true) rows) ≡ cond b (x ∷ filter test rows) (filter test rows)
    by true later = ap (λ (xs : List Numbered). x ∷ xs) later
    by false later = later

-- no scope takes in more than all, and one
pub filter_fits : (test : Numbered → Bool) (rows : List Numbered) → length (ids_of (filter test rows)) ≤ length rows
filter_fits test [] = omega arith
filter_fits test (x ∷ rows) =
    let less = filter_fits test rows in
    cond_both (test x) (x ∷ filter test rows) (filter test rows) (λ xs. length (ids_of xs) ≤ suc (length rows)) (λ _. omega arith) (λ _. omega arith)

pub scoped-fits : (scope : Scope) (id : ℕ) (base : Option EntryInformation) (rows : List Numbered) → length rows ≤ 200000 → length (in_scope scope id base rows) ≤ 200000
scoped-fits scope id None rows h = omega arith
scoped-fits Base id (Some base) rows h = omega arith
scoped-fits One id (Some base) rows h = (let less = filter_fits (λ row. is_child base.name row.entry) rows in omega arith)
scoped-fits Sub id (Some base) rows h = (let less = filter_fits (λ row. is_within base.name row.entry) rows in omega arith)
