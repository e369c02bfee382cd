-- The map from path keys to numbers: what is found in it, and how it changes as the rows do.
use Rattle.std.proofs.Common.{◌≡◌, ◌⊎◌, inl, inr, ℕ, Bool, true, false, cond, List, [], ◌∷◌, Option, refl, sym, ap, ◌∙◌, insert, remove, Ordering}
use Rattle.std.specs.List.{AllByRecursion, starts_with}
use Rattle.std.specs.Prelude.{nat_eq}
use Rattle.std.specs.Ordering.{nat_cmp, is_eq, is_lt, match_ordering}
use Rattle.std.specs.Map.{values_of, lookup, remove_entry}
use Rattle.std.specs.BTreeMap.{insert_entry, is_at}
use Rattle.std.specs.Cmp.Lexicographic.{slice_cmp}
use Rattle.std.specs.declared.cmp.Ordering.TheVariants.{Less, Equal, Greater}
use Rattle.std.proofs.lemmas.Bool.{cases_Bool, false_from_ne_true, or_parts, cond-false}
use Rattle.std.proofs.lemmas.Bool.Decides.{Decides-eqb}
use Rattle.std.proofs.lemmas.Slice.Eq.{starts_is}
use Rattle.dn_names.specs.name.Names.{RdnSequence}
use Rattle.dn_names.specs.NameOrder.{name_cmp, is_same, is_prefix_of}
use Rattle.dn_names.specs.path.PathKeys.{path_key}
use Rattle.dn_names.proofs.Theorems.{tied_octets, octets_cmp-path_key, is_prefix_of-path_key}
use Rattle.dir_tree.specs.Entry.{EntryInformation}
use Rattle.dir_tree.specs.tree.Trees.{is_named, is_before, has_name, IsInOrder}
use Rattle.dir_tree.specs.tree.Numbered.{Numbered, entries_of, find_name}
use Rattle.dir_tree.specs.slots.Places.{front_count, stands_before, place_of}
use Rattle.dir_tree.specs.slots.Slots.{row_at, rows_of}
use Rattle.dir_tree.specs.Maps.{AreKeyed}
use Rattle.dir_tree.proofs.tree.NameLemmas.{Less-from_before, Equal-from_same, same-from_Equal, is_gt-turned, before_chain, before_not_back, before_not_same, same_back, same_not_before}
use Rattle.dir_tree.proofs.tree.OrderLemmas.{absent_before}

-- the path keys of names that are the same are the same
pub path_key-same : (one other : RdnSequence) → is_same one other ≡ true → path_key one ≡ path_key other
path_key-same one other e = tied_octets (path_key one) (path_key other) (octets_cmp-path_key one other ∙ Equal-from_same one other e)

-- a path key begins with another where the name does
pub starts-prefix : (base name : RdnSequence) → starts_with nat_eq (path_key name) (path_key base) ≡ is_prefix_of base name
starts-prefix base name = by (cases_Bool (is_prefix_of base name))
  where
    by : ((is_prefix_of base name ≡ true) ⊎ (is_prefix_of base name ≡ false)) → starts_with nat_eq (path_key name) (path_key base) ≡ is_prefix_of base name
    by (inl f) =
        let rest = (is_prefix_of-path_key base name).0 f in
        (starts_is Decides-eqb (path_key name) (path_key base) (starts_with nat_eq (path_key name) (path_key base)) refl).1 rest.0 rest.1 ∙ sym f
    by (inr f) = false_from_ne_true (starts_with nat_eq (path_key name) (path_key base)) (λ t.
        let is = (is_prefix_of-path_key base name).1 (_, (starts_is Decides-eqb (path_key name) (path_key base) (starts_with nat_eq (path_key name) (path_key base)) refl).0 t) in
        absurd cc) ∙ sym f

-- octets compare as the names whose path keys they are
pub keys_cmp : (path key : List ℕ) (name other : RdnSequence) → path ≡ path_key name → key ≡ path_key other → slice_cmp nat_cmp path key ≡ name_cmp name other
keys_cmp path key name other e f = rw (e, f) (octets_cmp-path_key name other)

after_Greater : (one other : RdnSequence) → name_cmp one other ≡ Greater → is_before other one ≡ true
after_Greater one other e = sym (is_gt-turned one other) ∙ rw e refl

not_Greater : (one other : RdnSequence) → name_cmp one other ≡ Greater → is_same one other ≡ false
unfolding is_same
not_Greater one other e = ap is_eq e

module _ {K : Type 0} (octets : K → List ℕ) (slots : List (Option EntryInformation)) where
  -- how keys compare, and the rows of the map
  abbrev cmp : K → K → Ordering
  cmp one other = slice_cmp nat_cmp (octets one) (octets other)

  abbrev at : List ℕ → K → Bool
  at path = is_at (λ key. slice_cmp nat_cmp path (octets key))

  abbrev rows : List (K × ℕ) → List Numbered
  rows places = rows_of slots (values_of places)

  abbrev name_of : K × ℕ → RdnSequence
  name_of place = (row_at slots place.1).entry.name

  -- a name is found by its path key
  pub lookup-find_name : (path : List ℕ) (name : RdnSequence) (places : List (K × ℕ)) → path ≡ path_key name → AreKeyed octets slots places → lookup (is_at (λ key. slice_cmp nat_cmp path (octets key))) places ≡ find_name name (rows_of slots (values_of places))
  unfolding is_same
  lookup-find_name path name [] e keyed = refl
  lookup-find_name path name (x ∷ places) e keyed = by (name_cmp name (name_of x)) refl (lookup-find_name path name places e keyed.1)
    where
      by : (o : Ordering) → name_cmp name (name_of x) ≡ o → lookup (is_at (λ key. slice_cmp nat_cmp path (octets key))) places ≡ find_name name (rows_of slots (values_of places)) → lookup (is_at (λ key. slice_cmp nat_cmp path (octets key))) (x ∷ places) ≡ find_name name (rows_of slots (values_of (x ∷ places)))
      by Less f later = rw (keys_cmp path (octets x.0) name (name_of x) e keyed.0, f) later
      by Equal f later = rw (keys_cmp path (octets x.0) name (name_of x) e keyed.0, f) refl
      by Greater f later = rw (keys_cmp path (octets x.0) name (name_of x) e keyed.0, f) later

  -- a key put in for an absent name
  pub values-insert : (key : K) (name : RdnSequence) (id : ℕ) (places : List (K × ℕ)) → octets key ≡ path_key name → AreKeyed octets slots places → has_name name (entries_of (rows_of slots (values_of places))) ≡ false → values_of (insert_entry (λ one other. slice_cmp nat_cmp (octets one) (octets other)) places key id) ≡ insert (values_of places) (place_of name (rows_of slots (values_of places))) id
  unfolding place_of
  values-insert key name id [] e keyed none = refl
  values-insert key name id (x ∷ places) e keyed none = by (name_cmp name (name_of x)) refl (values-insert key name id places e keyed.1 (or_parts (is_named name (row_at slots x.1).entry) (has_name name (entries_of (rows places))) none).1)
    where
      none_here : is_named name (row_at slots x.1).entry ≡ false
      none_here = (or_parts (is_named name (row_at slots x.1).entry) (has_name name (entries_of (rows places))) none).0

      by : (o : Ordering) → name_cmp name (name_of x) ≡ o → values_of (insert_entry cmp places key id) ≡ insert (values_of places) (front_count (stands_before name) (rows places)) id → values_of (insert_entry cmp (x ∷ places) key id) ≡ insert (values_of (x ∷ places)) (front_count (stands_before name) (rows (x ∷ places))) id
      by Less f later = rw (keys_cmp (octets key) (octets x.0) name (name_of x) e keyed.0, f, before_not_back name (name_of x) (ap is_lt f)) refl
      by Equal f later = (let is = same-from_Equal name (name_of x) f in let is_not = none_here in absurd cc)
      by Greater f later = rw (keys_cmp (octets key) (octets x.0) name (name_of x) e keyed.0, f, after_Greater name (name_of x) f) (ap (λ (ids : List ℕ). x.1 ∷ ids) later)

  pub keyed-insert : (key : K) (id : ℕ) (places : List (K × ℕ)) → octets key ≡ path_key (row_at slots id).entry.name → AreKeyed octets slots places → AreKeyed octets slots (insert_entry (λ one other. slice_cmp nat_cmp (octets one) (octets other)) places key id)
  keyed-insert key id [] e keyed = (e, tt)
  keyed-insert key id (x ∷ places) e keyed = by (cmp key x.0) refl (keyed-insert key id places e keyed.1)
    where
      by : (o : Ordering) → cmp key x.0 ≡ o → AreKeyed octets slots (insert_entry cmp places key id) → AreKeyed octets slots (match_ordering o ((key, id) ∷ x ∷ places) ((x.0, id) ∷ places) (x ∷ insert_entry cmp places key id))
      by Less f later = (e, keyed)
      by Equal f later = (sym (tied_octets (octets key) (octets x.0) f) ∙ e, keyed.1)
      by Greater f later = (keyed.0, later)

  -- a key taken out
  pub keyed-remove : (test : K → Bool) (places : List (K × ℕ)) → AreKeyed octets slots places → AreKeyed octets slots (remove_entry test places)
  keyed-remove test [] keyed = tt
  keyed-remove test (x ∷ places) keyed = by (test x.0) (keyed-remove test places keyed.1)
    where
      by : (b : Bool) → AreKeyed octets slots (remove_entry test places) → AreKeyed octets slots (cond b places (x ∷ remove_entry test places))
      by true later = keyed.1
      by false later = (keyed.0, later)

  pub values-remove : (path : List ℕ) (name : RdnSequence) (places : List (K × ℕ)) → path ≡ path_key name → AreKeyed octets slots places → IsInOrder (entries_of (rows_of slots (values_of places))) → has_name name (entries_of (rows_of slots (values_of places))) ≡ true → values_of (remove_entry (is_at (λ key. slice_cmp nat_cmp path (octets key))) places) ≡ remove (values_of places) (place_of name (rows_of slots (values_of places)))
  unfolding place_of
  values-remove path name [] e keyed sorted there = absurd cc
  values-remove path name (x ∷ places) e keyed sorted there = by (name_cmp name (name_of x)) refl (λ is. values-remove path name places e keyed.1 sorted.1 is)
    where
      by : (o : Ordering) → name_cmp name (name_of x) ≡ o → (has_name name (entries_of (rows places)) ≡ true → values_of (remove_entry (at path) places) ≡ remove (values_of places) (front_count (stands_before name) (rows places))) → values_of (remove_entry (at path) (x ∷ places)) ≡ remove (values_of (x ∷ places)) (front_count (stands_before name) (rows (x ∷ places)))
      by Less f after =
          let here = before_not_same name (name_of x) (ap is_lt f) in
          let later = absent_before name (row_at slots x.1).entry (entries_of (rows places)) (ap is_lt f) sorted.0 in
          let is = rw (here, later) at there in
          absurd cc
      by Equal f after = rw (keys_cmp path (octets x.0) name (name_of x) e keyed.0, f, same_not_before (name_of x) name (same_back name (name_of x) (same-from_Equal name (name_of x) f))) refl
      by Greater f later =
          let after = after_Greater name (name_of x) f in
          let here : is_named name (row_at slots x.1).entry ≡ false = not_Greater name (name_of x) f in
          let is = rw here at there in
          rw (keys_cmp path (octets x.0) name (name_of x) e keyed.0, f, after) (ap (λ (ids : List ℕ). x.1 ∷ ids) (later is))

  -- a key put in before another goes, or after it
  insert-first : (key : K) (id : ℕ) (places : List (K × ℕ)) → AllByRecursion (λ place. slice_cmp nat_cmp (octets key) (octets place.0) ≡ Less) places → insert_entry (λ one other. slice_cmp nat_cmp (octets one) (octets other)) places key id ≡ (key, id) ∷ places
  insert-first key id [] h = refl
  insert-first key id (x ∷ places) h = rw h.0 refl

  all_left : (P : K × ℕ → Type 0) (test : K → Bool) (places : List (K × ℕ)) → AllByRecursion P places → AllByRecursion P (remove_entry test places)
  all_left P test [] h = tt
  all_left P test (x ∷ places) h = by (test x.0) (all_left P test places h.1)
    where
      by : (b : Bool) → AllByRecursion P (remove_entry test places) → AllByRecursion P (cond b places (x ∷ remove_entry test places))
      by true later = h.1
      by false later = (h.0, later)

  all_after : (key : K) (name first : RdnSequence) (places : List (K × ℕ)) → octets key ≡ path_key name → is_before name first ≡ true → AreKeyed octets slots places → AllByRecursion (λ later. name_cmp first later.name ≡ Less) (entries_of (rows_of slots (values_of places))) → AllByRecursion (λ place. slice_cmp nat_cmp (octets key) (octets place.0) ≡ Less) places
  all_after key name first [] e before keyed h = tt
  all_after key name first (x ∷ places) e before keyed h = (
    keys_cmp (octets key) (octets x.0) name (name_of x) e keyed.0 ∙ Less-from_before name (name_of x) (before_chain name first (name_of x) before (ap is_lt h.0)),
    all_after key name first places e before keyed.1 h.1,
  )

  pub insert-remove : (key : K) (id : ℕ) (test : K → Bool) (name : RdnSequence) (places : List (K × ℕ)) → octets key ≡ path_key name → test key ≡ false → AreKeyed octets slots places → IsInOrder (entries_of (rows_of slots (values_of places))) → has_name name (entries_of (rows_of slots (values_of places))) ≡ false → remove_entry test (insert_entry (λ one other. slice_cmp nat_cmp (octets one) (octets other)) places key id) ≡ insert_entry (λ one other. slice_cmp nat_cmp (octets one) (octets other)) (remove_entry test places) key id
  insert-remove key id test name [] e other keyed sorted none = rw other refl
  insert-remove key id test name (x ∷ places) e other keyed sorted none = by (name_cmp name (name_of x)) refl (cases_Bool (test x.0)) (insert-remove key id test name places e other keyed.1 sorted.1 (or_parts (is_named name (row_at slots x.1).entry) (has_name name (entries_of (rows places))) none).1)
    where
      none_here : is_named name (row_at slots x.1).entry ≡ false
      none_here = (or_parts (is_named name (row_at slots x.1).entry) (has_name name (entries_of (rows places))) none).0

      as_names : cmp key x.0 ≡ name_cmp name (name_of x)
      as_names = keys_cmp (octets key) (octets x.0) name (name_of x) e keyed.0

      by : (o : Ordering) → name_cmp name (name_of x) ≡ o → ((test x.0 ≡ true) ⊎ (test x.0 ≡ false)) → remove_entry test (insert_entry cmp places key id) ≡ insert_entry cmp (remove_entry test places) key id → remove_entry test (insert_entry cmp (x ∷ places) key id) ≡ insert_entry cmp (remove_entry test (x ∷ places)) key id
      by Less f t later =
          let first = as_names ∙ f in
          let all : AllByRecursion (λ (place : K × ℕ). cmp key place.0 ≡ Less) (x ∷ places) = (first, all_after key name (name_of x) places e (ap is_lt f) keyed.1 sorted.0) in
          ap (remove_entry test) (insert-first key id (x ∷ places) all)
          ∙ cond-false (test key) (x ∷ places) ((key, id) ∷ remove_entry test (x ∷ places)) other
          ∙ sym (insert-first key id (remove_entry test (x ∷ places)) (all_left (λ (place : K × ℕ). cmp key place.0 ≡ Less) test (x ∷ places) all))
      by Equal f t later = (let is = same-from_Equal name (name_of x) f in let is_not = none_here in absurd cc)
      by Greater f (inl t) later = (let first = as_names ∙ f in rw (first, t) refl)
      by Greater f (inr t) later =
          let first = as_names ∙ f in
          rw (first, t, first) (ap (λ (all : List (K × ℕ)). x ∷ all) later)

-- slots that give the same rows keep the same keys
pub keyed-like : {K : Type 0} (octets : K → List ℕ) (slots other : List (Option EntryInformation)) (places : List (K × ℕ)) → rows_of other (values_of places) ≡ rows_of slots (values_of places) → AreKeyed octets slots places → AreKeyed octets other places
keyed-like octets slots other [] e keyed = tt
keyed-like octets slots other (x ∷ places) e keyed =
    let here : row_at other x.1 ≡ row_at slots x.1 = cc in
    let later : rows_of other (values_of places) ≡ rows_of slots (values_of places) = cc in
    (keyed.0 ∙ sym (ap (λ (row : Numbered). path_key row.entry.name) here), keyed-like octets slots other places later keyed.1)
