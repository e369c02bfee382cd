-- What is true of each value of an entry stays true of each, whatever values come of which it is true, and whatever go.
use Rattle.std.proofs.Common.{◌≡◌, ℕ, ◌==◌, Bool, true, false, not, if◌then◌else◌, List, [], ◌∷◌, ◌++◌, find, map, Some, Option, refl, subst}
use Rattle.std.specs.List.{AllByRecursion}
use Rattle.std.specs.Str.{bytes_eq}
use Rattle.std.proofs.lemmas.Bool.{eqb-true}
use Rattle.dir_tree.proofs.base_laws_proofs.Theorems.{all_append, all_filter}
use Rattle.dir_tree.specs.dn_names.name.Names.{Keyed, TypeAndValue, RdnSequence, last_rdn}
use Rattle.dir_tree.specs.Entry.{Attribute, EntryInformation, values_of, has_key}
use Rattle.dir_tree.specs.attributes.Changes.{put_value, with_value, set_in, without_key, cut_attribute, is_filled, without_value, without_kind}
use Rattle.dir_tree.specs.tree.Trees.{is_named, is_before, put_in, taken_out}
use Rattle.data_file.specs.ldif_load.load.Loading.{with_pairs, with_own_values}
use Rattle.entry_changes.specs.declared.kind.ChangeKind.{ChangeKind}
use Rattle.entry_changes.specs.declared.kind.ChangeKind.TheVariants as change_kind
use Rattle.entry_changes.specs.Change.{Asker, Modification, with_each, without_each, left_by, made}
use Rattle.entry_changes.specs.Renaming.{gone_pairs, without_pairs, renamed_entry}
use Rattle.change_laws.specs.Changing.{MayChangeEach}

-- a test chooses one of two of which it is true
by_test : {A : Type 0} (P : A → Type 0) (test : Bool) (one other : A) → P one → P other → P (if test then one else other)
by_test P true one other first second = first
by_test P false one other first second = second

module _ (P : ℕ → Keyed → Type 0) where
  -- of each value of attributes
  abbrev pub AllValues : List Attribute → Type 0
  AllValues attributes = AllByRecursion (λ attribute. AllByRecursion (P attribute.kind) attribute.values) attributes

  -- and of those of an entry
  abbrev pub HasAll : EntryInformation → Type 0
  HasAll entry = AllValues entry.attributes

  -- ---- values that come

  put_here : (mine : Bool) (kind : ℕ) (value : Keyed) (first : Attribute) (rest later : List Attribute) → (kind == first.kind) ≡ mine
      → P kind value → AllValues (first ∷ rest) → AllValues later
      → AllValues (if mine then record first { values = first.values ++ value ∷ [] } ∷ rest else first ∷ later)
  put_here true kind value first rest later same is all more =
      let kinds : kind ≡ first.kind = eqb-true kind first.kind same in
      (all_append (P first.kind) first.values (value ∷ []) all.0 (subst (λ number. P number value) kinds is, tt), all.1)
  put_here false kind value first rest later same is all more = (all.0, more)

  all-put_value : (kind : ℕ) (value : Keyed) (attributes : List Attribute) → P kind value → AllValues attributes → AllValues (put_value kind value attributes)
  all-put_value kind value [] is all = ((is, tt), tt)
  all-put_value kind value (first ∷ rest) is all = put_here (kind == first.kind) kind value first rest (put_value kind value rest) refl is all (all-put_value kind value rest is all.1)

  all-with_value : (kind : ℕ) (value : Keyed) (entry : EntryInformation) → P kind value → HasAll entry → HasAll (with_value kind value entry)
  all-with_value kind value entry is all =
      by_test HasAll (has_key value.key (values_of kind entry.attributes)) entry (record entry { attributes = put_value kind value entry.attributes })
      all (all-put_value kind value entry.attributes is all)

  all-with_each : (kind : ℕ) (values : List Keyed) (entry : EntryInformation) → AllByRecursion (P kind) values → HasAll entry → HasAll (with_each kind values entry)
  all-with_each kind [] entry each all = all
  all-with_each kind (value ∷ values) entry each all = all-with_each kind values (with_value kind value entry) each.1 (all-with_value kind value entry each.0 all)

  set_here : (mine : Bool) (kind : ℕ) (values : List Keyed) (first : Attribute) (rest later : List Attribute) → (kind == first.kind) ≡ mine
      → AllByRecursion (P kind) values → AllValues (first ∷ rest) → AllValues later
      → AllValues (if mine then record first { values = values } ∷ rest else first ∷ later)
  set_here true kind values first rest later same each all more =
      (subst (λ number. AllByRecursion (P number) values) (eqb-true kind first.kind same) each, all.1)
  set_here false kind values first rest later same each all more = (all.0, more)

  all-set_in : (kind : ℕ) (values : List Keyed) (attributes : List Attribute) → AllByRecursion (P kind) values → AllValues attributes → AllValues (set_in kind values attributes)
  all-set_in kind values [] each all = (each, tt)
  all-set_in kind values (first ∷ rest) each all = set_here (kind == first.kind) kind values first rest (set_in kind values rest) refl each all (all-set_in kind values rest each all.1)

  pub all-with_pairs : (pairs : List TypeAndValue) (entry : EntryInformation) → AllByRecursion (λ pair. P pair.kind pair.value) pairs → HasAll entry → HasAll (with_pairs entry pairs)
  unfolding with_pairs
  all-with_pairs [] entry each all = all
  all-with_pairs (pair ∷ pairs) entry each all = all-with_pairs pairs (with_value pair.kind pair.value entry) each.1 (all-with_value pair.kind pair.value entry each.0 all)

  -- ---- values that go

  cut_one : (kind : ℕ) (key : List ℕ) (attribute : Attribute) → AllByRecursion (P attribute.kind) attribute.values
      → AllByRecursion (P (cut_attribute kind key attribute).kind) (cut_attribute kind key attribute).values
  cut_one kind key attribute all =
      by_test (λ (one : Attribute). AllByRecursion (P one.kind) one.values) (kind == attribute.kind) (record attribute { values = without_key key attribute.values }) attribute
      (all_filter (P attribute.kind) (λ value. not (bytes_eq key value.key)) attribute.values all) all

  cut_each : (kind : ℕ) (key : List ℕ) (attributes : List Attribute) → AllValues attributes → AllValues (map (cut_attribute kind key) attributes)
  cut_each kind key [] all = tt
  cut_each kind key (first ∷ rest) all = (cut_one kind key first all.0, cut_each kind key rest all.1)

  all-without_value : (kind : ℕ) (key : List ℕ) (entry : EntryInformation) → HasAll entry → HasAll (without_value kind key entry)
  all-without_value kind key entry all =
      all_filter (λ attribute. AllByRecursion (P attribute.kind) attribute.values) is_filled (map (cut_attribute kind key) entry.attributes) (cut_each kind key entry.attributes all)

  all-without_each : (kind : ℕ) (values : List Keyed) (entry : EntryInformation) → HasAll entry → HasAll (without_each kind values entry)
  all-without_each kind [] entry all = all
  all-without_each kind (value ∷ values) entry all = all-without_each kind values (without_value kind value.key entry) (all-without_value kind value.key entry all)

  all-without_kind : (kind : ℕ) (entry : EntryInformation) → HasAll entry → HasAll (without_kind kind entry)
  all-without_kind kind entry all =
      all_filter (λ attribute. AllByRecursion (P attribute.kind) attribute.values) (λ attribute. not (kind == attribute.kind)) entry.attributes all

  all-without_pairs : (entry : EntryInformation) (pairs : List TypeAndValue) → HasAll entry → HasAll (without_pairs entry pairs)
  unfolding without_pairs
  all-without_pairs entry [] all = all
  all-without_pairs entry (pair ∷ pairs) all = all-without_pairs (without_value pair.kind pair.value.key entry) pairs (all-without_value pair.kind pair.value.key entry all)

  -- ---- changes

  all-left_by : (change : ChangeKind) (kind : ℕ) (values : List Keyed) (entry : EntryInformation) → AllByRecursion (P kind) values → HasAll entry
      → HasAll (left_by change kind values entry)
  all-left_by change_kind.Add kind values entry each all = all-with_each kind values entry each all
  all-left_by change_kind.Delete kind [] entry each all = all-without_kind kind entry all
  all-left_by change_kind.Delete kind (value ∷ values) entry each all = all-without_each kind (value ∷ values) entry all
  all-left_by change_kind.Replace kind [] entry each all = all-without_kind kind entry all
  all-left_by change_kind.Replace kind (value ∷ values) entry each all = all-set_in kind (value ∷ values) entry.attributes each all

  -- the values of changes
  abbrev pub AllChanged : List Modification → Type 0
  AllChanged changes = AllByRecursion (λ change. AllByRecursion (P change.kind) change.values) changes

  pub all-changed : (asker : Asker) (entry : EntryInformation) (changes : List Modification) (left : EntryInformation) → AllChanged changes → HasAll entry
      → MayChangeEach asker entry changes left → HasAll left
  all-changed asker entry [] left each all is = subst HasAll is all
  all-changed asker entry (change ∷ changes) left each all may =
      all-changed asker (made change entry) changes left each.1 (all-left_by change.change change.kind change.values entry each.0 all) may.1

  -- another name
  pub all-renamed : (name : RdnSequence) (delete_old : Bool) (entry : EntryInformation) → AllByRecursion (λ pair. P pair.kind pair.value) (last_rdn name) → HasAll entry
      → HasAll (renamed_entry name delete_old entry)
  unfolding renamed_entry
  all-renamed name delete_old entry own all =
      let came : EntryInformation = with_own_values (record entry { name = name }) in
      let here : HasAll came = all-with_pairs (last_rdn name) (record entry { name = name }) own all in
      by_test HasAll delete_old (without_pairs came (gone_pairs entry.name name)) came (all-without_pairs came (gone_pairs entry.name name) here) here

-- ---- entries

module _ (P : EntryInformation → Type 0) where
  put_or_not : (test : Bool) (entry first : EntryInformation) (rest later : List EntryInformation) → P entry → AllByRecursion P (first ∷ rest) → AllByRecursion P later
      → AllByRecursion P (if test then first ∷ later else entry ∷ first ∷ rest)
  put_or_not true entry first rest later is all more = (all.0, more)
  put_or_not false entry first rest later is all more = (is, all)

  pub all-put_in : (entry : EntryInformation) (entries : List EntryInformation) → P entry → AllByRecursion P entries → AllByRecursion P (put_in entry entries)
  all-put_in entry [] is all = (is, tt)
  all-put_in entry (first ∷ rest) is all =
      put_or_not (is_before first.name entry.name) entry first rest (put_in entry rest) is all (all-put_in entry rest is all.1)

  -- of the one that was put in
  taken_back : (test : Bool) (entry first : EntryInformation) (rest later : List EntryInformation) → (AllByRecursion P later → P entry)
      → AllByRecursion P (if test then first ∷ later else entry ∷ first ∷ rest) → P entry
  taken_back true entry first rest later there all = there all.1
  taken_back false entry first rest later there all = all.0

  pub put_in-has : (entry : EntryInformation) (entries : List EntryInformation) → AllByRecursion P (put_in entry entries) → P entry
  put_in-has entry [] all = all.0
  put_in-has entry (first ∷ rest) all = taken_back (is_before first.name entry.name) entry first rest (put_in entry rest) (put_in-has entry rest) all

  pub all-taken_out : (name : RdnSequence) (entries : List EntryInformation) → AllByRecursion P entries → AllByRecursion P (taken_out name entries)
  all-taken_out name entries all = all_filter P (λ entry. not (is_named name entry)) entries all

  -- of one that is found
  found_or_later : (test : Bool) (first target : EntryInformation) (later : Option EntryInformation) → P first → (later ≡ Some target → P target)
      → (if test then Some first else later) ≡ Some target → P target
  found_or_later true first target later is there e = (let same : first ≡ target = cc in subst P same is)
  found_or_later false first target later is there e = there e

  pub all-found : (test : EntryInformation → Bool) (entries : List EntryInformation) (target : EntryInformation) → AllByRecursion P entries → find test entries ≡ Some target → P target
  all-found test [] target all e = absurd cc
  all-found test (first ∷ rest) target all e = found_or_later (test first) first target (find test rest) all.0 (all-found test rest target all.1) e
