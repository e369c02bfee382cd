-- Walks that begin behind a name.
use Rattle.std.proofs.Common.{◌≡◌, ◌⊎◌, inl, inr, ℕ, ◌≤◌, Bool, true, false, ◌&&◌, List, [], ◌∷◌, length, Option, Some, refl, sym, ap, ◌∙◌, arith, filter}
use Rattle.std.specs.Prelude.{nat_eq}
use Rattle.std.specs.List.{starts_with}
use Rattle.std.specs.Ordering.{nat_cmp, is_lt}
use Rattle.std.specs.Cmp.Lexicographic.{slice_cmp}
use Rattle.std.specs.Map.{values_of}
use Rattle.std.proofs.lemmas.Bool.{cases_Bool, false_from_ne_true, true≢false}
use Rattle.std.proofs.lemmas.List.{length-map}
use Rattle.base_laws.proofs.Theorems.{all_map, filter-none, filter-filter}
use Rattle.dn_names.specs.name.Names.{RdnSequence}
use Rattle.dn_names.specs.NameOrder.{is_same, is_prefix_of}
use Rattle.dn_names.specs.path.PathKeys.{path_key}
use Rattle.dir_tree.specs.Entry.{EntryInformation}
use Rattle.dir_tree.specs.tree.Trees.{is_before, IsInOrder}
use Rattle.dir_tree.specs.tree.Numbered.{Numbered, ids_of, entries_of}
use Rattle.dir_tree.specs.Scope.{is_within, is_child, in_scope, in_scope_after}
use Rattle.dir_tree.specs.declared.scope.Scope.{Scope}
use Rattle.dir_tree.specs.declared.scope.Scope.TheVariants.{Base, One, Sub}
use Rattle.dir_tree.specs.slots.Slots.{row_at, rows_of}
use Rattle.dir_tree.specs.Maps.{AreKeyed}
use Rattle.dir_tree.specs.Walk.{is_one_below, is_at_depth, front_of, walked}
use Rattle.dir_tree.proofs.tree.NameLemmas.{prefix_between, before_chain, like_before}
use Rattle.dir_tree.proofs.tree.OrderLemmas.{comes_before}
use Rattle.dir_tree.proofs.walk.WalkLemmas.{values-filter, all_keyed, starts, compares, not_within, none_begin, filter_fits}

and_false : (b : Bool) → (b && false) ≡ false
and_false true = refl
and_false false = refl

and_swap : (a b c : Bool) → ((a && b) && c) ≡ ((a && c) && b)
and_swap true true c = sym (and_true c)
  where
    and_true : (b : Bool) → (b && true) ≡ b
    and_true true = refl
    and_true false = refl
and_swap true false c = sym (and_false c)
and_swap false b c = refl

-- tests that give the same answers keep the same rows
pub filter_like : (test other : Numbered → Bool) → ((row : Numbered) → test row ≡ other row) → (rows : List Numbered) → filter test rows ≡ filter other rows
filter_like test other is [] = refl
filter_like test other is (x ∷ rows) = rw (is x, filter_like test other is rows) refl

-- what comes after a name that does not come before the base does not come before it either
not_ahead : (after base name : RdnSequence) → is_before after base ≡ false → is_before after name ≡ true → is_before name base ≡ false
not_ahead after base name ahead behind =
    false_from_ne_true (is_before name base) (λ e. true≢false (sym (before_chain after name base behind e) ∙ ahead))

module _ {K : Type 0} (octets : K → List ℕ) (slots : List (Option EntryInformation)) (path key : List ℕ) (base after : RdnSequence) (is : path ≡ path_key base) (from : key ≡ path_key after) where
  abbrev at : K × ℕ → RdnSequence
  at place = (row_at slots place.1).entry.name

  behind : (place : K × ℕ) → octets place.0 ≡ path_key (row_at slots place.1).entry.name → is_lt (slice_cmp nat_cmp key (octets place.0)) ≡ is_before after (row_at slots place.1).entry.name
  behind place e = ap is_lt (compares octets slots key after from place e)

  -- behind a name that does not come before the base, those at the front whose keys the path begins are all
  front-after : is_before after base ≡ false → (places : List (K × ℕ)) → AreKeyed octets slots places → IsInOrder (entries_of (rows_of slots (values_of places))) → front_of octets path (filter (λ place. is_lt (slice_cmp nat_cmp key (octets place.0)) && true) places) ≡ filter (λ place. starts_with nat_eq (octets place.0) path && is_lt (slice_cmp nat_cmp key (octets place.0))) places
  front-after ahead [] keyed o = refl
  front-after ahead (x ∷ places) keyed o = by (cases_Bool (is_before after (at x))) (cases_Bool (is_prefix_of base (at x))) (front-after ahead places keyed.1 o.1)
    where
      by : ((is_before after (at x) ≡ true) ⊎ (is_before after (at x) ≡ false)) → ((is_prefix_of base (at x) ≡ true) ⊎ (is_prefix_of base (at x) ≡ false)) → front_of octets path (filter (λ place. is_lt (slice_cmp nat_cmp key (octets place.0)) && true) places) ≡ filter (λ place. starts_with nat_eq (octets place.0) path && is_lt (slice_cmp nat_cmp key (octets place.0))) places → front_of octets path (filter (λ place. is_lt (slice_cmp nat_cmp key (octets place.0)) && true) (x ∷ places)) ≡ filter (λ place. starts_with nat_eq (octets place.0) path && is_lt (slice_cmp nat_cmp key (octets place.0))) (x ∷ places)
      by (inr e) f later =
          let out : is_lt (slice_cmp nat_cmp key (octets x.0)) ≡ false = behind x keyed.0 ∙ e in
          rw (out, and_false (starts_with nat_eq (octets x.0) path)) later
      by (inl e) (inl f) later =
          let within : is_lt (slice_cmp nat_cmp key (octets x.0)) ≡ true = behind x keyed.0 ∙ e in
          let yes : starts_with nat_eq (octets x.0) path ≡ true = starts octets slots path base is x keyed.0 ∙ f in
          rw (within, yes) (ap (λ (xs : List (K × ℕ)). x ∷ xs) later)
      by (inl e) (inr f) later =
          let within : is_lt (slice_cmp nat_cmp key (octets x.0)) ≡ true = behind x keyed.0 ∙ e in
          let no : starts_with nat_eq (octets x.0) path ≡ false = starts octets slots path base is x keyed.0 ∙ f in
          let none = none_begin octets slots path base is places keyed.1 (not_within octets slots path base is x places (not_ahead after base (at x) ahead e) f o.0) in
          rw (within, no) (sym (filter-none (λ (place : K × ℕ). starts_with nat_eq (octets place.0) path && is_lt (slice_cmp nat_cmp key (octets place.0))) places
          (all_map (λ (place : K × ℕ). starts_with nat_eq (octets place.0) path ≡ false) (λ (place : K × ℕ). (starts_with nat_eq (octets place.0) path && is_lt (slice_cmp nat_cmp key (octets place.0))) ≡ false)
          (λ place g. ap (λ (b : Bool). b && is_lt (slice_cmp nat_cmp key (octets place.0))) g) places none)))

  pub walked-after : is_before after base ≡ false → (depth : Option ℕ) (places : List (K × ℕ)) → AreKeyed octets slots places → IsInOrder (entries_of (rows_of slots (values_of places))) → walked octets depth slots path (filter (λ place. is_lt (slice_cmp nat_cmp key (octets place.0)) && true) places) ≡ ids_of (filter (λ row. (is_within base row.entry && is_one_below depth row.entry.name) && is_before after row.entry.name) (rows_of slots (values_of places)))
  unfolding walked
  walked-after ahead depth places keyed o =
      ap (λ (xs : List (K × ℕ)). values_of (filter (λ place. is_at_depth depth slots place.1) xs)) (front-after ahead places keyed o)
      ∙ ap values_of (filter-filter (λ (place : K × ℕ). is_at_depth depth slots place.1) (λ place. starts_with nat_eq (octets place.0) path && is_lt (slice_cmp nat_cmp key (octets place.0))) places)
      ∙ values-filter octets slots (λ place. (starts_with nat_eq (octets place.0) path && is_lt (slice_cmp nat_cmp key (octets place.0))) && is_at_depth depth slots place.1) (λ row. (is_within base row.entry && is_one_below depth row.entry.name) && is_before after row.entry.name) places
      (all_keyed octets slots (λ place. ((starts_with nat_eq (octets place.0) path && is_lt (slice_cmp nat_cmp key (octets place.0))) && is_at_depth depth slots place.1) ≡ ((is_within base (row_at slots place.1).entry && is_one_below depth (row_at slots place.1).entry.name) && is_before after (row_at slots place.1).entry.name))
      (λ place e.
      ap (λ (b : Bool). (b && is_lt (slice_cmp nat_cmp key (octets place.0))) && is_at_depth depth slots place.1) (starts octets slots path base is place e)
      ∙ ap (λ (b : Bool). (is_prefix_of base (at place) && b) && is_at_depth depth slots place.1) (behind place e)
      ∙ and_swap (is_prefix_of base (at place)) (is_before after (at place)) (is_at_depth depth slots place.1))
      places keyed)

-- of a name that comes before the base, all that is within the base comes behind it
behind_within : (after base name : RdnSequence) → is_before after base ≡ true → is_prefix_of base name ≡ true → is_before after name ≡ true
behind_within after base name ahead within = by (cases_Bool (is_before name base)) (cases_Bool (is_same base name))
  where
    by : ((is_before name base ≡ true) ⊎ (is_before name base ≡ false)) → ((is_same base name ≡ true) ⊎ (is_same base name ≡ false)) → is_before after name ≡ true
    by (inl e) f = (let out = rw e at (sym (prefix_between base name) ∙ within) in absurd cc)
    by (inr e) (inl f) = sym (like_before base name after f) ∙ ahead
    by (inr e) (inr f) = before_chain after base name ahead (comes_before base name e f)

kept_behind : (after base name : RdnSequence) (more : Bool) → is_before after base ≡ true → (is_prefix_of base name && more) ≡ ((is_prefix_of base name && more) && is_before after name)
kept_behind after base name more ahead = by (cases_Bool (is_prefix_of base name))
  where
    and_true : (b : Bool) → b ≡ (b && true)
    and_true true = refl
    and_true false = refl

    by : ((is_prefix_of base name ≡ true) ⊎ (is_prefix_of base name ≡ false)) → (is_prefix_of base name && more) ≡ ((is_prefix_of base name && more) && is_before after name)
    by (inl e) = rw (behind_within after base name ahead e) (and_true (is_prefix_of base name && more))
    by (inr e) = rw e refl

pub in_scope-behind : (scope : Scope) (id : ℕ) (base : EntryInformation) (after : RdnSequence) (rows : List Numbered) → is_before after base.name ≡ true → in_scope scope id (Some base) rows ≡ in_scope_after scope id (Some base) after rows
in_scope-behind Base id base after rows ahead = rw ahead refl
in_scope-behind One id base after rows ahead =
    ap ids_of (filter_like (λ row. is_child base.name row.entry) (λ row. is_child base.name row.entry && is_before after row.entry.name)
    (λ row. kept_behind after base.name row.entry.name (is_one_below (Some (length base.name)) row.entry.name) ahead) rows)
in_scope-behind Sub id base after rows ahead =
    ap ids_of (filter_like (λ row. is_within base.name row.entry) (λ row. is_within base.name row.entry && is_before after row.entry.name)
    (λ row. whole row.entry.name) rows)
  where
    whole : (name : RdnSequence) → is_prefix_of base.name name ≡ (is_prefix_of base.name name && is_before after name)
    whole name = by (cases_Bool (is_prefix_of base.name name))
      where
        by : ((is_prefix_of base.name name ≡ true) ⊎ (is_prefix_of base.name name ≡ false)) → is_prefix_of base.name name ≡ (is_prefix_of base.name name && is_before after name)
        by (inl e) = rw (e, behind_within after base.name name ahead e) refl
        by (inr e) = rw e refl

-- what is kept of all entries is no more than they are
pub kept_fits : (walk : List ℕ) (test : Numbered → Bool) (rows : List Numbered) → walk ≡ ids_of (filter test rows) → length (entries_of rows) ≤ 200000 → length walk ≤ 200000
kept_fits walk test rows is fits =
    let all : length (entries_of rows) ≡ length rows = length-map rows (λ (row : Numbered). row.entry) in
    omega (arith, ap length is, filter_fits test rows, all, fits)
