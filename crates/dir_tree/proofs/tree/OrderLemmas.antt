-- Entries in the order of their names: found, put in and taken out.
use Rattle.std.proofs.Common.{◌≡◌, inl, inr, Bool, true, false, cond, List, [], ◌∷◌, ◌++◌, Some, if◌then◌else◌, refl, sym, ap, subst, ◌∙◌}
use Rattle.std.specs.List.{AllByRecursion}
use Rattle.std.specs.Ordering.{is_lt}
use Rattle.std.proofs.lemmas.Bool.{cases_Bool, cond-true, cond-false, cond_both, false_from_ne_true, or_parts, or_from}
use Rattle.std.proofs.lemmas.Option.{same_Some}
use Rattle.std.specs.declared.cmp.Ordering.TheVariants.{Less}
use Rattle.dn_names.specs.name.Names.{RdnSequence}
use Rattle.dn_names.specs.NameOrder.{name_cmp, is_same}
use Rattle.dir_tree.specs.Entry.{EntryInformation}
use Rattle.dir_tree.specs.tree.Trees.{is_before, is_named, has_name, named_in, put_in, taken_out, IsInOrder}
use Rattle.dir_tree.proofs.tree.NameLemmas.{before_chain, before_not_back, before_not_same, same_itself, same_back, which_first}

-- what holds of all, and of one that is put in, holds of all with it
pub all_put : (P : EntryInformation → Type 0) (entry : EntryInformation) (entries : List EntryInformation) → P entry → AllByRecursion P entries → AllByRecursion P (put_in entry entries)
all_put P entry [] p h = (p, tt)
all_put P entry (x ∷ entries) p h =
    let later = all_put P entry entries p h.1 in
    cond_both (is_before x.name entry.name) (x ∷ put_in entry entries) (entry ∷ x ∷ entries) (λ xs. AllByRecursion P xs) (λ _. (h.0, later)) (λ _. (p, h))

-- and of the one put in, and of those beside it
pub all_put_back : (P : EntryInformation → Type 0) (entry : EntryInformation) (entries : List EntryInformation) → AllByRecursion P (put_in entry entries) → P entry
all_put_back P entry [] h = h.0
all_put_back P entry (x ∷ entries) h = by (is_before x.name entry.name) (all_put_back P entry entries) h
  where
    by : (b : Bool) → (AllByRecursion P (put_in entry entries) → P entry) → AllByRecursion P (cond b (x ∷ put_in entry entries) (entry ∷ x ∷ entries)) → P entry
    by true later k = later k.1
    by false later k = k.0

pub all_left : (P : EntryInformation → Type 0) (entry : EntryInformation) (entries : List EntryInformation) → AllByRecursion P (put_in entry entries) → AllByRecursion P entries
all_left P entry [] h = tt
all_left P entry (x ∷ entries) h = by (is_before x.name entry.name) (all_left P entry entries) h
  where
    by : (b : Bool) → (AllByRecursion P (put_in entry entries) → AllByRecursion P entries) → AllByRecursion P (cond b (x ∷ put_in entry entries) (entry ∷ x ∷ entries)) → AllByRecursion P (x ∷ entries)
    by true later k = (k.0, later k.1)
    by false later k = k.1

-- a name that comes before another is not the same
pub other_way : (name other : RdnSequence) → is_before other name ≡ true → is_same name other ≡ false
other_way name other e = false_from_ne_true (is_same name other) (λ f.
    let back = before_not_same other name e in
    let same = same_back name other f in
    absurd cc)

-- a name that neither comes after another nor is the same comes before it
pub comes_before : (name other : RdnSequence) → is_before other name ≡ false → is_same name other ≡ false → is_before name other ≡ true
comes_before name other e f = elim (which_first name other) [
  | inl before ↦ before
  | inr (inl same) ↦ absurd cc
  | inr (inr after) ↦ absurd cc
]

-- a name before the first is none of theirs
pub absent_before : (name : RdnSequence) (first : EntryInformation) (rest : List EntryInformation) → is_before name first.name ≡ true → AllByRecursion (λ later. name_cmp first.name later.name ≡ Less) rest → has_name name rest ≡ false
absent_before name first [] e h = refl
absent_before name first (x ∷ rest) e h =
    let before = before_chain name first.name x.name e (ap is_lt h.0) in
    or_from (is_named name x) (has_name name rest) (before_not_same name x.name before) (absent_before name first rest e h.1)

-- nor does one that comes after an entry of a name have it
pub none_after : (entry : EntryInformation) (entries : List EntryInformation) → AllByRecursion (λ later. name_cmp entry.name later.name ≡ Less) entries → has_name entry.name entries ≡ false
none_after entry [] h = refl
none_after entry (x ∷ entries) h = or_from (is_named entry.name x) (has_name entry.name entries) (before_not_same entry.name x.name (ap is_lt h.0)) (none_after entry entries h.1)

-- an absent name takes nothing out
pub taken_out-absent : (name : RdnSequence) (entries : List EntryInformation) → has_name name entries ≡ false → taken_out name entries ≡ entries
taken_out-absent name [] h = refl
taken_out-absent name (x ∷ entries) h =
    let parts = or_parts (is_named name x) (has_name name entries) h in
    rw parts.0 (ap (λ (xs : List EntryInformation). x ∷ xs) (taken_out-absent name entries parts.1))

-- what was just put in can be taken out
pub taken_out-put_in : (entry : EntryInformation) (entries : List EntryInformation) → has_name entry.name entries ≡ false → taken_out entry.name (put_in entry entries) ≡ entries
taken_out-put_in entry [] h = rw (same_itself entry.name) refl
taken_out-put_in entry (x ∷ entries) h =
    let parts = or_parts (is_named entry.name x) (has_name entry.name entries) h in
    elim (cases_Bool (is_before x.name entry.name)) [
      | inl e ↦ rw (e, parts.0) (ap (λ (xs : List EntryInformation). x ∷ xs) (taken_out-put_in entry entries parts.1))
      | inr e ↦ rw (e, same_itself entry.name) (taken_out-absent entry.name (x ∷ entries) h)
    ]

-- an entry that comes before all is put first
pub put_in-first : (entry : EntryInformation) (entries : List EntryInformation) → AllByRecursion (λ later. name_cmp entry.name later.name ≡ Less) entries → put_in entry entries ≡ entry ∷ entries
put_in-first entry [] h = refl
put_in-first entry (x ∷ entries) h = rw (before_not_back entry.name x.name (ap is_lt h.0)) refl

-- what holds of all holds of the one that is found
pub all_named : (P : EntryInformation → Type 0) (name : RdnSequence) (entry : EntryInformation) (entries : List EntryInformation) → AllByRecursion P entries → named_in name entries ≡ Some entry → P entry
all_named P name entry [] h e = absurd cc
all_named P name entry (x ∷ entries) h e = elim (cases_Bool (is_named name x)) [
  | inl f ↦ (
      let is = same_Some x entry (sym (cond-true (is_named name x) (Some x) (named_in name entries) f) ∙ e) in
      rw (← is) h.0)
  | inr f ↦ all_named P name entry entries h.1 (sym (cond-false (is_named name x) (Some x) (named_in name entries) f) ∙ e)
]

-- what is there can be taken out and put in again
pub put_in-taken_out : (entry : EntryInformation) (entries : List EntryInformation) → IsInOrder entries → named_in entry.name entries ≡ Some entry → put_in entry (taken_out entry.name entries) ≡ entries
put_in-taken_out entry [] o f = absurd cc
put_in-taken_out entry (x ∷ entries) o f = elim (cases_Bool (is_named entry.name x)) [
  | inl e ↦ (
      let is = same_Some x entry (sym (cond-true (is_named entry.name x) (Some x) (named_in entry.name entries) e) ∙ f) in
      let after : AllByRecursion (λ (later : EntryInformation). name_cmp entry.name later.name ≡ Less) entries = rw (← is) o.0 in
      let absent = none_after entry entries after in
      rw (e, taken_out-absent entry.name entries absent) (put_in-first entry entries after ∙ ap (λ (one : EntryInformation). one ∷ entries) (sym is)))
  | inr e ↦ (
      let known = sym (cond-false (is_named entry.name x) (Some x) (named_in entry.name entries) e) ∙ f in
      let less = all_named (λ (later : EntryInformation). name_cmp x.name later.name ≡ Less) entry.name entry entries o.0 known in
      let before : is_before x.name entry.name ≡ true = ap is_lt less in
      rw (e, before) (ap (λ (xs : List EntryInformation). x ∷ xs) (put_in-taken_out entry entries o.1 known)))
]

-- where an entry stands that is put in, or taken out
pub record IsPut (entry : EntryInformation) (entries new_entries : List EntryInformation) : Type 0 where
  pub front : List EntryInformation
  pub back : List EntryInformation
  pub old : entries ≡ front ++ back
  pub new : new_entries ≡ front ++ entry ∷ back

pub is_put : (entry : EntryInformation) (entries : List EntryInformation) → IsPut entry entries (put_in entry entries)
is_put entry [] = record { front = []; back = []; old = refl; new = refl }
is_put entry (first ∷ rest) =
    let later = is_put entry rest in
    elim (is_before first.name entry.name)
    as (λ b. IsPut entry (first ∷ rest) (if b then first ∷ put_in entry rest else entry ∷ first ∷ rest)) [
      | true ↦ record {
        front = first ∷ later.front;
        back = later.back;
        old = ap (λ entries. first ∷ entries) later.old;
        new = ap (λ entries. first ∷ entries) later.new;
      }
      | false ↦ record { front = []; back = first ∷ rest; old = refl; new = refl }
    ]

pub taken_at : (entry : EntryInformation) (entries : List EntryInformation) → IsInOrder entries → named_in entry.name entries ≡ Some entry → IsPut entry (taken_out entry.name entries) entries
taken_at entry entries sorted known =
    subst (λ (all : List EntryInformation). IsPut entry (taken_out entry.name entries) all) (put_in-taken_out entry entries sorted known)
    (is_put entry (taken_out entry.name entries))
