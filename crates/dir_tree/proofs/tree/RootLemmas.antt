-- The order and the superiors stay where an entry is put in, taken out or changed.
use Rattle.std.proofs.Common.{◌≡◌, ◌≢◌, ◌⊎◌, inl, inr, Bool, true, false, cond, ◌||◌, List, [], ◌∷◌, length, take, refl, sym, ap, ◌∙◌, arith}
use Rattle.std.specs.List.{AllByRecursion, list_any}
use Rattle.std.specs.Ordering.{is_lt}
use Rattle.std.proofs.lemmas.Bool.{cases_Bool, true≢false, cond_both, false_from_ne_true, or_parts, or_left, or_right, or_cases, or_from}
use Rattle.std.specs.declared.cmp.Ordering.TheVariants.{Less}
use Rattle.base_laws.proofs.Theorems.{all_map}
use Rattle.dn_names.specs.name.Names.{RdnSequence}
use Rattle.dn_names.specs.NameOrder.{name_cmp, is_same, is_prefix_of}
use Rattle.dir_tree.specs.Entry.{EntryInformation}
use Rattle.dir_tree.specs.tree.Trees.{is_before, is_below, is_named, has_name, has_below, superior_name, put_in, IsInOrder}
use Rattle.dir_tree.specs.slots.Slots.{has_before, HasSuperiors}
use Rattle.dir_tree.proofs.tree.NameLemmas.{Less-from_before, before_chain, before_not_back, before_not_itself, before_not_same, before_like, same_back, same_like, like_same, same-superior, length-same, same-take, superior_before, below_superior}
use Rattle.dir_tree.proofs.tree.OrderLemmas.{all_put, all_put_back, all_left, comes_before, none_after}

-- a test of the entries with one put in
or_swap : (a b c : Bool) → (a || (b || c)) ≡ (b || (a || c))
or_swap true true c = refl
or_swap true false c = refl
or_swap false true c = refl
or_swap false false c = refl

pub any_put : (test : EntryInformation → Bool) (entry : EntryInformation) (entries : List EntryInformation) → list_any test (put_in entry entries) ≡ (test entry || list_any test entries)
any_put test entry [] = refl
any_put test entry (x ∷ entries) = by (is_before x.name entry.name) (any_put test entry entries)
  where
    by : (b : Bool) → list_any test (put_in entry entries) ≡ (test entry || list_any test entries) → list_any test (cond b (x ∷ put_in entry entries) (entry ∷ x ∷ entries)) ≡ (test entry || (test x || list_any test entries))
    by true later = ap (λ (t : Bool). test x || t) later ∙ or_swap (test x) (test entry) (list_any test entries)
    by false later = refl

any_like : (test other : EntryInformation → Bool) → ((entry : EntryInformation) → test entry ≡ other entry) → (entries : List EntryInformation) → list_any test entries ≡ list_any other entries
any_like test other f [] = refl
any_like test other f (x ∷ entries) = rw (f x, any_like test other f entries) refl

pub has_name_like : (name other : RdnSequence) (entries : List EntryInformation) → is_same name other ≡ true → has_name name entries ≡ has_name other entries
has_name_like name other entries e = any_like (is_named name) (is_named other) (λ entry. same_like name other entry.name e) entries

-- of a name that is there some entry tells what holds of it
any_named : (test : EntryInformation → Bool) (name : RdnSequence) (entries : List EntryInformation) → ((entry : EntryInformation) → is_same name entry.name ≡ true → test entry ≡ true) → has_name name entries ≡ true → list_any test entries ≡ true
any_named test name [] f h = absurd cc
any_named test name (x ∷ entries) f h = elim (or_cases (is_named name x) (has_name name entries) h) [
  | inl e ↦ or_left (test x) (list_any test entries) (f x e)
  | inr e ↦ or_right (test x) (list_any test entries) (any_named test name entries f e)
]

-- a name that is there and comes before another
pub has_before-named : (name other : RdnSequence) (entries : List EntryInformation) → has_name name entries ≡ true → is_before name other ≡ true → has_before other entries ≡ true
has_before-named name other entries h e = any_named (λ entry. is_before entry.name other) name entries (λ entry f. sym (before_like name entry.name other f) ∙ e) h

-- and one that stands below another
pub has_below-named : (base name : RdnSequence) (entries : List EntryInformation) → has_name name entries ≡ true → is_below base name ≡ true → has_below base entries ≡ true
unfolding is_prefix_of
has_below-named base name entries h e = any_named (λ entry. is_below base entry.name) name entries (λ entry f.
    let front = same_like (take (length base) name) (take (length base) entry.name) base (same-take (length base) name entry.name f) in
    let long = length-same name entry.name f in
    rw (← front, ← long) e) h

-- no name that is there is empty
pub named_filled : (name : RdnSequence) (entries : List EntryInformation) → AllByRecursion (λ entry. entry.name ≢ []) entries → has_name name entries ≡ true → name ≢ []
named_filled name [] h e = absurd cc
named_filled name (x ∷ entries) h e = elim (or_cases (is_named name x) (has_name name entries) e) [
  | inl f ↦ (λ g. h.0 (nothing x.name (sym (length-same name x.name f) ∙ ap length g)))
  | inr f ↦ named_filled name entries h.1 f
]
  where
    nothing : (other : RdnSequence) → length other ≡ 0 → other ≡ []
    nothing [] k = refl
    nothing (r ∷ rs) k = absurd (omega arith)

-- the order stays where a name comes in that is not there, and where entries are left out
pub sorted_put : (entry : EntryInformation) (entries : List EntryInformation) → IsInOrder entries → has_name entry.name entries ≡ false → IsInOrder (put_in entry entries)
sorted_put entry [] o h = (tt, tt)
sorted_put entry (x ∷ entries) o h =
    let parts = or_parts (is_named entry.name x) (has_name entry.name entries) h in
    let later = sorted_put entry entries o.1 parts.1 in
    cond_both (is_before x.name entry.name) (x ∷ put_in entry entries) (entry ∷ x ∷ entries) (λ xs. IsInOrder xs)
    (λ e. (all_put (λ later. name_cmp x.name later.name ≡ Less) entry entries (Less-from_before x.name entry.name e) o.0, later))
    (λ e.
    let before = comes_before entry.name x.name e parts.0 in (
      (
        Less-from_before entry.name x.name before,
        all_map (λ later. name_cmp x.name later.name ≡ Less) (λ later. name_cmp entry.name later.name ≡ Less)
            (λ later g. Less-from_before entry.name later.name (before_chain entry.name x.name later.name before (ap is_lt g))) entries o.0,
      ),
      o,
    ))

pub sorted_left : (entry : EntryInformation) (entries : List EntryInformation) → IsInOrder (put_in entry entries) → IsInOrder entries
sorted_left entry [] o = tt
sorted_left entry (x ∷ entries) o = by (is_before x.name entry.name) (sorted_left entry entries) o
  where
    by : (b : Bool) → (IsInOrder (put_in entry entries) → IsInOrder entries) → IsInOrder (cond b (x ∷ put_in entry entries) (entry ∷ x ∷ entries)) → IsInOrder (x ∷ entries)
    by true later k = (all_left (λ later. name_cmp x.name later.name ≡ Less) entry entries k.0, later k.1)
    by false later k = k.1

-- a name put in where all is in order was not there
pub absent_from_sorted : (entry : EntryInformation) (entries : List EntryInformation) → IsInOrder (put_in entry entries) → has_name entry.name entries ≡ false
absent_from_sorted entry [] o = refl
absent_from_sorted entry (x ∷ entries) o = by (is_before x.name entry.name) (absent_from_sorted entry entries) o
  where
    not_first : name_cmp x.name entry.name ≡ Less → is_named entry.name x ≡ false
    not_first e = false_from_ne_true (is_named entry.name x) (λ f.
        let back = same_back entry.name x.name f in
        let other = before_not_same x.name entry.name (ap is_lt e) in
        absurd cc)

    by : (b : Bool) → (IsInOrder (put_in entry entries) → has_name entry.name entries ≡ false) → IsInOrder (cond b (x ∷ put_in entry entries) (entry ∷ x ∷ entries)) → (is_named entry.name x || has_name entry.name entries) ≡ false
    by true later k =
        or_from (is_named entry.name x) (has_name entry.name entries)
        (not_first (all_put_back (λ later. name_cmp x.name later.name ≡ Less) entry entries k.0)) (later k.1)
    by false later k = none_after entry (x ∷ entries) k.0

-- superiors stay where an entry comes in under its own
pub rooted_put : (entry : EntryInformation) (entries : List EntryInformation) → entry.name ≢ [] → HasSuperiors entries → (entries ≡ []) ⊎ (has_name (superior_name entry.name) entries ≡ true) → HasSuperiors (put_in entry entries)
rooted_put entry entries filled rooted (inl none) name here before =
    let one : put_in entry entries ≡ entry ∷ [] = ap (put_in entry) none in
    let same_in : (is_same name entry.name || false) ≡ true = rw one at here in
    let before_in : (is_before entry.name name || false) ≡ true = rw one at before in
    only (or_cases (is_same name entry.name) false same_in) (or_cases (is_before entry.name name) false before_in)
  where
    only : ((is_same name entry.name ≡ true) ⊎ (false ≡ true)) → ((is_before entry.name name ≡ true) ⊎ (false ≡ true)) → has_name (superior_name name) (put_in entry entries) ≡ true
    only (inr e) f = absurd cc
    only (inl e) (inr f) = absurd cc
    only (inl e) (inl f) =
        let other = before_not_same entry.name name f in
        let back = same_back name entry.name e in
        absurd cc
rooted_put entry entries filled rooted (inr under) name here before =
    any_put (is_named (superior_name name)) entry entries
    ∙ or_right (is_named (superior_name name) entry) (has_name (superior_name name) entries) (elim (or_cases (is_same name entry.name) (has_name name entries) (sym (any_put (is_named name) entry entries) ∙ here)) [
      | inl e ↦ has_name_like (superior_name name) (superior_name entry.name) entries (same-superior name entry.name e) ∙ under
      | inr e ↦ rooted name e (elim (or_cases (is_before entry.name name) (has_before name entries) (sym (any_put (λ other. is_before other.name name) entry entries) ∙ before)) [
        | inl f ↦ has_before-named (superior_name entry.name) name entries under
            (before_chain (superior_name entry.name) entry.name name (superior_before entry.name filled) f)
        | inr f ↦ f
      ])
    ])

-- and where one goes that has none below
pub rooted_rest : (entry : EntryInformation) (entries : List EntryInformation) → AllByRecursion (λ other. other.name ≢ []) entries → HasSuperiors (put_in entry entries) → has_below entry.name entries ≡ false → HasSuperiors entries
rooted_rest entry entries filled rooted none name here before =
    let there = any_put (is_named name) entry entries ∙ or_right (is_named name entry) (has_name name entries) here in
    let after = any_put (λ other. is_before other.name name) entry entries ∙ or_right (is_before entry.name name) (has_before name entries) before in
    elim (or_cases (is_named (superior_name name) entry) (has_name (superior_name name) entries) (sym (any_put (is_named (superior_name name)) entry entries) ∙ rooted name there after)) [
      | inl e ↦ (
          let below = below_superior entry.name name (named_filled name entries filled here) (same_back (superior_name name) entry.name e) in
          let some = has_below-named entry.name name entries here below in
          absurd cc)
      | inr e ↦ e
    ]

-- and where one takes the place of another of its name
pub rooted_same : (entry other : EntryInformation) (entries : List EntryInformation) → is_same other.name entry.name ≡ true → HasSuperiors (put_in entry entries) → HasSuperiors (put_in other entries)
rooted_same entry other entries e rooted name here before =
    let as_here : has_name name (put_in other entries) ≡ has_name name (put_in entry entries) = names name in
    let as_before : has_before name (put_in other entries) ≡ has_before name (put_in entry entries) =
    any_put (λ entry. is_before entry.name name) other entries
    ∙ ap (λ (b : Bool). b || has_before name entries) (before_like other.name entry.name name e)
    ∙ sym (any_put (λ entry. is_before entry.name name) entry entries) in
    names (superior_name name) ∙ rooted name (sym as_here ∙ here) (sym as_before ∙ before)
  where
    names : (n : RdnSequence) → has_name n (put_in other entries) ≡ has_name n (put_in entry entries)
    names n =
        any_put (is_named n) other entries
        ∙ ap (λ (b : Bool). b || has_name n entries) (like_same other.name entry.name n e)
        ∙ sym (any_put (is_named n) entry entries)

-- nothing comes before the first
none_later : (name : RdnSequence) (first : EntryInformation) (rest : List EntryInformation) → is_same name first.name ≡ true → AllByRecursion (λ later. name_cmp first.name later.name ≡ Less) rest → has_before name rest ≡ false
none_later name first [] e h = refl
none_later name first (x ∷ rest) e h =
    let not_before : is_before x.name name ≡ false = by (cases_Bool (is_before x.name name)) in
    rw not_before (none_later name first rest e h.1)
  where
    by : ((is_before x.name name ≡ true) ⊎ (is_before x.name name ≡ false)) → is_before x.name name ≡ false
    by (inr f) = f
    by (inl f) =
        let after : is_before first.name x.name ≡ true = ap is_lt h.0 in
        let turned : is_before name x.name ≡ true = before_like name first.name x.name e ∙ after in
        absurd (true≢false (sym f ∙ before_not_back name x.name turned))

pub none_before_first : (name : RdnSequence) (first : EntryInformation) (rest : List EntryInformation) → is_same name first.name ≡ true → IsInOrder (first ∷ rest) → has_before name (first ∷ rest) ≡ false
none_before_first name first rest e sorted =
    let not_first : is_before first.name name ≡ false = before_like first.name name name (same_back name first.name e) ∙ before_not_itself name in
    rw not_first (none_later name first rest e sorted.0)
