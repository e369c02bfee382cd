-- The line of a name in a tree, front by front.
use Rattle.std.proofs.Common.{◌≡◌, ◌≢◌, ℕ, zero, suc, ◌<◌, ◌≤◌, Bool, true, false, ◌&&◌, List, [], ◌∷◌, ◌++◌, length, take, filter, reverse, Option, Some, None, refl, sym, ap, ◌∙◌, arith, ◌⊎◌, inl, inr}
use Rattle.std.specs.Prelude.{nat_le, option_to_list}
use Rattle.std.specs.List.{AllByRecursion}
use Rattle.std.specs.declared.cmp.Ordering.TheVariants.{Less}
use Rattle.std.proofs.lemmas.Bool.{cases_Bool, cases_lt, le-leb, lt-leb, and_left, and_right, false_from_ne_true}
use Rattle.std.proofs.lemmas.List.{reverse-append}
use Rattle.std.proofs.lemmas.List.Elements.{filter_agree}
use Rattle.dir_tree.proofs.base_laws_proofs.Theorems.{all_map, filter-none}
use Rattle.dir_tree.specs.dn_names.name.Names.{RdnSequence}
use Rattle.dir_tree.specs.dn_names.NameOrder.{name_cmp, is_same, is_prefix_of}
use Rattle.dir_tree.specs.Entry.{EntryInformation}
use Rattle.dir_tree.specs.tree.Trees.{is_named, named_in, IsInOrder}
use Rattle.dir_tree.proofs.TreeTheorems.{length-front}
use Rattle.admin_scope.specs.Areas.{line_of}
use Rattle.admin_scope.proofs.subentries.FrontLemmas.{longer_front, length-named, front-named, named-front}

-- the entries of the fronts of at most so many RDNs, the longest first
abbrev pub line_up : ℕ → RdnSequence → List EntryInformation → List EntryInformation
line_up zero name entries = []
line_up (suc len) name entries = option_to_list (named_in (take (suc len) name) entries) ++ line_up len name entries

-- an entry whose name is such a front
abbrev is_front_upto : ℕ → RdnSequence → EntryInformation → Bool
is_front_upto len name entry = is_prefix_of entry.name name && nat_le (length entry.name) len

-- those that come after a front are longer fronts, or none
later_fronts : (len : ℕ) (name : RdnSequence) (x : EntryInformation) → is_prefix_of x.name name ≡ true → len ≤ length x.name → (entries : List EntryInformation) → AllByRecursion (λ later. name_cmp x.name later.name ≡ Less) entries → AllByRecursion (λ later. is_front_upto len name later ≡ false) entries
later_fronts len name x e h entries after = all_map _ _ each entries after
  where
    each : (y : EntryInformation) → name_cmp x.name y.name ≡ Less → is_front_upto len name y ≡ false
    each y less = elim (cases_Bool (is_prefix_of y.name name)) [
      | inl f ↦ (let more = longer_front x.name y.name name e f less in and_right (is_prefix_of y.name name) (nat_le (length y.name) len) (lt-leb (length y.name) len (omega arith)))
      | inr f ↦ and_left (is_prefix_of y.name name) (nat_le (length y.name) len) f
    ]

-- with one RDN more, the entry of that front comes last
front_more : (len : ℕ) (name : RdnSequence) (entries : List EntryInformation) → suc len ≤ length name → IsInOrder entries → filter (is_front_upto (suc len) name) entries ≡ filter (is_front_upto len name) entries ++ option_to_list (named_in (take (suc len) name) entries)
front_more len name [] h o = refl
front_more len name (x ∷ xs) h o = by (cases_Bool (is_prefix_of x.name name)) (front_more len name xs h o.1)
  where
    Goal : Type 0
    Goal = filter (is_front_upto (suc len) name) (x ∷ xs) ≡ filter (is_front_upto len name) (x ∷ xs) ++ option_to_list (named_in (take (suc len) name) (x ∷ xs))

    Later : Type 0
    Later = filter (is_front_upto (suc len) name) xs ≡ filter (is_front_upto len name) xs ++ option_to_list (named_in (take (suc len) name) xs)

    unnamed : length x.name ≢ suc len → is_named (take (suc len) name) x ≡ false
    unnamed other = false_from_ne_true (is_same (take (suc len) name) x.name) (λ f. other (length-named (suc len) name x.name h f))

    at_front : is_prefix_of x.name name ≡ true → length x.name ≡ suc len → Goal
    at_front e is =
        let more = le-leb (length x.name) (suc len) (omega arith) in
        let less = lt-leb (length x.name) len (omega arith) in
        let named = named-front (suc len) name x.name e is in
        let none = filter-none (is_front_upto (suc len) name) xs (later_fronts (suc len) name x e (omega arith) xs o.0) in
        let none_before = filter-none (is_front_upto len name) xs (later_fronts len name x e (omega arith) xs o.0) in
        rw (e, more, less, named, none, none_before) refl

    past : is_prefix_of x.name name ≡ true → suc len < length x.name → Later → Goal
    past e long later =
        let more = lt-leb (length x.name) (suc len) (omega arith) in
        let less = lt-leb (length x.name) len (omega arith) in
        let other = unnamed (λ is. omega arith) in
        rw (e, more, less, other) later

    before : is_prefix_of x.name name ≡ true → length x.name < suc len → Later → Goal
    before e short later =
        let more = le-leb (length x.name) (suc len) (omega arith) in
        let less = le-leb (length x.name) len (omega arith) in
        let other = unnamed (λ is. omega arith) in
        rw (e, more, less, other) (ap (λ rest. x ∷ rest) later)

    by : ((is_prefix_of x.name name ≡ true) ⊎ (is_prefix_of x.name name ≡ false)) → Later → Goal
    by (inr e) later =
        let other : is_named (take (suc len) name) x ≡ false = false_from_ne_true (is_same (take (suc len) name) x.name) (λ f. let clash = sym e ∙ front-named (suc len) name x.name h f in absurd cc) in
        rw (e, other) later
    by (inl e) later = elim (cases_lt (length x.name) (suc len)) [
      | inl short ↦ before e short later
      | inr long ↦ elim (cases_lt (suc len) (length x.name)) [
        | inl longer ↦ past e longer later
        | inr is ↦ at_front e (omega arith)
      ]
    ]

reverse-option : {A : Type 0} (o : Option A) → reverse (option_to_list o) ≡ option_to_list o
reverse-option None = refl
reverse-option (Some x) = refl

reverse_upto : (len : ℕ) (name : RdnSequence) (entries : List EntryInformation) → len ≤ length name → IsInOrder entries → AllByRecursion (λ entry. entry.name ≢ []) entries → reverse (filter (is_front_upto len name) entries) ≡ line_up len name entries
reverse_upto zero name entries h o filled = ap reverse (filter-none (is_front_upto 0 name) entries (all_map _ _ each entries filled))
  where
    each : (y : EntryInformation) → y.name ≢ [] → is_front_upto 0 name y ≡ false
    each y some = and_right (is_prefix_of y.name name) (nat_le (length y.name) 0) (lt-leb (length y.name) 0 (long y.name some))
      where
        long : (n : RdnSequence) → n ≢ [] → 0 < length n
        long [] empty = absurd (empty refl)
        long (r ∷ rs) some = omega arith
reverse_upto (suc len) name entries h o filled =
    ap reverse (front_more len name entries h o)
    ∙ reverse-append (filter (is_front_upto len name) entries) (option_to_list (named_in (take (suc len) name) entries))
    ∙ ap (λ front. front ++ reverse (filter (is_front_upto len name) entries)) (reverse-option (named_in (take (suc len) name) entries))
    ∙ ap (λ rest. option_to_list (named_in (take (suc len) name) entries) ++ rest) (reverse_upto len name entries (omega arith) o filled)

-- from the name upwards the line is that of its fronts
pub reverse-line_of : (name : RdnSequence) (entries : List EntryInformation) → IsInOrder entries → AllByRecursion (λ entry. entry.name ≢ []) entries → reverse (line_of name entries) ≡ line_up (length name) name entries
reverse-line_of name entries o filled =
    ap reverse (filter_agree (λ entry. is_prefix_of entry.name name) (is_front_upto (length name) name) each entries)
    ∙ reverse_upto (length name) name entries (omega arith) o filled
  where
    each : (y : EntryInformation) → is_prefix_of y.name name ≡ is_front_upto (length name) name y
    each y = elim (cases_Bool (is_prefix_of y.name name)) [
      | inl e ↦ (let fits = le-leb (length y.name) (length name) (length-front y.name name e) in rw (e, fits) refl)
      | inr e ↦ rw e refl
    ]
