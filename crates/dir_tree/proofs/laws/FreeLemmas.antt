-- Names below which nothing stands: one that is free, and one whose entry is taken out.
use Rattle.std.proofs.Common.{◌≡◌, ◌≢◌, ◌⊎◌, inl, inr, ◌<◌, ◌≤◌, ◌-◌, ◌+◌, zero, suc, ℕ, true, false, List, [], ◌∷◌, length, take, Some, None, refl, sym, ap, subst, ◌∙◌, arith}
use Rattle.std.specs.Prelude.{nat_lt}
use Rattle.std.specs.List.{AllByRecursion}
use Rattle.std.proofs.lemmas.Bool.{cases_Bool, cases_lt, false_from_ne_true, and_from, and_parts, and_right, or_cases, or_left, or_right, or_parts, or_from, le-ltb, lt-ltb, ltb-true, true≢false}
use Rattle.std.proofs.lemmas.List.{length-take-le, take-take}
use Rattle.base_laws.proofs.Theorems.{none_passes}
use Rattle.dn_names.specs.name.Names.{RdnSequence}
use Rattle.dn_names.specs.NameOrder.{is_same, is_prefix_of}
use Rattle.dir_tree.specs.Entry.{EntryInformation}
use Rattle.dir_tree.specs.tree.Trees.{is_named, is_below, has_name, has_below, superior_name, lacks_superior, IsTree}
use Rattle.dir_tree.specs.Scope.{is_within}
use Rattle.dir_tree.specs.tree.Numbered.{Numbered, IsNumberedTree, entries_of, entry_of, put_entry, without}
use Rattle.dir_tree.specs.Refusals.{insert_refusal, refusal_below, remove_refusal}
use Rattle.dir_tree.specs.declared.refusals.RemoveRefusal.TheVariants as removing
use Rattle.dir_tree.proofs.tree.NameLemmas.{length-same, same_itself, same_back, below_superior}
use Rattle.dir_tree.proofs.tree.FrontLemmas.{at_base, length-front}
use Rattle.dir_tree.proofs.tree.NamedLemmas.{left_out, none_or_under}
use Rattle.dir_tree.proofs.tree.EntryOfLemmas.{entry_of-put, entry_of-gone, entry_of-other}
use Rattle.dir_tree.proofs.tree.NumberedLemmas.{entries_of-put_row, all_known_entry}
use Rattle.dir_tree.proofs.tree.RootLemmas.{any_put, has_name_like}
use Rattle.dir_tree.proofs.tree.KeptLemmas.{allowed}
use Rattle.dir_tree.proofs.tree.StayLaws.{named_by, later_superior, all_under_suffix}
use Rattle.dir_tree.proofs.tree.TreeLaws.{entries_of-without}

module _ (first : EntryInformation) (rest : List EntryInformation) (tree : IsTree (first ∷ rest)) where
  -- each name that is longer than the suffix's has its superior
  superior_there : (name : RdnSequence) → has_name name (first ∷ rest) ≡ true → length first.name < length name → has_name (superior_name name) (first ∷ rest) ≡ true
  superior_there name here long = elim (or_cases (is_named name first) (has_name name rest) here) [
    | inl e ↦ (let alike = length-same name first.name e in absurd (omega arith))
    | inr e ↦ later_superior first rest tree.rooted name e
  ]

  -- a name that is there is no shorter than the suffix's
  no_shorter : (name : RdnSequence) → has_name name (first ∷ rest) ≡ true → length first.name ≤ length name
  no_shorter name here = named_by (λ entry. is_within first.name entry ≡ true) (length first.name ≤ length name) name
      (λ entry within same. let alike = length-same name entry.name same in let front = length-front first.name entry.name within in omega arith)
      (first ∷ rest) (all_under_suffix first rest tree) here

  module _ (name : RdnSequence) (free : has_name name (first ∷ rest) ≡ false) (under : has_name (superior_name name) (first ∷ rest) ≡ true) where
    -- none of the names that are there is below it
    not_below : (n : ℕ) (other : RdnSequence) → length other ≤ n → has_name other (first ∷ rest) ≡ true → is_below name other ≡ true → ⊥
    unfolding is_prefix_of
    not_below zero other short here below =
        let long = ltb-true (length name) (length other) (and_parts (is_prefix_of name other) (nat_lt (length name) (length other)) below).1 in
        omega arith
    not_below (suc n) other short here below = by (not_below n) (cases_lt (length name + 1) (length other))
      where
        front : is_same (take (length name) other) name ≡ true
        front = (and_parts (is_prefix_of name other) (nat_lt (length name) (length other)) below).0

        long : length name < length other
        long = ltb-true (length name) (length other) (and_parts (is_prefix_of name other) (nat_lt (length name) (length other)) below).1

        superior_long : length (superior_name name) ≤ length name
        superior_long = let is = length-take-le (length name - 1) name (omega arith) in omega arith

        above : has_name (superior_name other) (first ∷ rest) ≡ true
        above = let least = no_shorter (superior_name name) under in let most = superior_long in let more = long in superior_there other here (omega arith)

        by : ((shorter : RdnSequence) → length shorter ≤ n → has_name shorter (first ∷ rest) ≡ true → is_below name shorter ≡ true → ⊥) → ((length name + 1 < length other) ⊎ (length other ≤ length name + 1)) → ⊥
        by shallower (inl deep) =
            let size = length-take-le (length other - 1) other (omega arith) in
            let same : take (length name) (superior_name other) ≡ take (length name) other = take-take (length name) (length other - 1) other (omega arith) in
            let still : is_same (take (length name) (superior_name other)) name ≡ true = ap (λ x. is_same x name) same ∙ front in
            let longer : nat_lt (length name) (length (superior_name other)) ≡ true = lt-ltb (length name) (length (superior_name other)) (omega arith) in
            shallower (superior_name other) (omega arith) above (and_from (is_prefix_of name (superior_name other)) (nat_lt (length name) (length (superior_name other))) still longer)
        by shallower (inr next) =
            let more = long in
            let is : length other - 1 ≡ length name = omega arith in
            let same : is_same (superior_name other) name ≡ true = ap (λ k. is_same (take k other) name) is ∙ front in
            let there = sym (has_name_like (superior_name other) name (first ∷ rest) same) ∙ above in
            let clash : true ≡ false = sym there ∙ free in
            absurd cc

    none_of : (part : List EntryInformation) → ((other : RdnSequence) → has_name other part ≡ true → has_name other (first ∷ rest) ≡ true) → has_below name part ≡ false
    none_of [] within = refl
    none_of (x ∷ part) within =
        or_from (is_below name x.name) (has_below name part)
        (false_from_ne_true (is_below name x.name) (λ e. not_below (length x.name) x.name (omega arith) (within x.name (or_left (is_named x.name x) (has_name x.name part) (same_itself x.name))) e))
        (none_of part (λ other h. within other (or_right (is_named other x) (has_name other part) h)))

-- none stands below a name that is free
none_below : (name : RdnSequence) (entries : List EntryInformation) → IsTree entries → has_name name entries ≡ false → (entries ≡ []) ⊎ (has_name (superior_name name) entries ≡ true) → has_below name entries ≡ false
none_below name [] tree free under = refl
none_below name (first ∷ rest) tree free (inl none) = absurd cc
none_below name (first ∷ rest) tree free (inr under) = none_of first rest tree name free under (first ∷ rest) (λ other h. h)

-- where none stands below a name, none has it for its superior's
pub apart_from_leaf : (name : RdnSequence) (entries : List EntryInformation) → AllByRecursion (λ entry. entry.name ≢ []) entries → has_below name entries ≡ false → AllByRecursion (λ (entry : EntryInformation). is_same (superior_name entry.name) name ≡ false) entries
apart_from_leaf name [] named none = tt
apart_from_leaf name (x ∷ entries) named none =
    let parts = or_parts (is_below name x.name) (has_below name entries) none in (
      false_from_ne_true (is_same (superior_name x.name) name) (λ same. true≢false (sym (below_superior name x.name named.0 (same_back (superior_name x.name) name same)) ∙ parts.0)),
      apart_from_leaf name entries named.1 parts.1,
    )

pub superiors_apart : (entries : List EntryInformation) (name : RdnSequence) → IsTree entries → has_name name entries ≡ false → lacks_superior name entries ≡ false → AllByRecursion (λ (entry : EntryInformation). is_same (superior_name entry.name) name ≡ false) entries
superiors_apart entries name tree absent has =
    apart_from_leaf name entries tree.named (none_below name entries tree absent (none_or_under name entries has))

-- so what is put in can be taken out
pub new_removable : (id : ℕ) (entry : EntryInformation) (rows : List Numbered) → IsNumberedTree rows → entry_of id rows ≡ None → insert_refusal entry.name (entries_of rows) ≡ None → remove_refusal id (put_entry id entry rows) ≡ None
new_removable id entry rows tree none unrefused =
    let free = allowed entry.name (entries_of rows) unrefused in
    let others = none_below entry.name (entries_of rows) tree.tree free.absent free.under in
    let itself : nat_lt (length entry.name) (length entry.name) ≡ false = le-ltb (length entry.name) (length entry.name) (omega arith) in
    let own : is_below entry.name entry.name ≡ false = and_right (is_prefix_of entry.name entry.name) (nat_lt (length entry.name) (length entry.name)) itself in
    let alone : has_below entry.name (entries_of (put_entry id entry rows)) ≡ false =
    ap (has_below entry.name) (entries_of-put_row (record { id = id; entry = entry }) rows)
    ∙ any_put (λ other. is_below entry.name other.name) entry (entries_of rows)
    ∙ or_from (is_below entry.name entry.name) (has_below entry.name (entries_of rows)) own others in
    ap (λ o. refusal_below o (entries_of (put_entry id entry rows))) (entry_of-put id entry rows none)
    ∙ rw alone refl

-- and below what is taken out none stood
pub removed_alone : (id : ℕ) (entry : EntryInformation) (rows : List Numbered) → entry_of id rows ≡ Some entry → remove_refusal id rows ≡ None → has_below entry.name (entries_of rows) ≡ false
removed_alone id entry rows known allowed = elim (cases_Bool (has_below entry.name (entries_of rows))) [
  | inl e ↦ (
      let refused : refusal_below (Some entry) (entries_of rows) ≡ Some removing.HasBelow = rw e refl in
      let clash = sym refused ∙ sym (ap (λ o. refusal_below o (entries_of rows)) known) ∙ allowed in
      absurd cc
      )
  | inr e ↦ e
]

-- a number that is left is another
pub number_left : (id number : ℕ) (entry : EntryInformation) (rows : List Numbered) → entry_of id (without number rows) ≡ Some entry → id ≢ number
number_left id number entry rows known is =
    let gone : entry_of id (without number rows) ≡ None = ap (λ n. entry_of n (without number rows)) is ∙ entry_of-gone number rows in
    let clash : Some entry ≡ None = sym known ∙ gone in
    absurd cc

module _ (number : ℕ) (old : EntryInformation) (rows : List Numbered) (tree : IsNumberedTree rows) (known : entry_of number rows ≡ Some old) where
  -- an entry that is left has another name
  pub other_name : (id : ℕ) (entry : EntryInformation) → entry_of id (without number rows) ≡ Some entry → is_same old.name entry.name ≡ false
  other_name id entry there =
      all_known_entry (λ left. is_named old.name left ≡ false) id entry (without number rows)
      (subst (λ (entries : List EntryInformation). AllByRecursion (λ left. is_named old.name left ≡ false) entries) (sym (entries_of-without number old rows tree known)) (left_out old.name (entries_of rows))) there

  -- and where none stood below, it is neither at nor below the name
  pub outside : has_below old.name (entries_of rows) ≡ false → (id : ℕ) (entry : EntryInformation) → entry_of id (without number rows) ≡ Some entry → is_within old.name entry ≡ false
  outside alone id entry there =
      let was : entry_of id rows ≡ Some entry = sym (entry_of-other id number rows (number_left id number entry rows there)) ∙ there in
      let apart = all_known_entry (λ left. is_below old.name left.name ≡ false) id entry rows (none_passes (λ left. is_below old.name left.name) (entries_of rows) alone) was in
      let differs = other_name id entry there in
      false_from_ne_true (is_within old.name entry) (λ front. let clash : true ≡ false = sym (at_base old.name entry.name front apart) ∙ differs in absurd cc)
