-- The entry of a number, and the number of a name, in rows that are put in and taken out.
use Rattle.std.proofs.Common.{◌≡◌, ◌≢◌, ℕ, ◌-◌, true, false, ◌==◌, nat_le, if◌then◌else◌, List, [], ◌∷◌, length, take, refl, ap, sym, ◌∙◌, arith, inl, inr, find, Some, None}
use Rattle.std.specs.Prelude.{is_some}
use Rattle.std.specs.List.{AllByRecursion}
use Rattle.std.specs.Option.{option_map}
use Rattle.std.proofs.lemmas.Bool.{cases_Bool, cond-true, cond-false, eq-eqb, eqb-true, ne_eqb}
use Rattle.std.proofs.lemmas.Bool.Decides.{nat_tests}
use Rattle.std.proofs.lemmas.Option.{same_Some}
use Rattle.dn_names.specs.name.Names.{RdnSequence}
use Rattle.dir_tree.specs.Entry.{EntryInformation}
use Rattle.dir_tree.specs.tree.Trees.{is_before, is_named, named_in, superior_name}
use Rattle.dir_tree.specs.tree.Numbered.{Numbered, entries_of, entry_of, find_name, find_front, put_entry, without}

-- a number that no row has is not that of the first, and no later row has it
pub none_here : (id : ℕ) (x : Numbered) (rows : List Numbered) → entry_of id (x ∷ rows) ≡ None → ((x.id == id) ≡ false) × (entry_of id rows ≡ None)
none_here id x rows e = elim (cases_Bool (x.id == id)) [
  | inl f ↦ (
      let there : entry_of id (x ∷ rows) ≡ Some x.entry =
      ap (option_map (λ (row : Numbered). row.entry)) (cond-true (x.id == id) (Some x) (find (λ row. row.id == id) rows) f) in
      let clash = sym e ∙ there in
      absurd cc
      )
  | inr f ↦ (
    f,
    sym (ap (option_map (λ (row : Numbered). row.entry)) (cond-false (x.id == id) (Some x) (find (λ row. row.id == id) rows) f))
        ∙ e,
  )
]

-- a row of another number is passed over
pub further : (id : ℕ) (x : Numbered) (rows : List Numbered) → x.id ≢ id → entry_of id (x ∷ rows) ≡ entry_of id rows
further id x rows h =
    ap (option_map (λ (row : Numbered). row.entry))
    (cond-false (x.id == id) (Some x) (find (λ row. row.id == id) rows) (ne_eqb x.id id h))

-- a number that is put in has its entry
pub entry_of-put : (id : ℕ) (entry : EntryInformation) (rows : List Numbered) → entry_of id rows ≡ None → entry_of id (put_entry id entry rows) ≡ Some entry
entry_of-put id entry [] e = rw (eq-eqb id id refl) refl
entry_of-put id entry (x ∷ rows) e =
    let none = none_here id x rows e in
    elim (cases_Bool (is_before x.entry.name entry.name)) [
      | inl f ↦ rw (f, none.0) (entry_of-put id entry rows none.1)
      | inr f ↦ rw (f, eq-eqb id id refl) refl
    ]

-- a number that is taken out has none, and every other has what it had
pub entry_of-gone : (id : ℕ) (rows : List Numbered) → entry_of id (without id rows) ≡ None
entry_of-gone id [] = refl
entry_of-gone id (x ∷ rows) = elim (cases_Bool (x.id == id)) [
  | inl e ↦ rw e (entry_of-gone id rows)
  | inr e ↦ rw (e, e) (entry_of-gone id rows)
]

pub entry_of-other : (id number : ℕ) (rows : List Numbered) → id ≢ number → entry_of id (without number rows) ≡ entry_of id rows
entry_of-other id number [] h = refl
entry_of-other id number (x ∷ rows) h = elim (cases_Bool (x.id == number)) [
  | inl e ↦ (
      let is = eqb-true x.id number e in
      let other : x.id ≢ id = λ f. h (sym f ∙ is) in
      rw e (entry_of-other id number rows h ∙ sym (further id x rows other))
      )
  | inr e ↦ elim (cases_Bool (x.id == id)) [
    | inl f ↦ rw (e, f) refl
    | inr f ↦ rw (e, f) (entry_of-other id number rows h)
  ]
]

-- a number that no row has takes nothing out
pub without-absent : (id : ℕ) (rows : List Numbered) → entry_of id rows ≡ None → without id rows ≡ rows
without-absent id [] e = refl
without-absent id (x ∷ rows) e =
    let none = none_here id x rows e in
    rw none.0 (ap (λ (rest : List Numbered). x ∷ rest) (without-absent id rows none.1))

-- a name has a number where an entry has it
pub found_both : (name : RdnSequence) (rows : List Numbered) → is_some (find_name name rows) ≡ is_some (named_in name (entries_of rows))
found_both name [] = refl
found_both name (x ∷ rows) = elim (cases_Bool (is_named name x.entry)) [
  | inl e ↦ rw e refl
  | inr e ↦ rw e (found_both name rows)
]

-- a name is found by another number than one that no row has
pub other_number : (name : RdnSequence) (number : ℕ) (rows : List Numbered) → AllByRecursion (λ later. later.id ≢ number) rows → (id : ℕ) → find_name name rows ≡ Some id → id ≢ number
other_number name number [] apart id found = absurd cc
other_number name number (x ∷ rows) apart id found = elim (cases_Bool (is_named name x.entry)) [
  | inl e ↦ (
      let is = same_Some x.id id (sym (ap (option_map (λ (row : Numbered). row.id)) (cond-true (is_named name x.entry) (Some x) (find (λ row. is_named name row.entry) rows) e)) ∙ found) in
      λ f. apart.0 (is ∙ f))
  | inr e ↦ other_number name number rows apart.1 id (sym (ap (option_map (λ (row : Numbered). row.id)) (cond-false (is_named name x.entry) (Some x) (find (λ row. is_named name row.entry) rows) e)) ∙ found)
]

-- the front that lacks one RDN is the superior's name
pub front_of_superior : (name : RdnSequence) (len : ℕ) (rows : List Numbered) → len ≡ length name - 1 → find_front len name rows ≡ find_name (superior_name name) rows
front_of_superior name len rows is =
    let fits : nat_le len (length name) ≡ true = grind (arith, nat_tests) in
    ap (λ b. if b then find_name (take len name) rows else None) fits
    ∙ ap (λ len. find_name (take len name) rows) is
