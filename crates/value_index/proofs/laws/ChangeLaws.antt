-- The index of a tree stays one where one number changes.
use Rattle.std.proofs.Common.{◌≡◌, ◌≢◌, ◌⊎◌, inl, inr, ℕ, ◌==◌, List, [], ◌∷◌, Some, refl, sym, ap, ◌∙◌}
use Rattle.std.proofs.lemmas.Bool.{cases_Bool, eqb-true, eqb-false}
use Rattle.dir_tree.specs.Entry.{EntryInformation}
use Rattle.dir_tree.specs.tree.Trees.{is_before}
use Rattle.dir_tree.specs.tree.Numbered.{Numbered, entry_of, put_entry, without}
use Rattle.dir_tree.proofs.TreeTheorems.{found_row, found_later, further, entry_of-other, number_left}
use Rattle.value_index.specs.declared.index.Posting.{Posting}
use Rattle.value_index.specs.Hashes.{hashes_of}
use Rattle.value_index.specs.Postings.{IsIndexed, IsPosted, AllStay, OthersStay}

-- the number is that of the one entry, or of an entry of the rows
abbrev IsEither : ℕ → EntryInformation → List Numbered → ℕ → EntryInformation → Type 0
IsEither id entry rows other found = ((other ≡ id) × (found ≡ entry)) ⊎ (entry_of other rows ≡ Some found)

-- where rows have one put in, the entry of a number is that one or one of theirs
in_front : (row : Numbered) (rows : List Numbered) (other : ℕ) (found : EntryInformation) → entry_of other (row ∷ rows) ≡ Some found → IsEither row.id row.entry rows other found
in_front row rows other found known = elim (cases_Bool (row.id == other)) [
  | inl e ↦ (
      let is = found_row other found row rows e known in
      inl (ap (λ (r : Numbered). r.id) (sym is), ap (λ (r : Numbered). r.entry) (sym is)))
  | inr e ↦ inr (found_later other found row rows e known)
]

known-put : (id : ℕ) (entry : EntryInformation) (rows : List Numbered) (other : ℕ) (found : EntryInformation) → entry_of other (put_entry id entry rows) ≡ Some found → IsEither id entry rows other found
known-put id entry [] other found known = in_front (record { id = id; entry = entry }) [] other found known
known-put id entry (x ∷ rows) other found known = elim (cases_Bool (is_before x.entry.name entry.name)) [
  | inl e ↦ (
      let here : entry_of other (x ∷ put_entry id entry rows) ≡ Some found = rw e at known in
      elim (cases_Bool (x.id == other)) [
        | inl f ↦ (
            let is = found_row other found x (put_entry id entry rows) f here in
            inr (rw f (ap (λ (r : Numbered). Some r.entry) is)))
        | inr f ↦ elim (known-put id entry rows other found (found_later other found x (put_entry id entry rows) f here)) [
          | inl new ↦ inl new
          | inr old ↦ inr (further other x rows (eqb-false x.id other f) ∙ old)
        ]
      ])
  | inr e ↦ (
      let here : entry_of other (record { id = id; entry = entry } ∷ x ∷ rows) ≡ Some found = rw e at known in
      in_front (record { id = id; entry = entry }) (x ∷ rows) other found here)
]

-- the number is posted, if it is that of the one entry
posted-new : (id : ℕ) (entry : EntryInformation) (new : List Posting) (other : ℕ) (found : EntryInformation) → other ≡ id → found ≡ entry → IsPosted id (hashes_of entry) new → IsPosted other (hashes_of found) new
posted-new id entry new other found same is posted = rw (same, is) posted

-- an entry of the others is posted as before
posted-other : (old new : List Posting) (id : ℕ) (rows : List Numbered) → IsIndexed old rows → OthersStay id old new → (other : ℕ) (found : EntryInformation) → entry_of other rows ≡ Some found → other ≢ id → IsPosted other (hashes_of found) new
posted-other old new id rows indexed others other found known apart hash here = others hash other apart ∙ indexed other found known hash here

pub indexed-put_entry : (old new : List Posting) (id : ℕ) (entry : EntryInformation) (rows : List Numbered) → IsIndexed old rows → AllStay old new → IsPosted id (hashes_of entry) new → IsIndexed new (put_entry id entry rows)
indexed-put_entry old new id entry rows indexed stay posted other found known = elim (known-put id entry rows other found known) [
  | inl (same, is) ↦ posted-new id entry new other found same is posted
  | inr before ↦ λ hash here. stay hash other (indexed other found before hash here)
]

pub indexed-without : (old new : List Posting) (id : ℕ) (rows : List Numbered) → IsIndexed old rows → OthersStay id old new → IsIndexed new (without id rows)
indexed-without old new id rows indexed others other found known =
    let apart = number_left other id found rows known in
    posted-other old new id rows indexed others other found (sym (entry_of-other other id rows apart) ∙ known) apart

pub indexed-replaced : (old new : List Posting) (id : ℕ) (entry : EntryInformation) (rows : List Numbered) → IsIndexed old rows → OthersStay id old new → IsPosted id (hashes_of entry) new → IsIndexed new (put_entry id entry (without id rows))
indexed-replaced old new id entry rows indexed others posted other found known = elim (known-put id entry (without id rows) other found known) [
  | inl (same, is) ↦ posted-new id entry new other found same is posted
  | inr left ↦ indexed-without old new id rows indexed others other found left
]

pub indexed-same : (old new : List Posting) (id : ℕ) (rows : List Numbered) → IsIndexed old rows → OthersStay id old new → ((entry : EntryInformation) → entry_of id rows ≡ Some entry → IsPosted id (hashes_of entry) new) → IsIndexed new rows
indexed-same old new id rows indexed others posted other found known = elim (cases_Bool (other == id)) [
  | inl e ↦ (
      let is = eqb-true other id e in
      posted-new id found new other found is refl (posted found (ap (λ (n : ℕ). entry_of n rows) (sym is) ∙ known)))
  | inr e ↦ posted-other old new id rows indexed others other found known (eqb-false other id e)
]
