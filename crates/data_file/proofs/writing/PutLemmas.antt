-- Lemmas on texts put one after another, and on the records of entries.
use Rattle.std.proofs.Common.{◌≡◌, ℕ, ◌==◌, List, [], ◌∷◌, ◌++◌, find, Option, Some, None, Result, Ok, Err, refl, sym, ap, subst, ◌∙◌, append-nil, append_assoc, inl, inr}
use Rattle.std.specs.Prelude.{map, flat_map, codes}
use Rattle.std.specs.Option.{option_map, option_map_or}
use Rattle.std.proofs.lemmas.Grind.{flat_map-append}
use Rattle.std.proofs.lemmas.List.{map-append}
use Rattle.std.proofs.lemmas.Bool.{cases_Bool, cond-true, cond-false}
use Rattle.wire_io.specs.declared.answers.PutFault.{PutFault}
use Rattle.wire_io.specs.Putting.{PutsAll}
use Rattle.wire_io.proofs.Theorems.{PutsAll-nothing, PutsAll-cut, PutsAll-then}
use Rattle.dir_tree.specs.Entry.{EntryInformation}
use Rattle.dir_tree.specs.declared.number.EntryNo.{EntryNo}
use Rattle.dir_tree.specs.tree.Numbered.{Numbered, entry_of, entries_of}
use Rattle.ldif_load.specs.ldif_records.writing.Written.{AreInTable}
use Rattle.ldif_load.specs.ldif_records.writing.WrittenFile.{written_file, written_record, written_records}
use Rattle.data_file.specs.Steps.{AreOfTable, text_at}

-- a text of nothing was put
pub PutsAll-empty : (old : Option (List ℕ)) (text : List ℕ) → text ≡ [] → PutsAll {T = Unit {0}} old text (Ok tt) old
PutsAll-empty old text none = rw none (PutsAll-nothing old tt)

-- the same of another text that is equal
pub PutsAll-same : (old new : Option (List ℕ)) (text other : List ℕ) (result : Result (Unit {0}) PutFault) → other ≡ text → PutsAll old text result new → PutsAll old other result new
PutsAll-same old new text other result same puts = rw same puts

-- the file is the version and the records
pub written_file-parts : (entries : List EntryInformation) → written_file entries ≡ codes "version: 1\n" ++ written_records entries
unfolding written_file
written_file-parts entries = refl

-- the numbers of a walk
abbrev pub numbers_of : List EntryNo → List ℕ
numbers_of walked = map (λ no. no.0) walked

-- the records of numbers
abbrev pub texts_of : List Numbered → List ℕ → List ℕ
texts_of rows ids = flat_map (text_at rows) ids

-- one number more
texts_of-push : (rows : List Numbered) (walked : List EntryNo) (number : EntryNo) → texts_of rows (numbers_of (walked ++ number ∷ [])) ≡ texts_of rows (numbers_of walked) ++ text_at rows number.0
texts_of-push rows walked number =
    ap (texts_of rows) (map-append _ walked (number ∷ []))
    ∙ flat_map-append (text_at rows) (numbers_of walked) (number.0 ∷ [])
    ∙ ap (λ last. texts_of rows (numbers_of walked) ++ last) (append-nil (text_at rows number.0))

pub walked-push : (walked : List EntryNo) (number : EntryNo) (ids left rest : List ℕ) → left ≡ number.0 ∷ rest → numbers_of walked ++ left ≡ ids → numbers_of (walked ++ number ∷ []) ++ rest ≡ ids
walked-push walked number ids left rest is all =
    ap (λ front. front ++ rest) (map-append _ walked (number ∷ [])) ∙ append_assoc (numbers_of walked) (number.0 ∷ []) rest
    ∙ ap (λ more. numbers_of walked ++ more) (sym is) ∙ all

-- a record more was put
pub texts-more :
    (old now new : Option (List ℕ)) (rows : List Numbered) (walked : List EntryNo) (number : EntryNo)
    → PutsAll {T = Unit {0}} old (texts_of rows (numbers_of walked)) (Ok tt) now → PutsAll {T = Unit {0}} now (text_at rows number.0) (Ok tt) new
    → PutsAll {T = Unit {0}} old (texts_of rows (numbers_of (walked ++ number ∷ []))) (Ok tt) new
texts-more old now new rows walked number before puts =
    PutsAll-same old new (texts_of rows (numbers_of walked) ++ text_at rows number.0) (texts_of rows (numbers_of (walked ++ number ∷ []))) (Ok tt) (texts_of-push rows walked number)
    (PutsAll-then old now new (texts_of rows (numbers_of walked)) (text_at rows number.0) tt (Ok tt) before puts)

-- a record was refused
pub texts-refused :
    (old now new : Option (List ℕ)) (rows : List Numbered) (walked : List EntryNo) (number : EntryNo) (ids left rest : List ℕ) (fault : PutFault)
    → left ≡ number.0 ∷ rest → numbers_of walked ++ left ≡ ids
    → PutsAll {T = Unit {0}} old (texts_of rows (numbers_of walked)) (Ok tt) now → PutsAll {T = Unit {0}} now (text_at rows number.0) (Err fault) new
    → PutsAll {T = Unit {0}} old (texts_of rows ids) (Err fault) new
texts-refused old now new rows walked number ids left rest fault is all before puts =
    let parts : texts_of rows ids ≡ texts_of rows (numbers_of walked) ++ (text_at rows number.0 ++ texts_of rows rest) =
    ap (texts_of rows) (sym all ∙ ap (λ more. numbers_of walked ++ more) is) ∙ flat_map-append (text_at rows) (numbers_of walked) (number.0 ∷ rest) in
    PutsAll-same old new _ (texts_of rows ids) (Err fault) parts
    (PutsAll-then old now new (texts_of rows (numbers_of walked)) (text_at rows number.0 ++ texts_of rows rest) tt (Err fault) before
    (PutsAll-cut (Unit {0}) now new (text_at rows number.0) (texts_of rows rest) fault puts))

-- an entry that is found is of the table
pub table-at : (rows : List Numbered) (id : ℕ) (entry : EntryInformation) → AreOfTable (entries_of rows) → entry_of id rows ≡ Some entry → AreInTable entry.attributes
table-at [] id entry table is = absurd cc
table-at (row ∷ rows) id entry table is =
    elim (cases_Bool (row.id == id)) [
      | inl here ↦ (let found : Some row.entry ≡ Some entry = sym (ap (option_map (λ (other : Numbered). other.entry)) (cond-true (row.id == id) (Some row) (find (λ other. other.id == id) rows) here)) ∙ is in
          let same : row.entry ≡ entry = cc in
          subst (λ (made : EntryInformation). AreInTable made.attributes) same table.0)
      | inr there ↦ table-at rows id entry table.1 (sym (ap (option_map (λ (other : Numbered). other.entry)) (cond-false (row.id == id) (Some row) (find (λ other. other.id == id) rows) there)) ∙ is)
    ]

-- a number that is not in use has no record
pub text_at-none : (rows : List Numbered) (id : ℕ) → entry_of id rows ≡ None → text_at rows id ≡ []
text_at-none rows id none = ap (λ entry. option_map_or written_record entry []) none
