-- The file of a sample is the file that is written of its entries, persons in the order of their numbers.
use Rattle.std.proofs.Common.{◌≡◌, ◌≢◌, ℕ, zero, suc, ◌%◌, ◌≤◌, ◌==◌, Bool, true, false, if◌then◌else◌, List, [], ◌∷◌, ◌++◌, drop, decimal, refl, ap, ◌∙◌, arith, inr}
use Rattle.std.specs.Prelude.{codes}
use Rattle.std.proofs.lemmas.Bool.{cond-true}
use Rattle.std.proofs.lemmas.List.{append-nil, append_assoc}
use Rattle.std.proofs.lemmas.Grind.{flat_map-append}
use Rattle.dir_tree.proofs.base_laws_proofs.Theorems.{all_append}
use Rattle.dir_tree.specs.schema_tables.Attributes.{attributes}
use Rattle.dir_tree.specs.dn_names.Classes.{class_of}
use Rattle.dir_tree.specs.dn_names.Printing.{print_value, print_from, print_by, print_name}
use Rattle.dir_tree.specs.Entry.{EntryInformation}
use Rattle.ldif_load.specs.ldif_records.writing.Written.{is_plain, written_value, written_entry}
use Rattle.ldif_load.specs.ldif_records.writing.WrittenFile.{written_record, written_records, written_file}
use Rattle.sample_input.specs.SampleFile.{person_name, person_record, sample_file}
use Rattle.sample_laws.specs.SampleEntries.{area, subentry, unit_entry, person_in, person}
use Rattle.sample_laws.proofs.laws.WordLemmas.{AreWords, words_from, IsIdentifier-of, print_from-words, AreVisible, AreVisible-from, AreVisible-words, is_plain-visible, is_plain-words}

-- the unit by whether it is the open one
abbrev pub unit_text : Bool → List ℕ
unit_text is_open = if is_open then codes "open" else codes "shut"

-- the person of the unit and the identifier
abbrev pub person_of : Bool → List ℕ → EntryInformation
person_of is_open identifier = person_in (unit_text is_open) identifier

-- the printed name of a person
abbrev pub name_text : Bool → List ℕ → List ℕ
name_text is_open identifier = codes "uid=" ++ (identifier ++ (codes ",ou=" ++ (unit_text is_open ++ codes ",dc=sample")))

around : (identifier text printed : List ℕ) → printed ≡ identifier → codes "uid=" ++ ((printed ++ []) ++ text) ≡ codes "uid=" ++ (identifier ++ text)
around identifier text printed is =
    ap (λ octets. codes "uid=" ++ ((octets ++ []) ++ text)) is ∙ ap (λ octets. codes "uid=" ++ (octets ++ text)) (append-nil identifier)

pub print_name-person : (is_open : Bool) (identifier : List ℕ) → AreWords identifier → print_name (person_of is_open identifier).name ≡ name_text is_open identifier
unfolding print_name print_by print_value attributes class_of
print_name-person true identifier are = around identifier (codes ",ou=open,dc=sample") (print_from true identifier) (print_from-words true identifier are)
print_name-person false identifier are = around identifier (codes ",ou=shut,dc=sample") (print_from true identifier) (print_from-words true identifier are)

-- it is of visible ASCII
ending : Bool → List ℕ
ending is_open = codes ",ou=" ++ (unit_text is_open ++ codes ",dc=sample")

AreVisible-ending : (is_open : Bool) → AreVisible (ending is_open)
unfolding ending
AreVisible-ending true = AreVisible-from (ending true) refl
AreVisible-ending false = AreVisible-from (ending false) refl

pub AreVisible-name_text : (is_open : Bool) (identifier : List ℕ) → AreWords identifier → AreVisible (name_text is_open identifier)
unfolding ending
AreVisible-name_text is_open identifier are =
    all_append _ (codes "uid=") (identifier ++ ending is_open) (AreVisible-from (codes "uid=") refl)
    (all_append _ identifier (ending is_open) (AreVisible-words identifier are) (AreVisible-ending is_open))

-- a value that may be written as it stands
as_it_stands : (octets : List ℕ) → is_plain octets ≡ true → written_value octets ≡ codes ": " ++ octets
unfolding written_value
as_it_stands octets is = cond-true (is_plain octets) _ _ is

written_name : (is_open : Bool) (identifier : List ℕ) → AreWords identifier
    → written_value (print_name (person_of is_open identifier).name) ≡ codes ": " ++ name_text is_open identifier
written_name is_open identifier are =
    ap written_value (print_name-person is_open identifier are)
    ∙ as_it_stands (name_text is_open identifier)
    (is_plain-visible 117 (drop 1 (name_text is_open identifier)) (inr (omega arith, omega arith)) (AreVisible-name_text is_open identifier are).1)

-- the record of a person, of the written forms of its three values
record_of : List ℕ → List ℕ → List ℕ → List ℕ
record_of name class identifier =
    10 ∷ ((codes "dn" ++ (name ++ 10 ∷ []))
    ++ (((codes "objectClass" ++ (class ++ 10 ∷ [])) ++ []) ++ (((codes "uid" ++ (identifier ++ 10 ∷ [])) ++ []) ++ [])))

record_joined : (name identifier : List ℕ) → record_of (codes ": " ++ name) (codes ": account") (codes ": " ++ identifier)
    ≡ codes "\ndn: " ++ (name ++ (codes "\nobjectClass: account\nuid: " ++ (identifier ++ codes "\n")))
unfolding record_of
record_joined name identifier =
    ap (λ text. codes "\ndn: " ++ text)
    (append_assoc name (10 ∷ []) (codes "objectClass: account\nuid: " ++ (((identifier ++ 10 ∷ []) ++ []) ++ []))
    ∙ ap (λ text. name ++ (codes "\nobjectClass: account\nuid: " ++ text)) (append-nil ((identifier ++ 10 ∷ []) ++ []) ∙ append-nil (identifier ++ 10 ∷ [])))

written_record-by : (is_open : Bool) (identifier : List ℕ)
    → written_record (person_of is_open identifier)
    ≡ record_of (written_value (print_name (person_of is_open identifier).name)) (written_value (codes "account")) (written_value identifier)
unfolding record_of written_entry attributes
written_record-by is_open identifier = refl

pub written_record-in : (is_open : Bool) (identifier : List ℕ) → identifier ≢ [] → AreWords identifier
    → written_record (person_of is_open identifier)
    ≡ codes "\ndn: " ++ (name_text is_open identifier ++ (codes "\nobjectClass: account\nuid: " ++ (identifier ++ codes "\n")))
written_record-in is_open identifier filled are =
    written_record-by is_open identifier
    ∙ ap (λ name. record_of name (written_value (codes "account")) (written_value identifier)) (written_name is_open identifier are)
    ∙ ap (λ class. record_of (codes ": " ++ name_text is_open identifier) class (written_value identifier)) (as_it_stands (codes "account") (is_plain-words (codes "account") (λ e. absurd cc) (words_from (codes "account") refl)))
    ∙ ap (λ value. record_of (codes ": " ++ name_text is_open identifier) (codes ": account") value) (as_it_stands identifier (is_plain-words identifier filled are))
    ∙ record_joined (name_text is_open identifier) identifier

-- that of a number
written_record-person : (number : ℕ) → number ≤ 200000 → written_record (person number) ≡ person_record number
unfolding person_record person_name
written_record-person number fits =
    let identifier = IsIdentifier-of number fits in
    written_record-in ((number % 2) == 1) (codes "u" ++ decimal number) identifier.filled identifier.words

-- the entries behind the area, persons in the order of their numbers
unfoldable pub later_entries : ℕ → List EntryInformation
later_entries zero = subentry ∷ unit_entry (codes "open") ∷ unit_entry (codes "shut") ∷ []
later_entries (suc count) = later_entries count ++ person (suc count) ∷ []

-- the file of one entry more
written_file-push : (entries : List EntryInformation) (entry : EntryInformation) → written_file (entries ++ entry ∷ []) ≡ written_file entries ++ written_record entry
unfolding written_file
written_file-push entries entry =
    ap (λ text. codes "version: 1" ++ (10 ∷ text))
    (flat_map-append written_record entries (entry ∷ []) ∙ ap (λ text. written_records entries ++ text) (append-nil (written_record entry)))

-- what the file of no persons computes by
head_written : written_file (area ∷ later_entries 0) ≡ sample_file 0
unfolding written_file written_entry written_value is_plain print_name print_by print_value attributes class_of later_entries sample_file
head_written = refl

pub written_file-sample : (count : ℕ) → count ≤ 200000 → written_file (area ∷ later_entries count) ≡ sample_file count
unfolding later_entries sample_file
written_file-sample zero fits = head_written
written_file-sample (suc count) fits =
    written_file-push (area ∷ later_entries count) (person (suc count))
    ∙ ap (λ text. text ++ written_record (person (suc count))) (written_file-sample count (omega arith))
    ∙ ap (λ text. sample_file count ++ text) (written_record-person (suc count) fits)
