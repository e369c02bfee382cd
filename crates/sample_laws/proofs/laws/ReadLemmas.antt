-- The record of a person gives its entry.
use Rattle.std.proofs.Common.{◌≡◌, ◌≢◌, ℕ, ◌+◌, ◌≤◌, nat_le, Bool, true, false, if◌then◌else◌, List, [], ◌∷◌, length, Option, Some, None, option_map, Result, Ok, refl, ap, ◌∙◌, arith}
use Rattle.std.specs.Prelude.{codes}
use Rattle.std.specs.Str.{is_utf8, chars, bytes_eq}
use lib.Utf8.{encode}
use Rattle.std.proofs.lemmas.Bool.{le-leb}
use Rattle.std.proofs.lemmas.Slice.Eq.{bytes_eq-Decides}
use Rattle.dir_tree.specs.match_rules.declared.rules.Rule.TheVariants.{Text, Ascii}
use Rattle.dir_tree.specs.match_rules.Keys.{key_of}
use Rattle.dir_tree.specs.schema_tables.Attributes.{attributes}
use Rattle.dir_tree.specs.schema_tables.classes.Classes.{classes}
use Rattle.dir_tree.specs.schema_tables.roles.Roles.{roles}
use Rattle.dir_tree.specs.schema_tables.Oids.{is_dotted_oid}
use Rattle.dir_tree.specs.dn_names.Limits.{most_octets}
use Rattle.dir_tree.specs.dn_names.name.Names.{RdnSequence}
use Rattle.dir_tree.specs.dn_names.name.GoodNames.{IsGoodRdn, IsGoodName}
use Rattle.dir_tree.specs.dn_names.NameValues.{value_of}
use Rattle.dir_tree.specs.dn_names.Resolving.{naming_value}
use Rattle.dir_tree.specs.dn_names.parsing.NameText.{read_name}
use Rattle.dir_tree.specs.dn_names.Printing.{print_name}
use Rattle.dir_tree.proofs.dn_names_proofs.Theorems.{read_name-print_name}
use Rattle.dir_tree.specs.Entry.{EntryInformation}
use Rattle.ldif_load.specs.ldif_records.writing.WrittenFile.{values_in, lines_from, record_from}
use Rattle.ldif_load.specs.load.Loading.{◌>>=◌, RecordFault, named, loaded_value, with_new_value, with_lines, with_pairs, with_own_values, entry_of_record}
use Rattle.sample_laws.specs.SampleEntries.{own, rdn, known, with_one, ou, uid, dc}
use Rattle.sample_laws.proofs.laws.WordLemmas.{AreWords, words_from, IsIdentifier, text_key-words, ascii_key-words}
use Rattle.sample_laws.proofs.laws.TextLemmas.{unit_text, person_of}

-- a value that is its own key, where it is short enough
value_where : (test : Bool) (octets : List ℕ) (key : Option (List ℕ)) → test ≡ true → key ≡ Some octets
    → (if test then option_map (λ key. record { octets = octets; key = key }) key else None) ≡ Some (own octets)
value_where test octets key is same = rw (is, same)

named_text : (octets : List ℕ) → octets ≢ [] → AreWords octets → length octets ≤ most_octets → naming_value ou octets ≡ Some (own octets)
unfolding naming_value attributes
named_text octets filled are fits =
    value_where (nat_le (length octets) most_octets) octets (key_of Text octets) (le-leb (length octets) most_octets fits) (text_key-words octets filled are)

named_uid : (octets : List ℕ) → octets ≢ [] → AreWords octets → length octets ≤ most_octets → naming_value uid octets ≡ Some (own octets)
unfolding naming_value attributes
named_uid octets filled are fits =
    value_where (nat_le (length octets) most_octets) octets (key_of Text octets) (le-leb (length octets) most_octets fits) (text_key-words octets filled are)

named_area : naming_value dc (codes "sample") ≡ Some (own (codes "sample"))
unfolding naming_value attributes
named_area = value_where true (codes "sample") (key_of Ascii (codes "sample")) refl (ascii_key-words (codes "sample") (λ e. absurd cc) (words_from (codes "sample") refl))

-- an RDN of one good pair
good_rdn : (kind : ℕ) (octets : List ℕ) → naming_value kind octets ≡ Some (own octets) → IsGoodRdn (rdn kind octets)
good_rdn kind octets is = record { filled = λ e. absurd cc; good = (is, tt); ordered = (tt, tt) }

unit_words : (is_open : Bool) → AreWords (unit_text is_open)
unit_words true = words_from (codes "open") refl
unit_words false = words_from (codes "shut") refl

good_unit : (is_open : Bool) → naming_value ou (unit_text is_open) ≡ Some (own (unit_text is_open))
good_unit true = named_text (codes "open") (λ e. absurd cc) (unit_words true) (omega arith)
good_unit false = named_text (codes "shut") (λ e. absurd cc) (unit_words false) (omega arith)

-- the name of a person is a good one
pub IsGoodName-person : (is_open : Bool) (identifier : List ℕ) → IsIdentifier identifier → IsGoodName (person_of is_open identifier).name
IsGoodName-person is_open identifier is = record {
  fits = omega arith;
  good = (
    good_rdn dc (codes "sample") named_area,
    (good_rdn ou (unit_text is_open) (good_unit is_open), (good_rdn uid identifier (named_uid identifier is.filled is.words is.fits), tt)),
  );
}

name_read : (is_open : Bool) (identifier : List ℕ) (line : ℕ) → IsIdentifier identifier
    → named line (read_name (print_name (person_of is_open identifier).name)) ≡ Ok (person_of is_open identifier).name
name_read is_open identifier line is =
    ap (named line) (read_name-print_name (person_of is_open identifier).name (IsGoodName-person is_open identifier is))

-- the value of its line
value_loaded : (octets : List ℕ) → octets ≢ [] → AreWords octets → length octets ≤ most_octets → loaded_value uid octets ≡ Some (own octets)
unfolding value_of attributes
value_loaded octets filled are fits =
    value_where (nat_le (length octets) most_octets) octets (key_of Text octets) (le-leb (length octets) most_octets fits) (text_key-words octets filled are)

-- its two lines
lines_read : (is_open : Bool) (identifier : List ℕ) (line : ℕ) → IsIdentifier identifier
    → with_lines (record { name = (person_of is_open identifier).name; attributes = [] }) (lines_from line (values_in (person_of is_open identifier).attributes)) ≡ Ok (person_of is_open identifier)
unfolding with_lines attributes classes roles is_dotted_oid is_utf8 encode chars value_of
lines_read is_open identifier line is =
    let entry : EntryInformation = record { name = (person_of is_open identifier).name; attributes = with_one 0 (known "account" "0.9.2342.19200300.100.4.5") ∷ [] } in
    ap (λ value. with_new_value entry (line + 1) uid value >>= λ more. with_lines more []) (value_loaded identifier is.filled is.words is.fits)

-- it has the value of its name
pub itself : (octets : List ℕ) → bytes_eq octets octets ≡ true
itself octets = (bytes_eq-Decides octets octets).1 refl

own_values : (is_open : Bool) (identifier : List ℕ) → with_own_values (person_of is_open identifier) ≡ person_of is_open identifier
unfolding with_pairs
own_values is_open identifier = rw (itself identifier)

pub entry_of_record-person : (is_open : Bool) (identifier : List ℕ) (line : ℕ) → IsIdentifier identifier
    → entry_of_record (record_from line (person_of is_open identifier)) ≡ Ok (person_of is_open identifier)
unfolding entry_of_record
entry_of_record-person is_open identifier line is =
    let lines = lines_from (line + 1) (values_in (person_of is_open identifier).attributes) in
    ap (λ (found : Result RdnSequence RecordFault). found >>= λ name. with_lines (record { name = name; attributes = [] }) lines >>= λ entry. Ok (with_own_values entry))
    (name_read is_open identifier line is)
    ∙ ap (λ (found : Result EntryInformation RecordFault). found >>= λ entry. Ok (with_own_values entry)) (lines_read is_open identifier (line + 1) is)
    ∙ ap (λ (entry : EntryInformation). Ok entry) (own_values is_open identifier)
