-- Each entry of a sample is one that a file may be written of.
use Rattle.std.proofs.Common.{◌≡◌, ℕ, zero, suc, ◌<◌, ◌≤◌, ◌%◌, ◌==◌, Bool, true, List, [], ◌∷◌, ◌++◌, length, slice_index, decimal, refl, sym, subst, arith}
use Rattle.std.specs.Prelude.{codes, nat_lt}
use Rattle.std.specs.List.{AllByRecursion, list_all}
use Rattle.std.proofs.lemmas.Bool.{and_parts, ltb-true}
use Rattle.dir_tree.proofs.base_laws_proofs.Theorems.{all_push}
use Rattle.dir_tree.specs.schema_tables.Attributes.{attributes, IsAttrId}
use Rattle.dir_tree.specs.dn_names.Classes.{class_of}
use Rattle.dir_tree.specs.dn_names.Printing.{print_value, print_by, print_name}
use Rattle.ldif_load.specs.ldif_records.writing.WrittenFile.{TypeAndOctets, values_in, IsWritable}
use Rattle.sample_laws.specs.SampleEntries.{area, subentry, unit_entry, person}
use Rattle.sample_laws.proofs.laws.WordLemmas.{IsIdentifier, IsIdentifier-of, octets-visible, AreVisible-words}
use Rattle.sample_laws.proofs.laws.TextLemmas.{person_of, name_text, print_name-person, AreVisible-name_text, later_entries}

-- the octets are below 256, as a test tells
abbrev AreOctets : List ℕ → Type 0
AreOctets octets = (index : ℕ) → slice_index octets index < 256

abbrev are_octets : List ℕ → Bool
are_octets octets = list_all (λ octet. nat_lt octet 256) octets

octets_from : (octets : List ℕ) → are_octets octets ≡ true → AreOctets octets
octets_from [] is index = omega arith
octets_from (octet ∷ octets) is zero = ltb-true octet 256 (and_parts (nat_lt octet 256) (are_octets octets) is).0
octets_from (octet ∷ octets) is (suc index) = octets_from octets (and_parts (nat_lt octet 256) (are_octets octets) is).1 index

values_from : (values : List TypeAndOctets) → list_all (λ (value : TypeAndOctets). are_octets value.value) values ≡ true
    → AllByRecursion (λ (value : TypeAndOctets). AreOctets value.value) values
values_from [] is = tt
values_from (value ∷ values) is =
    let parts = and_parts (are_octets value.value) (list_all (λ (value : TypeAndOctets). are_octets value.value) values) is in
    (octets_from value.value parts.0, values_from values parts.1)

-- the table has 35 types
in_table : (kind : ℕ) → kind < 35 → IsAttrId kind
unfolding attributes
in_table kind below = let all : length attributes ≡ 35 = refl in omega (arith, all)

-- the entries before all persons
writable_area : IsWritable area
unfolding print_name print_by print_value attributes class_of
writable_area = record {
  filled = let all : length (values_in area.attributes) ≡ 3 = refl in omega (arith, all);
  in_table = (in_table 0 (omega arith), (in_table 25 (omega arith), (in_table 29 (omega arith), tt)));
  name = octets_from (print_name area.name) refl;
  values = values_from (values_in area.attributes) refl;
}

writable_subentry : IsWritable subentry
unfolding print_name print_by print_value attributes class_of
writable_subentry = record {
  filled = let all : length (values_in subentry.attributes) ≡ 5 = refl in omega (arith, all);
  in_table = (in_table 0 (omega arith), (in_table 1 (omega arith), (in_table 30 (omega arith), (in_table 32 (omega arith), tt))));
  name = octets_from (print_name subentry.name) refl;
  values = values_from (values_in subentry.attributes) refl;
}

writable_open : IsWritable (unit_entry (codes "open"))
unfolding print_name print_by print_value attributes class_of
writable_open = record {
  filled = let all : length (values_in (unit_entry (codes "open")).attributes) ≡ 2 = refl in omega (arith, all);
  in_table = (in_table 0 (omega arith), (in_table 9 (omega arith), tt));
  name = octets_from (print_name (unit_entry (codes "open")).name) refl;
  values = values_from (values_in (unit_entry (codes "open")).attributes) refl;
}

writable_shut : IsWritable (unit_entry (codes "shut"))
unfolding print_name print_by print_value attributes class_of
writable_shut = record {
  filled = let all : length (values_in (unit_entry (codes "shut")).attributes) ≡ 2 = refl in omega (arith, all);
  in_table = (in_table 0 (omega arith), (in_table 9 (omega arith), tt));
  name = octets_from (print_name (unit_entry (codes "shut")).name) refl;
  values = values_from (values_in (unit_entry (codes "shut")).attributes) refl;
}

-- a person
writable_person : (is_open : Bool) (identifier : List ℕ) → IsIdentifier identifier → IsWritable (person_of is_open identifier)
writable_person is_open identifier is = record {
  filled = let all : length (values_in (person_of is_open identifier).attributes) ≡ 2 = refl in omega (arith, all);
  in_table = (in_table 0 (omega arith), (in_table 22 (omega arith), tt));
  name = subst AreOctets (sym (print_name-person is_open identifier is.words))
      (octets-visible (name_text is_open identifier) (AreVisible-name_text is_open identifier is.words));
  values = (octets_from (codes "account") refl, (octets-visible identifier (AreVisible-words identifier is.words), tt));
}

pub IsWritable-later : (count : ℕ) → count ≤ 200000 → AllByRecursion IsWritable (later_entries count)
unfolding later_entries
IsWritable-later zero fits = (writable_subentry, (writable_open, (writable_shut, tt)))
IsWritable-later (suc count) fits =
    all_push IsWritable (later_entries count) (person (suc count)) (IsWritable-later count (omega arith))
    (writable_person ((suc count % 2) == 1) (codes "u" ++ decimal (suc count)) (IsIdentifier-of (suc count) fits))

-- so are all entries of a sample
pub IsWritable-sample : (count : ℕ) → count ≤ 200000 → AllByRecursion IsWritable (area ∷ later_entries count)
IsWritable-sample count fits = (writable_area, IsWritable-later count fits)
