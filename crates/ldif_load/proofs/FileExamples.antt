-- Whole files.
use Rattle.std.proofs.Common.{◌≡◌, ℕ, [], ◌∷◌, ◌++◌, List, Ok, Err, refl}
use Rattle.std.specs.Prelude.{codes, flat_map}
use Prim.Native.String.{String}
use Rattle.dir_tree.specs.dn_names.name.Names.{Keyed}
use Rattle.dir_tree.specs.dn_names.NameOrder.{name_cmp, is_same}
use Rattle.dir_tree.specs.dn_names.Printing.{print_value, print_by, print_name}
use Rattle.dir_tree.specs.Entry.{EntryInformation}
use Rattle.dir_tree.specs.EntryClasses.{has_class}
use Rattle.dir_tree.specs.Points.{is_subentry, is_access_subentry}
use Rattle.ldif_records.specs.lines.Lines.{logical, beginning, continued}
use Rattle.ldif_records.specs.Fields.{is_kind, field_of, after_spaces, decoded, is_changetype, is_dn}
use Rattle.ldif_records.specs.reading.Records.{without_comments, is_version, without_version, attribute_lines, record_of, records}
use Rattle.ldif_records.specs.lines.Places.{physical_from, logical_from, content_from, body_from, records_from}
use Rattle.ldif_records.specs.writing.Written.{is_plain, written_value, written_entry}
use Rattle.ldif_records.specs.writing.WrittenFile.{written_file}
use Rattle.aci_item.specs.Rules.{lacks_own_value, has_other_structural, breaks_classes, has_unread, has_two_values, is_misplaced, is_past_limits, broken_rule}
use Rattle.aci_item.specs.declared.entry_rule.EntryRule.TheVariants.{Classes}
use Rattle.ldif_load.specs.declared.fault.LoadCause.TheVariants.{Order, Rule, Twice}
use Rattle.ldif_load.specs.load.Loading.{with_lines, with_pairs, entry_of_record, placed, loaded_entry}
use Rattle.ldif_load.specs.load.DataFile.{OfRecord, loads_after, loads}
use Rattle.ldif_load.proofs.Examples.{reading_names}

-- lines that end in LF
ended : List String → List ℕ
ended lines = flat_map (λ line. codes line ++ 10 ∷ []) lines

value : String → String → Keyed
value octets key = record { octets = codes octets; key = codes key }

-- the entries of dc=a, and of ou=b below it
domain : EntryInformation
domain = record {
  name = (record { kind = 25; value = value "A" "a" } ∷ []) ∷ [];
  attributes = record { kind = 0; values = value "domain" "0.9.2342.19200300.100.4.13" ∷ [] } ∷ record { kind = 25; values = value "A" "a" ∷ [] } ∷ [];
}

unit : EntryInformation
unit = record {
  name = (record { kind = 25; value = value "a" "a" } ∷ []) ∷ (record { kind = 9; value = value "b" "b" } ∷ []) ∷ [];
  attributes = record { kind = 9; values = value "B" "b" ∷ [] } ∷ record { kind = 0; values = value "organizationalUnit" "2.5.6.5" ∷ [] } ∷ [];
}

-- what loading a file computes by
unfoldable loading : Unit {0}
unfolding reading_names name_cmp is_same has_class is_subentry is_access_subentry logical beginning continued is_kind field_of after_spaces decoded is_changetype is_dn without_comments is_version without_version attribute_lines record_of records physical_from logical_from content_from body_from records_from lacks_own_value has_other_structural breaks_classes has_unread has_two_values is_misplaced is_past_limits broken_rule with_lines with_pairs entry_of_record placed loaded_entry loads_after loads
loading = tt

-- two entries
a_tree : loads (ended ("version: 1" ∷ "" ∷ "dn: dc=A" ∷ "objectClass: domain" ∷ "" ∷ "dn: ou=b,dc=a" ∷ "ou: B" ∷ "objectClass: organizationalUnit" ∷ [])) ≡ Ok (domain ∷ unit ∷ [])
unfolding ended value domain unit loading
a_tree = refl

-- the superior stands after
no_superior : loads (ended ("dn: dc=a" ∷ "objectClass: domain" ∷ "" ∷ "dn: ou=c,ou=b,dc=a" ∷ "objectClass: organizationalUnit" ∷ []))
    ≡ Err (record { line = 4; cause = OfRecord Order })
unfolding ended loading
no_superior = refl

-- the name in another spelling comes before a broken rule
a_name_twice : loads (ended ("dn: dc=a" ∷ "objectClass: domain" ∷ "" ∷ "dn: DC= A" ∷ "objectClass: top" ∷ [])) ≡ Err (record { line = 4; cause = OfRecord Twice })
unfolding ended loading
a_name_twice = refl

-- no structural class
no_class : loads (ended ("dn: dc=a" ∷ "objectClass: top" ∷ [])) ≡ Err (record { line = 1; cause = OfRecord (Rule Classes) })
unfolding ended loading
no_class = refl

-- what is written is loaded again
written_and_loaded : loads (written_file (domain ∷ unit ∷ [])) ≡ Ok (domain ∷ unit ∷ [])
unfolding value domain unit written_file written_entry written_value is_plain print_name print_by print_value loading
written_and_loaded = refl
