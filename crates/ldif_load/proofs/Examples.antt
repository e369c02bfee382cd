-- The definitions on small cases.
use Rattle.std.proofs.Common.{◌≡◌, ℕ, false, [], ◌∷◌, List, Some, Ok, Err, refl}
use Rattle.std.specs.Prelude.{codes}
use lib.Utf8.{encode}
use Rattle.std.specs.Str.{is_utf8, chars}
use Rattle.dir_tree.specs.dn_names.declared.error.BadName.TheVariants.{TooMany}
use Rattle.dir_tree.specs.schema_tables.Attributes.{attributes}
use Rattle.dir_tree.specs.schema_tables.classes.Classes.{classes}
use Rattle.dir_tree.specs.schema_tables.roles.Roles.{roles}
use Rattle.dir_tree.specs.schema_tables.Oids.{is_dotted_oid}
use Rattle.dir_tree.specs.match_rules.Keys.{prepared_text, key_of}
use Rattle.dir_tree.specs.match_rules.Syntaxes.{is_of}
use Rattle.dir_tree.specs.dn_names.name.Names.{Keyed, RdnSequence}
use Rattle.dir_tree.specs.dn_names.NameValues.{value_of}
use Rattle.dir_tree.specs.dn_names.Resolving.{naming_value, pair_meaning, resolve}
use Rattle.dir_tree.specs.dn_names.parsing.NameText.{read_name}
use Rattle.dir_tree.specs.dn_names.Modes.{text_fault}
use Rattle.dir_tree.specs.dn_names.Classes.{class_of}
use Rattle.dir_tree.specs.dn_names.Reading.{written_of, rdn_of, parts_of, pair_of, value_octets}
use Rattle.caseless.proofs.Computing.{caseless}
use Rattle.dir_tree.specs.match_rules.Folding.{folded_octets}
use Rattle.dir_tree.specs.dn_names.NameOrder.{name_cmp, is_same}
use Rattle.dir_tree.specs.Entry.{EntryInformation}
use Rattle.ldif_records.specs.declared.types.RecordLine.{RecordLine}
use Rattle.ldif_records.specs.lines.Lines.{logical, beginning, continued}
use Rattle.ldif_records.specs.reading.Records.{without_comments, is_version, without_version, records}
use Rattle.ldif_records.specs.lines.Places.{physical_from, logical_from, content_from, body_from, records_from}
use Rattle.ldif_records.specs.declared.types.LineCause.TheVariants.{Syntax}
use Rattle.ldif_records.specs.writing.WrittenFile.{written_file}
use Rattle.dir_tree.specs.tree.Trees.{lacks_superior, put_in}
use Rattle.aci_item.specs.declared.entry_rule.EntryRule.TheVariants.{Classes, Limits}
use Rattle.ldif_load.specs.declared.fault.LoadCause.TheVariants.{Name, Kind, Value, Twice, Order, Rule, Limit}
use Rattle.ldif_load.specs.load.Loading.{Bad, named, entry_of_record, with_lines, with_pairs, with_own_values, ruled, placed}
use Rattle.ldif_load.specs.load.DataFile.{OfLine, loads}

-- a line of a record
line : ℕ → List ℕ → List ℕ → RecordLine
line number kind value = record { line = number; kind = kind; value = value }

-- a value whose key is its octets
plain_value : List ℕ → Keyed
plain_value octets = record { octets = octets; key = octets }

-- dc=a, and ou=b below it
root : RdnSequence
root = (record { kind = 25; value = record { octets = codes "A"; key = codes "a" } } ∷ []) ∷ []

below : RdnSequence
below = (record { kind = 25; value = record { octets = codes "a"; key = codes "a" } } ∷ []) ∷ (record { kind = 9; value = record { octets = codes "b"; key = codes "b" } } ∷ []) ∷ []

bare : RdnSequence → EntryInformation
bare name = record { name = name; attributes = [] }

-- the name of no RDN names no entry
the_empty_name : named 3 (Ok []) ≡ Err (Bad 3 Name)
the_empty_name = refl

no_name : named 3 (Err TooMany) ≡ Err (Bad 3 Name)
no_name = refl

-- lines in order: values of a type come together
lines_in_order : with_lines (bare root) (line 2 (codes "userPassword") (codes "x") ∷ line 3 (codes "objectClass") (codes "Top") ∷ line 4 (codes "2.5.4.35") (codes "y") ∷ [])
    ≡ Ok (record {
      name = root;
      attributes =
          record { kind = 18; values = plain_value (codes "x") ∷ plain_value (codes "y") ∷ [] }
          ∷ record { kind = 0; values = record { octets = codes "Top"; key = codes "2.5.6.0" } ∷ [] }
          ∷ [];
    })
unfolding bare root line plain_value with_lines attributes classes roles is_dotted_oid is_utf8 encode chars value_of key_of is_of
lines_in_order = refl

-- the first bad line decides, and in it the type, the value and then an equal value
an_unknown_type : with_lines (bare root) (line 2 (codes "zz") (codes "x") ∷ line 3 (codes "objectClass") (codes "no class") ∷ []) ≡ Err (Bad 2 Kind)
unfolding bare root line with_lines attributes
an_unknown_type = refl

no_value : with_lines (bare root) (line 2 (codes "objectClass") (codes "no class") ∷ line 3 (codes "zz") (codes "x") ∷ []) ≡ Err (Bad 2 Value)
unfolding bare root line with_lines attributes classes roles is_dotted_oid is_utf8 encode chars value_of
no_value = refl

an_equal_value : with_lines (bare root) (line 2 (codes "objectClass") (codes "top") ∷ line 3 (codes "userPassword") (codes "x") ∷ line 4 (codes "OBJECTCLASS") (codes "2.5.6.0") ∷ []) ≡ Err (Bad 4 Twice)
unfolding bare root line with_lines attributes classes roles is_dotted_oid is_utf8 encode chars value_of key_of is_of
an_equal_value = refl

-- values of the own RDN come last, unless they are there
own_value_last : (with_own_values (record { name = root; attributes = record { kind = 18; values = plain_value (codes "x") ∷ [] } ∷ [] })).attributes
    ≡ record { kind = 18; values = plain_value (codes "x") ∷ [] } ∷ record { kind = 25; values = record { octets = codes "A"; key = codes "a" } ∷ [] } ∷ []
unfolding root plain_value with_pairs
own_value_last = refl

own_value_there : (with_own_values (record { name = root; attributes = record { kind = 25; values = plain_value (codes "a") ∷ [] } ∷ [] })).attributes ≡ record { kind = 25; values = plain_value (codes "a") ∷ [] } ∷ []
unfolding root plain_value with_pairs
own_value_there = refl

-- the place of an entry: its name is free in any spelling, and its superior is there, but for the first entry
a_name_twice : placed (bare root ∷ []) 1 (bare ((record { kind = 25; value = plain_value (codes "a") } ∷ []) ∷ [])) ≡ Err (Bad 1 Twice)
unfolding bare root plain_value placed name_cmp is_same
a_name_twice = refl

no_superior : placed (bare root ∷ []) 1 (bare ((record { kind = 9; value = plain_value (codes "b") } ∷ []) ∷ [])) ≡ Err (Bad 1 Order)
unfolding bare root plain_value placed name_cmp is_same
no_superior = refl

a_superior_in_another_spelling : lacks_superior below (bare root ∷ []) ≡ false
unfolding bare root below name_cmp is_same
a_superior_in_another_spelling = refl

a_rule_is_told : ruled 1 (bare root) (Some Classes) ≡ Err (Bad 1 (Rule Classes))
a_rule_is_told = refl

a_limit_is_told_apart : ruled 1 (bare root) (Some Limits) ≡ Err (Bad 1 Limit)
a_limit_is_told_apart = refl

-- entries stand in the order of their names
a_superior_comes_first : put_in (bare root) (bare below ∷ []) ≡ bare root ∷ bare below ∷ []
unfolding bare root below name_cmp is_same
a_superior_comes_first = refl

an_entry_comes_after : put_in (bare below) (bare root ∷ []) ≡ bare root ∷ bare below ∷ []
unfolding bare root below name_cmp is_same
an_entry_comes_after = refl

-- a file without records is bad at its first line, and is what is written of no entries
an_empty_file : loads [] ≡ Err (record { line = 1; cause = OfLine Syntax })
unfolding loads physical_from logical_from content_from body_from records_from without_comments without_version records logical beginning continued is_version
an_empty_file = refl

a_file_of_nothing : loads (written_file []) ≡ Err (record { line = 1; cause = OfLine Syntax })
unfolding loads written_file physical_from logical_from content_from body_from records_from without_comments without_version records logical beginning continued is_version
a_file_of_nothing = refl

-- what reading a name computes by
unfoldable pub reading_names : Unit {0}
unfolding caseless encode chars is_utf8 folded_octets prepared_text key_of is_of attributes classes roles is_dotted_oid value_of naming_value pair_meaning resolve read_name text_fault class_of written_of rdn_of parts_of pair_of value_octets
reading_names = tt

a_name_is_read : entry_of_record (record { line = 1; name = codes "DC=A"; lines = line 2 (codes "userPassword") (codes "x") ∷ [] })
    ≡ Ok (record {
      name = root;
      attributes = record { kind = 18; values = plain_value (codes "x") ∷ [] } ∷ record { kind = 25; values = record { octets = codes "A"; key = codes "a" } ∷ [] } ∷ [];
    })
unfolding entry_of_record line root plain_value with_lines with_pairs reading_names
a_name_is_read = refl
