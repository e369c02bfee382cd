-- The records of a sample's file, loaded one after the other, give its entries.
use Rattle.std.proofs.Common.{◌≡◌, ℕ, zero, suc, ◌+◌, ◌%◌, ◌≤◌, ◌==◌, List, [], ◌∷◌, ◌++◌, length, decimal, Result, Ok, Err, refl, sym, ap, ◌∙◌, arith}
use Rattle.std.specs.Prelude.{codes}
use Rattle.std.specs.Str.{is_utf8, chars}
use lib.Utf8.{encode}
use Rattle.caseless.proofs.Computing.{caseless}
use Rattle.dir_tree.specs.match_rules.Keys.{prepared_text, key_of}
use Rattle.dir_tree.specs.match_rules.Folding.{folded_octets}
use Rattle.dir_tree.specs.match_rules.Syntaxes.{is_of}
use Rattle.dir_tree.specs.schema_tables.Attributes.{attributes}
use Rattle.dir_tree.specs.schema_tables.classes.Classes.{classes}
use Rattle.dir_tree.specs.schema_tables.roles.Roles.{roles}
use Rattle.dir_tree.specs.schema_tables.Oids.{is_dotted_oid}
use Rattle.dir_tree.specs.dn_names.Classes.{class_of}
use Rattle.dir_tree.specs.dn_names.Modes.{text_fault}
use Rattle.dir_tree.specs.dn_names.NameOrder.{name_cmp, is_same}
use Rattle.dir_tree.specs.dn_names.NameValues.{value_of}
use Rattle.dir_tree.specs.dn_names.Printing.{print_value, print_by, print_name}
use Rattle.dir_tree.specs.dn_names.Reading.{written_of, rdn_of, parts_of, pair_of, value_octets}
use Rattle.dir_tree.specs.dn_names.Resolving.{naming_value, pair_meaning, resolve}
use Rattle.dir_tree.specs.dn_names.parsing.NameText.{read_name}
use Rattle.dir_tree.specs.Entry.{EntryInformation}
use Rattle.dir_tree.specs.EntryClasses.{has_class}
use Rattle.dir_tree.specs.Points.{is_point, is_subentry, is_access_subentry}
use Rattle.dir_tree.specs.tree.Trees.{put_in, most_entries}
use Rattle.aci_item.specs.gser_tree.Lexing as lexing
use Rattle.aci_item.specs.gser_tree.Lexemes as lexemes
use Rattle.aci_item.specs.gser_tree.Growing as growing
use Rattle.aci_item.specs.gser_tree.Reading as numbers
use Rattle.aci_item.specs.subtree_spec.Parts as parts
use Rattle.aci_item.specs.subtree_spec.SubtreeText as subtrees
use Rattle.aci_item.specs.members.ItemParts as item_parts
use Rattle.aci_item.specs.ItemPrinted as printed
use Rattle.aci_item.specs.AciText as items
use Rattle.aci_item.specs.Rules.{lacks_own_value, has_other_structural, breaks_classes, has_unread, has_two_values, is_misplaced, is_past_limits, broken_rule}
use Rattle.ldif_load.specs.ldif_records.writing.WrittenFile.{values_in, record_from, entry_records}
use Rattle.ldif_load.proofs.ldif_records_proofs.Theorems.{file-reread}
use Rattle.ldif_load.specs.load.Loading.{◌>>=◌, RecordFault, with_lines, with_pairs, entry_of_record, placed, loaded_entry}
use Rattle.ldif_load.specs.load.DataFile.{FileFault, in_file, loads_after, loads_records, loads}
use Rattle.sample_input.specs.SampleFile.{sample_file}
use Rattle.sample_laws.specs.SampleEntries.{area, person, head_entries, sample_entries}
use Rattle.sample_laws.proofs.laws.WordLemmas.{IsIdentifier-of}
use Rattle.sample_laws.proofs.laws.TextLemmas.{later_entries, written_file-sample}
use Rattle.sample_laws.proofs.laws.WrittenLemmas.{IsWritable-sample}
use Rattle.sample_laws.proofs.laws.ReadLemmas.{entry_of_record-person}
use Rattle.sample_laws.proofs.laws.PlaceLemmas.{placed-person}

-- the record of the next person gives its entry
loaded_entry-person : (count line : ℕ) → count + 5 ≤ most_entries → loaded_entry (sample_entries count) (record_from line (person (suc count))) ≡ Ok (person (suc count))
unfolding loaded_entry
loaded_entry-person count line fits =
    ap (λ (found : Result EntryInformation RecordFault). found >>= placed (sample_entries count) line)
    (entry_of_record-person ((suc count % 2) == 1) (codes "u" ++ decimal (suc count)) line (IsIdentifier-of (suc count) (omega arith)))
    ∙ placed-person count line fits

-- a step that goes on otherwise
gone_on :
    (found : Result EntryInformation FileFault) (one other : EntryInformation → Result (List EntryInformation) FileFault) (all more : List EntryInformation)
    → ((entry : EntryInformation) → one entry ≡ Ok all → other entry ≡ Ok more) → (found >>= one) ≡ Ok all → (found >>= other) ≡ Ok more
gone_on (Ok entry) one other all more goes is = goes entry is
gone_on (Err fault) one other all more goes is = absurd cc

-- the record of an entry more behind those that load
loads_after-more :
    (all : List EntryInformation) (entry : EntryInformation) → ((line : ℕ) → loaded_entry all (record_from line entry) ≡ Ok entry)
    → (entries : List EntryInformation) (number : ℕ) (rest : List EntryInformation) → loads_after entries (entry_records number rest) ≡ Ok all
    → loads_after entries (entry_records number (rest ++ entry ∷ [])) ≡ Ok (put_in entry all)
unfolding loads_after
loads_after-more all entry last entries number [] is =
    let same : entries ≡ all = cc in
    ap (λ (before : List EntryInformation). in_file (loaded_entry before (record_from (number + 1) entry)) >>= λ one. Ok (put_in one before)) same
    ∙ ap (λ (found : Result EntryInformation RecordFault). in_file found >>= λ one. Ok (put_in one all)) (last (number + 1))
loads_after-more all entry last entries number (first ∷ rest) is =
    let next = number + 1 + 1 + length (values_in first.attributes) in
    gone_on (in_file (loaded_entry entries (record_from (number + 1) first)))
    (λ one. loads_after (put_in one entries) (entry_records next rest)) (λ one. loads_after (put_in one entries) (entry_records next (rest ++ entry ∷ [])))
    all (put_in entry all) (λ one goes. loads_after-more all entry last (put_in one entries) next rest goes) is

-- what loading a record computes by
unfoldable pub loading : Unit {0}
unfolding caseless encode chars is_utf8 folded_octets prepared_text key_of is_of attributes classes roles is_dotted_oid value_of naming_value pair_meaning resolve read_name text_fault class_of written_of rdn_of parts_of pair_of value_octets print_value print_by print_name name_cmp is_same has_class is_point is_subentry is_access_subentry lexing.lex lexing.step lexemes.class_of growing.grow growing.value_of growing.tree_of numbers.number parts.name_of parts.name parts.oid parts.class_oid subtrees.exclusions subtrees.item subtrees.refinement subtrees.components subtrees.subtree subtrees.read_subtree item_parts.level_word item_parts.basic_levels item_parts.level item_parts.bit item_parts.bits printed.print_classes printed.print_items printed.print_user_permission items.classes items.items items.user_permission items.user_first items.first items.aci_item items.read_item lacks_own_value has_other_structural breaks_classes has_unread has_two_values is_misplaced is_past_limits broken_rule with_lines with_pairs entry_of_record placed loaded_entry loads_after
loading = tt

-- the entries before all persons
head_loaded : loads_after [] (entry_records 2 head_entries) ≡ Ok head_entries
unfolding loading
head_loaded = refl

-- and one person after the other
records_loaded : (count : ℕ) → count + 4 ≤ most_entries → loads_after [] (entry_records 2 (area ∷ later_entries count)) ≡ Ok (sample_entries count)
unfolding later_entries sample_entries
records_loaded zero fits = head_loaded
records_loaded (suc count) fits =
    loads_after-more (sample_entries count) (person (suc count)) (λ line. loaded_entry-person count line (omega arith))
    [] 2 (area ∷ later_entries count) (records_loaded count (omega arith))

-- so the file gives the entries
pub loads-sample_file : (count : ℕ) → count + 4 ≤ most_entries → loads (sample_file count) ≡ Ok (sample_entries count)
unfolding loads
loads-sample_file count fits =
    ap loads (sym (written_file-sample count (omega arith)))
    ∙ ap loads_records (file-reread (area ∷ later_entries count) (IsWritable-sample count (omega arith)))
    ∙ records_loaded count fits
