-- How a data record becomes an entry of the tree, or why it doesn't (RFC 2849, ldif-attrval-record): its lines in order,
-- then the values of its own RDN, then its place. The first fault is the one that is found in this order.
use Rattle.std.specs.Prelude.{◌≡◌, ℕ, nat_le, if◌then◌else◌, List, [], ◌∷◌, length, Option, Some, None, Result, Ok, Err}
pub use Rattle.dir_tree.specs.plain_values.Results.{◌>>=◌}
use Rattle.dir_tree.specs.schema_tables.Attributes.{attr_of}
use Rattle.dir_tree.specs.dn_names.declared.error.BadName.{BadName}
use Rattle.dir_tree.specs.dn_names.name.Names.{Keyed, TypeAndValue, RdnSequence, last_rdn}
use Rattle.dir_tree.specs.dn_names.parsing.NameText.{read_name}
use Rattle.dir_tree.specs.dn_names.NameValues.{value_of}
use Rattle.dir_tree.specs.dn_names.Limits.{most_octets}
use Rattle.dir_tree.specs.Entry.{EntryInformation, values_of, has_key}
use Rattle.dir_tree.specs.attributes.Changes.{with_value}
use Rattle.dir_tree.specs.tree.Trees.{has_name, lacks_superior}
use Rattle.dir_tree.specs.tree.Numbered.{Numbered, entries_of, entry_of, put_entry}
use Rattle.ldif_records.specs.declared.types.Record.{Record}
use Rattle.ldif_records.specs.declared.types.RecordLine.{RecordLine}
use Rattle.aci_item.specs.declared.entry_rule.EntryRule.{EntryRule}
use Rattle.aci_item.specs.declared.entry_rule.EntryRule.TheVariants.{Limits}
use Rattle.aci_item.specs.Rules.{broken_rule}
use Rattle.ldif_load.specs.declared.fault.LoadCause.{LoadCause}
use Rattle.ldif_load.specs.declared.fault.LoadCause.TheVariants.{Name, Kind, Value, Twice, Order, Rule, Limit}
use Rattle.ldif_load.specs.declared.fault.LoadFault.{LoadFault}
use Rattle.ldif_load.specs.declared.fault.LoadFault.TheVariants as load_fault

-- the record is bad at this line, for this
pub data RecordFault : Type 0 where
  Bad : (line : ℕ) (cause : LoadCause) → RecordFault

-- the fault of the record that an answer tells; want of memory is none
abbrev pub fault_of : LoadFault → Option RecordFault
fault_of (load_fault.Bad line cause) = Some (Bad line cause)
fault_of load_fault.NoMemory = None

-- the name, where reading gave one that isn't empty
abbrev pub named : ℕ → Result RdnSequence BadName → Result RdnSequence RecordFault
named line (Ok []) = Err (Bad line Name)
named line (Ok (rdn ∷ rdns)) = Ok (rdn ∷ rdns)
named line (Err bad) = Err (Bad line Name)

-- the value of the type that the octets are: at most 65,536, and of its syntax
abbrev pub loaded_value : ℕ → List ℕ → Option Keyed
loaded_value kind octets = if nat_le (length octets) most_octets then value_of kind octets else None

-- the entry with the value of the line
abbrev pub with_new_value : EntryInformation → ℕ → ℕ → Option Keyed → Result EntryInformation RecordFault
with_new_value entry line kind None = Err (Bad line Value)
with_new_value entry line kind (Some value) =
    if has_key value.key (values_of kind entry.attributes) then Err (Bad line Twice) else Ok (with_value kind value entry)

-- the same, where the type is known
abbrev pub with_new_kind : EntryInformation → RecordLine → Option ℕ → Result EntryInformation RecordFault
with_new_kind entry line None = Err (Bad line.line Kind)
with_new_kind entry line (Some kind) = with_new_value entry line.line kind (loaded_value kind line.value)

-- the entry with an attribute line
abbrev pub with_line : EntryInformation → RecordLine → Result EntryInformation RecordFault
with_line entry line = with_new_kind entry line (attr_of line.kind)

-- the entry with attribute lines, or the first bad one
unfoldable pub with_lines : EntryInformation → List RecordLine → Result EntryInformation RecordFault
with_lines entry [] = Ok entry
with_lines entry (line ∷ lines) = with_line entry line >>= λ more. with_lines more lines

-- the entry with those of the pairs' values that it lacks, last
unfoldable pub with_pairs : EntryInformation → List TypeAndValue → EntryInformation
with_pairs entry [] = entry
with_pairs entry (pair ∷ pairs) = with_pairs (with_value pair.kind pair.value entry) pairs

-- the entry with the values of its own RDN
abbrev pub with_own_values : EntryInformation → EntryInformation
with_own_values entry = with_pairs entry (last_rdn entry.name)

-- the entry of a record, wherever it will stand
unfoldable pub entry_of_record : Record → Result EntryInformation RecordFault
entry_of_record given = named given.line (read_name given.name) >>= λ name. with_lines (record { name = name; attributes = [] }) given.lines >>= λ entry.
    Ok (with_own_values entry)

-- what is told of a broken rule: what goes past a limit is told apart
abbrev pub cause_of : EntryRule → LoadCause
cause_of Limits = Limit
cause_of rule = Rule rule

-- the entry, where it breaks no rule
abbrev pub ruled : ℕ → EntryInformation → Option EntryRule → Result EntryInformation RecordFault
ruled line entry None = Ok entry
ruled line entry (Some rule) = Err (Bad line (cause_of rule))

-- the entry, where it may join the entries
unfoldable pub placed : List EntryInformation → ℕ → EntryInformation → Result EntryInformation RecordFault
placed entries line entry =
    if has_name entry.name entries then Err (Bad line Twice)
    else if lacks_superior entry.name entries then Err (Bad line Order)
    else ruled line entry (broken_rule None entries entry)

-- the entry that a record adds to the entries, or why it adds none
unfoldable pub loaded_entry : List EntryInformation → Record → Result EntryInformation RecordFault
loaded_entry entries given = entry_of_record given >>= placed entries given.line

-- the record adds the entry to the tree, under a number that was free
pub record IsLoaded (old : List Numbered) (given : Record) (new : List Numbered) : Type 0 where
  pub id : ℕ
  pub entry : EntryInformation
  pub loaded : loaded_entry (entries_of old) given ≡ Ok entry
  pub free : entry_of id old ≡ None
  pub added : new ≡ put_entry id entry old
