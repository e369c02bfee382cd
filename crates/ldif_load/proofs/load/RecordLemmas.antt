-- A record step by step: its name, its lines, its place.
use Rattle.std.proofs.Common.{◌≡◌, ℕ, List, [], Result, Ok, Err, refl, sym, ap, ◌∙◌}
use Rattle.std.specs.Prelude.{IfErr}
use Rattle.dir_tree.specs.dn_names.name.Names.{RdnSequence}
use Rattle.dir_tree.specs.dn_names.parsing.NameText.{read_name}
use Rattle.dir_tree.specs.Entry.{EntryInformation}
use Rattle.ldif_records.specs.declared.types.Record.{Record}
use Rattle.ldif_records.specs.declared.types.RecordLine.{RecordLine}
use Rattle.ldif_load.specs.declared.fault.LoadFault.{LoadFault}
use Rattle.ldif_load.specs.declared.fault.LoadFault.TheVariants as load_fault
use Rattle.ldif_load.specs.load.Loading.{◌>>=◌, RecordFault, named, with_lines, with_own_values, entry_of_record, placed, loaded_entry, fault_of}
use Rattle.dir_tree.specs.plain_values.Answers.{IsFaultOf}

-- what is fetched of an answer that was Ok
pub same-ok : {A E : Type 0} (one other : A) → ◌≡◌ {A = Result A E} (Ok one) (Ok other) → one ≡ other
same-ok one other same = cc

-- the first step is bad
first-bad : {A B : Type 0} (fault : LoadFault) (first : Result A RecordFault) (next : A → Result B RecordFault) → IsFaultOf (fault_of fault) first → IsFaultOf (fault_of fault) (first >>= next)
first-bad (load_fault.Bad line cause) first next is = ap (λ found. found >>= next) is
first-bad load_fault.NoMemory first next is = tt

-- the name is bad
pub record-name : (fault : LoadFault) (given : Record) (octets : List ℕ) → octets ≡ given.name → IsFaultOf (fault_of fault) (named given.line (read_name octets)) → IsFaultOf (fault_of fault) (entry_of_record given)
unfolding entry_of_record
record-name fault given octets same is =
    first-bad fault (named given.line (read_name given.name)) _ (rw same at is)

-- the name is good: the rest of the record
record-named : (given : Record) (octets : List ℕ) (name : RdnSequence) → octets ≡ given.name → named given.line (read_name octets) ≡ Ok name
    → entry_of_record given ≡ (with_lines (record { name = name; attributes = [] }) given.lines >>= λ entry. Ok (with_own_values entry))
unfolding entry_of_record
record-named given octets name same good =
    ap (λ found. found >>= λ name. with_lines (record { name = name; attributes = [] }) given.lines >>= λ entry. Ok (with_own_values entry)) (ap (λ found. named given.line (read_name found)) (sym same) ∙ good)

lines_of : (name : RdnSequence) (entry : EntryInformation) (lines found : List RecordLine) → entry ≡ record { name = name; attributes = [] } → lines ≡ found
    → with_lines (record { name = name; attributes = [] }) found ≡ with_lines entry lines
lines_of name entry lines found new same = rw (new, same) refl

by_fault : {A : Type 0} (fault : LoadFault) (one other : Result A RecordFault) → one ≡ other → IsFaultOf (fault_of fault) other → IsFaultOf (fault_of fault) one
by_fault (load_fault.Bad line cause) one other same is = same ∙ is
by_fault load_fault.NoMemory one other same is = tt

-- a line is bad
pub record-line : (fault : LoadFault) (given : Record) (octets : List ℕ) (name : RdnSequence) (entry : EntryInformation) (lines : List RecordLine)
    → octets ≡ given.name → named given.line (read_name octets) ≡ Ok name → entry ≡ record { name = name; attributes = [] } → lines ≡ given.lines
    → IsFaultOf (fault_of fault) (with_lines entry lines) → IsFaultOf (fault_of fault) (entry_of_record given)
record-line fault given octets name entry lines same good new held is =
    by_fault fault _ _ (record-named given octets name same good)
    (first-bad fault _ (λ more. Ok (with_own_values more)) (by_fault fault _ _ (lines_of name entry lines given.lines new held) is))

-- all is good
pub record-good : (given : Record) (octets : List ℕ) (name : RdnSequence) (entry more : EntryInformation) (lines : List RecordLine)
    → octets ≡ given.name → named given.line (read_name octets) ≡ Ok name → entry ≡ record { name = name; attributes = [] } → lines ≡ given.lines
    → with_lines entry lines ≡ Ok more → entry_of_record given ≡ Ok (with_own_values more)
record-good given octets name entry more lines same good new held lined =
    record-named given octets name same good
    ∙ ap (λ found. found >>= λ entry. Ok (with_own_values entry)) (lines_of name entry lines given.lines new held ∙ lined)

-- the record has no entry
pub loaded-record : (fault : LoadFault) (entries : List EntryInformation) (given : Record) → IsFaultOf (fault_of fault) (entry_of_record given) → IsFaultOf (fault_of fault) (loaded_entry entries given)
unfolding loaded_entry
loaded-record (load_fault.Bad line cause) entries given is = ap (λ found. found >>= placed entries given.line) is
loaded-record load_fault.NoMemory entries given is = tt

-- its entry has no place
pub loaded-placed : (entries : List EntryInformation) (given : Record) (entry : EntryInformation) → entry_of_record given ≡ Ok entry → loaded_entry entries given ≡ placed entries given.line entry
unfolding loaded_entry
loaded-placed entries given entry is = ap (λ found. found >>= placed entries given.line) is

pub loaded-place : (fault : LoadFault) (entries : List EntryInformation) (given : Record) (entry : EntryInformation) → entry_of_record given ≡ Ok entry → IsFaultOf (fault_of fault) (placed entries given.line entry)
    → IsFaultOf (fault_of fault) (loaded_entry entries given)
loaded-place (load_fault.Bad line cause) entries given entry is bad = loaded-placed entries given entry is ∙ bad
loaded-place load_fault.NoMemory entries given entry is bad = tt

-- a call that fails by `?` gives the fault of what it called
pub load_fault-gives : {A : Type 0} (result : Result A LoadFault) (fault other : LoadFault) (P : LoadFault → Type 0) → result ≡ Err fault → fault ≡ other → P other
    → IfErr result P
load_fault-gives result fault other P is same gives = rw (is, same) gives
